-- Views that look at names and types alone change places with windows and with one another.
use Rattle.std.proofs.Common.{◌≡◌, ℕ, ℤ, Bool, List, sym, ◌∙◌}
use Rattle.graph_model.specs.declared.events.Entity.{Entity}
use Rattle.graph_model.specs.declared.queries.Op.{Op}
use Rattle.graph_model.specs.declared.queries.Op.TheVariants.{Window, At, Before, After, Layers, ExcludeLayers, Subgraph, ExcludeNodes, EdgesWhere, NodesWhere, Valid, NodeTypes}
use Rattle.graph_model.specs.World.{World, IsLawful}
use Rattle.graph_model.specs.Window.{window}
use Rattle.graph_model.specs.Keep.{keep, in_layers, outside_layers, among_nodes, apart_from_nodes, among_types}
use Rattle.graph_model.specs.Searches.{kind_of_view, IsNameView}
use Rattle.graph_model.specs.Stack.{view}
use Rattle.world_laws.proofs.Named.{keep_types_remade}
use Rattle.world_laws.proofs.Kept.{kept, keep-window, keep_comm}
use Rattle.world_laws.proofs.NodeTypes.{types_and_window, types_and_test}

pub name_view_and_window : (w : World) (a b : ℤ) (op : Op) → IsLawful w → kind_of_view op ≡ IsNameView → view (window w a b) op ≡ window (view w op) a b
name_view_and_window w a b (Layers names) h k = keep-window (in_layers names) w a b h
name_view_and_window w a b (ExcludeLayers names) h k = keep-window (outside_layers names) w a b h
name_view_and_window w a b (Subgraph names) h k = keep-window (among_nodes names) w a b h
name_view_and_window w a b (ExcludeNodes names) h k = keep-window (apart_from_nodes names) w a b h
name_view_and_window w a b (NodeTypes names) h k = types_and_window w a b names h
name_view_and_window w a b (Window c d) h k = cc
name_view_and_window w a b (At t) h k = cc
name_view_and_window w a b (Before t) h k = cc
name_view_and_window w a b (After t) h k = cc
name_view_and_window w a b (EdgesWhere key c v) h k = cc
name_view_and_window w a b (NodesWhere key c v) h k = cc
name_view_and_window w a b Valid h k = cc

-- a name view of the entities that pass a test
name_view_and_test : (w : World) (p : Entity → Bool) (op : Op) → kind_of_view op ≡ IsNameView → view (keep p w) op ≡ keep p (view w op)
name_view_and_test w p (Layers names) k = keep_comm p (in_layers names) w
name_view_and_test w p (ExcludeLayers names) k = keep_comm p (outside_layers names) w
name_view_and_test w p (Subgraph names) k = keep_comm p (among_nodes names) w
name_view_and_test w p (ExcludeNodes names) k = keep_comm p (apart_from_nodes names) w
name_view_and_test w p (NodeTypes names) k = types_and_test w p names
name_view_and_test w p (Window c d) k = cc
name_view_and_test w p (At t) k = cc
name_view_and_test w p (Before t) k = cc
name_view_and_test w p (After t) k = cc
name_view_and_test w p (EdgesWhere key c v) k = cc
name_view_and_test w p (NodesWhere key c v) k = cc
name_view_and_test w p Valid k = cc

-- after a name view, types say the same of what is left
types_after_test : (w : World) (p : Entity → Bool) (names : List (List ℕ)) → view (keep p w) (NodeTypes names) ≡ keep (among_types w.types names) (keep p w)
types_after_test w p names = keep_types_remade w w.bounds (kept p w.events) names

types_after : (w : World) (names : List (List ℕ)) (op : Op) → kind_of_view op ≡ IsNameView → view (view w op) (NodeTypes names) ≡ keep (among_types w.types names) (view w op)
types_after w names (Layers other) k = types_after_test w (in_layers other) names
types_after w names (ExcludeLayers other) k = types_after_test w (outside_layers other) names
types_after w names (Subgraph other) k = types_after_test w (among_nodes other) names
types_after w names (ExcludeNodes other) k = types_after_test w (apart_from_nodes other) names
types_after w names (NodeTypes other) k = types_after_test w (among_types w.types other) names
types_after w names (Window c d) k = cc
types_after w names (At t) k = cc
types_after w names (Before t) k = cc
types_after w names (After t) k = cc
types_after w names (EdgesWhere key c v) k = cc
types_after w names (NodesWhere key c v) k = cc
types_after w names Valid k = cc

pub name_views_both : (w : World) (op next : Op) → kind_of_view op ≡ IsNameView → kind_of_view next ≡ IsNameView → view (view w op) next ≡ view (view w next) op
name_views_both w (Layers names) next k m = name_view_and_test w (in_layers names) next m
name_views_both w (ExcludeLayers names) next k m = name_view_and_test w (outside_layers names) next m
name_views_both w (Subgraph names) next k m = name_view_and_test w (among_nodes names) next m
name_views_both w (ExcludeNodes names) next k m = name_view_and_test w (apart_from_nodes names) next m
name_views_both w (NodeTypes names) next k m = name_view_and_test w (among_types w.types names) next m ∙ sym (types_after w names next m)
name_views_both w (Window c d) next k m = cc
name_views_both w (At t) next k m = cc
name_views_both w (Before t) next k m = cc
name_views_both w (After t) next k m = cc
name_views_both w (EdgesWhere key c v) next k m = cc
name_views_both w (NodesWhere key c v) next k m = cc
name_views_both w Valid next k m = cc
