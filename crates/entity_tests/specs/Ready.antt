-- What a ready view keeps.
use Rattle.std.specs.Prelude.{◌≡◌, Bool, true, false, ◌&&◌, refl}
use Rattle.graph_model.specs.declared.events.EdgeName.{EdgeName}
use Rattle.graph_model.specs.declared.events.Entity.{Entity}
use Rattle.graph_model.specs.declared.events.Entity.TheVariants.{Node, Edge}
use Rattle.graph_model.specs.World.{World}
use Rattle.graph_model.specs.Keep.{in_layers, is_valid}
use Rattle.graph_store.specs.Contents.{Contents}
use Rattle.view_trait.specs.declared.ready_ops.ReadyOp.{ReadyOp}
use Rattle.view_trait.specs.declared.ready_ops.ReadyOp.TheVariants.{Window, Layers, Subgraph, ExcludeNodes, EdgesWhere, NodesWhere, Valid}
use Rattle.view_trait.specs.Numbered.{layers_numbered, nodes_numbered, chooses}
use Rattle.view_trait.specs.Filtered.{edge_passes, node_passes}
use Rattle.entity_tests.specs.Tests.{never_asked}

-- whether a ready view keeps an entity of a world; a window keeps each
abbrev pub keeps_entity : Contents → World → ReadyOp → Entity → Bool
keeps_entity c w (Window a b) x = true
keeps_entity c w (Layers bits) x = in_layers (layers_numbered c bits) x
keeps_entity c w (Subgraph nodes) x = chooses true (nodes_numbered c nodes) x
keeps_entity c w (ExcludeNodes nodes) x = chooses false (nodes_numbered c nodes) x
keeps_entity c w (EdgesWhere key cmp v) x = edge_passes c w key cmp v x
keeps_entity c w (NodesWhere key cmp v) x = node_passes c w key cmp v x
keeps_entity c w Valid x = is_valid w x

-- whether it keeps an edge exactly where it keeps both ends, by their own events
abbrev pub by_ends : ReadyOp → Bool
by_ends (NodesWhere key cmp v) = true
by_ends _ = false

pub kept_by_ends : (op : ReadyOp) (c : Contents) (w : World) (edge : EdgeName) → by_ends op ≡ true → keeps_entity c w op (Edge edge) ≡ (keeps_entity c w op (Node edge.src) && keeps_entity c w op (Node edge.dst))
kept_by_ends (Window a b) c w edge h = never_asked h
kept_by_ends (Layers bits) c w edge h = never_asked h
kept_by_ends (Subgraph nodes) c w edge h = never_asked h
kept_by_ends (ExcludeNodes nodes) c w edge h = never_asked h
kept_by_ends (EdgesWhere key cmp v) c w edge h = never_asked h
kept_by_ends (NodesWhere key cmp v) c w edge h = refl
kept_by_ends Valid c w edge h = never_asked h
