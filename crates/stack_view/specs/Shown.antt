-- What a list of views shows is a lawful world over the same store.
use Rattle.std.specs.Prelude.{List, [], ◌∷◌, true, false}
use Rattle.graph_model.specs.World.{World}
use Rattle.graph_model.specs.Keep.{in_layers, is_valid}
use Rattle.graph_store.specs.Contents.{Contents}
use Rattle.view_trait.specs.declared.ready_ops.ReadyOp.{ReadyOp}
use Rattle.view_trait.specs.declared.ready_ops.ReadyOp.TheVariants.{Window, Layers, Subgraph, ExcludeNodes, EdgesWhere, NodesWhere, Valid}
use Rattle.view_trait.specs.Meaning.{IsShown}
use Rattle.view_trait.specs.Numbered.{layers_numbered, nodes_numbered, chooses}
use Rattle.view_trait.specs.Filtered.{edge_passes, node_passes}
use Rattle.view_trait.specs.Ready.{ready_view, ready_apply}
use Rattle.view_trait.proofs.Shown.{IsShown-window, IsShown-keep}

pub IsShown-ready_view : (c : Contents) (w : World) (op : ReadyOp) → IsShown c w → IsShown c (ready_view c w op)
IsShown-ready_view c w (Window a b) h = IsShown-window c w a b h
IsShown-ready_view c w (Layers bits) h = IsShown-keep (in_layers (layers_numbered c bits)) c w h
IsShown-ready_view c w (Subgraph nodes) h = IsShown-keep (chooses true (nodes_numbered c nodes)) c w h
IsShown-ready_view c w (ExcludeNodes nodes) h = IsShown-keep (chooses false (nodes_numbered c nodes)) c w h
IsShown-ready_view c w (EdgesWhere key cmp v) h = IsShown-keep (edge_passes c w key cmp v) c w h
IsShown-ready_view c w (NodesWhere key cmp v) h = IsShown-keep (node_passes c w key cmp v) c w h
IsShown-ready_view c w Valid h = IsShown-keep (is_valid w) c w h

pub IsShown-after : (c : Contents) (ops : List ReadyOp) (w : World) → IsShown c w → IsShown c (ready_apply c ops w)
IsShown-after c [] w h = h
IsShown-after c (op ∷ ops) w h = IsShown-after c ops (ready_view c w op) (IsShown-ready_view c w op h)
