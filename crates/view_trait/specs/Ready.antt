-- Views whose names were found in a store, and what they show.
use Rattle.std.specs.Prelude.{List, [], ◌∷◌, Bool, true, false, ◌&&◌, int_le}
use Rattle.graph_model.specs.Interval.{earliest, latest}
use Rattle.graph_model.specs.Searches.{ViewKind, IsWindow, IsNodeFilter, IsOtherFilter, IsNameView}
use Rattle.graph_model.specs.World.{World}
use Rattle.graph_model.specs.Window.{window}
use Rattle.graph_model.specs.Keep.{keep, is_valid}
use Rattle.graph_store.specs.Contents.{Contents}
use Rattle.view_trait.specs.declared.ready_ops.ReadyOp.{ReadyOp}
use Rattle.view_trait.specs.declared.ready_ops.ReadyOp.TheVariants.{Window, Layers, Subgraph, Valid}
use Rattle.view_trait.specs.declared.ready_ops.ReadyOp.TheVariants.{ExcludeNodes}
use Rattle.view_trait.specs.declared.ready_ops.ReadyOp.TheVariants.{EdgesWhere, NodesWhere}
use Rattle.view_trait.specs.Numbered.{layer_world, node_world}
use Rattle.view_trait.specs.Filtered.{edge_filtered, node_filtered}

-- what a ready view shows of a world over a store
abbrev pub ready_view : Contents → World → ReadyOp → World
ready_view c w (Window a b) = window w a b
ready_view c w (Layers bits) = layer_world c bits w
ready_view c w (Subgraph nodes) = node_world c true nodes w
ready_view c w (ExcludeNodes nodes) = node_world c false nodes w
ready_view c w (EdgesWhere key cmp v) = edge_filtered c w key cmp v
ready_view c w (NodesWhere key cmp v) = node_filtered c w key cmp v
ready_view c w Valid = keep (is_valid w) w

-- what ready views show, the first applied first
abbrev pub ready_apply : Contents → List ReadyOp → World → World
ready_apply c [] w = w
ready_apply c (op ∷ ops) w = ready_apply c ops (ready_view c w op)

-- what each is, as far as its cost goes
abbrev pub ready_kind : ReadyOp → ViewKind
ready_kind (Window a b) = IsWindow
ready_kind (Layers bits) = IsNameView
ready_kind (Subgraph nodes) = IsNameView
ready_kind (ExcludeNodes nodes) = IsNameView
ready_kind (EdgesWhere key cmp v) = IsOtherFilter
ready_kind (NodesWhere key cmp v) = IsNodeFilter
ready_kind Valid = IsOtherFilter

-- the ends of a window are bounds
abbrev pub in_range : ReadyOp → Bool
in_range (Window a b) =
    (int_le earliest a && int_le a latest) && (int_le earliest b && int_le b latest)
in_range _ = true
