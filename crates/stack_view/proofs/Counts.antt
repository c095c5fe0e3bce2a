-- What views show has no more events than what they are given.
use Rattle.std.proofs.Common.{List, [], ◌∷◌, ◌≤◌, length, arith}
use Rattle.graph_model.specs.Interval.{cut}
use Rattle.graph_model.specs.World.{World, event_cmp}
use Rattle.world_laws.proofs.Counts.{length_filter_le, length_in_order, length_window_list}
use Rattle.graph_store.specs.Contents.{Contents, base_of}
use Rattle.view_trait.specs.declared.ready_ops.ReadyOp.{ReadyOp}
use Rattle.view_trait.specs.declared.ready_ops.ReadyOp.TheVariants.{Window, Layers, Subgraph, ExcludeNodes, EdgesWhere, NodesWhere, Valid}
use Rattle.view_trait.specs.Ready.{ready_view, ready_apply}

pub length_ready_view : (c : Contents) (w : World) (op : ReadyOp) → length (ready_view c w op).events ≤ length w.events
length_ready_view c w (Window a b) = length_window_list w.model (cut w.bounds a b) w.events
length_ready_view c w (Layers bits) = length_filter_le _ w.events
length_ready_view c w (Subgraph nodes) = length_filter_le _ w.events
length_ready_view c w (ExcludeNodes nodes) = length_filter_le _ w.events
length_ready_view c w (EdgesWhere key cmp v) = length_filter_le _ w.events
length_ready_view c w (NodesWhere key cmp v) = length_filter_le _ w.events
length_ready_view c w Valid = length_filter_le _ w.events

pub length_ready_apply : (c : Contents) (ops : List ReadyOp) (w : World) → length (ready_apply c ops w).events ≤ length w.events
length_ready_apply c [] w = omega arith
length_ready_apply c (op ∷ ops) w =
    let more = length_ready_apply c ops (ready_view c w op) in
    let first = length_ready_view c w op in
    omega (arith, more, first)

-- and of a store's base world no more than the store accepted
pub length_shown : (c : Contents) (ops : List ReadyOp) → length (ready_apply c ops (base_of c)).events ≤ length c.accepted
length_shown c ops =
    let shown = length_ready_apply c ops (base_of c) in
    let all = length_in_order event_cmp c.accepted in
    omega (arith, shown, all)
