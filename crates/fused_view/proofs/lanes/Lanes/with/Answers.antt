use Rattle.std.proofs.Common.{◌≡◌, ◌∙◌, rules, ap, sym, subst, w64, to_z, of_z}
use Rattle.std.specs.Prelude.{bit_and}
use Rattle.std.specs.Int.{int_max, int_min}
use Rattle.graph_model.specs.World.{World}
use Rattle.graph_store.specs.Contents.{Contents}
use Rattle.view_trait.specs.declared.ready_ops.ReadyOp.{ReadyOp}
use Rattle.view_trait.specs.Meaning.{IsShown}
use Rattle.view_trait.specs.Ready.{ready_view}
use Rattle.fused_view.specs.declared.lanes.Lanes.{Lanes}
use Rattle.fused_view.specs.Lanes.{lane_world}
use Rattle.fused_view.proofs.LaneWorlds.{lanes_layers, lanes_window}
use Rattle.fused_view.proofs.lanes.Lanes.with.Goals as goal

-- lanes show what a view shows of what others show
abbrev Joins : Lanes → ReadyOp → Lanes → Type 0
Joins before op after = (c : Contents) (w : World) → IsShown c w → lane_world c after w ≡ ready_view c (lane_world c before w) op

pub returns-in-Window-clause-world : goal.returns-in-Window-clause-world
returns-in-Window-clause-world c = λ x is.
    let before = c.args.self in
    let from : to_z w64 (of_z w64 c.max.result) ≡ int_max before.from c.in-Window.from = search rules in
    let to : to_z w64 (of_z w64 c.min.result) ≡ int_min before.to c.in-Window.to = search rules in
    let lanes : record { from = int_max before.from c.in-Window.from; to = int_min before.to c.in-Window.to; layers = before.layers } ≡ x =
    sym (λ k. record { from = from k; to = to k; layers = before.layers }) ∙ (let e : record { from = to_z w64 (of_z w64 c.max.result); to = to_z w64 (of_z w64 c.min.result); layers = before.layers } ≡ x = cc in e) in
    subst (Joins before c.args.op.now) lanes
    (λ s w h. lanes_window s w before c.in-Window.from c.in-Window.to h ∙ sym (ap (ready_view s (lane_world s before w)) c.in-Window.is))

pub returns-in-Layers-clause-world : goal.returns-in-Layers-clause-world
returns-in-Layers-clause-world c = λ x is.
    let before = c.args.self in
    let from : to_z w64 (of_z w64 before.from) ≡ before.from = search rules in
    let to : to_z w64 (of_z w64 before.to) ≡ before.to = search rules in
    let lanes : record { from = before.from; to = before.to; layers = bit_and before.layers c.in-Layers.bits } ≡ x =
    sym (λ k. record { from = from k; to = to k; layers = bit_and before.layers c.in-Layers.bits }) ∙ (let e : record { from = to_z w64 (of_z w64 before.from); to = to_z w64 (of_z w64 before.to); layers = bit_and before.layers c.in-Layers.bits } ≡ x = cc in e) in
    subst (Joins before c.args.op.now) lanes
    (λ s w h. lanes_layers s w before c.in-Layers.bits h ∙ sym (ap (ready_view s (lane_world s before w)) c.in-Layers.is))
