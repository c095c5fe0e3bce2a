use Rattle.std.proofs.Common.{◌≡◌, ◌∙◌, ◌-◌, ◌^◌, ap, rules, w64, to_z, of_z}
use Rattle.std.proofs.lemmas.Int.{to_z-of_z}
use mir.Val.{SFits}
use Rattle.graph_model.specs.Interval.{Interval}
use Rattle.graph_store.specs.Contents.{base_of}
use Rattle.fused_view.specs.Lanes.{lane_world}
use Rattle.fused_view.proofs.LaneWorlds.{lanes_whole}
use Rattle.fused_view.proofs.lanes.Lanes.whole.Goals as goal

pub returns : goal.returns
returns c =
    let s = c.args.store.now in
    let fits_lo : SFits w64 c.lo.result = search rules in
    let fits_hi : SFits w64 c.hi.result = search rules in
    let from : to_z w64 (of_z w64 c.lo.result) ≡ s.bounds.lo = to_z-of_z w64 c.lo.result fits_lo ∙ (c.lo.ensures.value ∙ ap (λ (i : Interval). i.lo) c.bounds-bounds.ensures) in
    let to : to_z w64 (of_z w64 c.hi.result) ≡ s.bounds.hi = to_z-of_z w64 c.hi.result fits_hi ∙ (c.hi.ensures.value ∙ ap (λ (i : Interval). i.hi) c.bounds-bounds.ensures) in
    (λ k. lane_world s (record { from = from k; to = to k; layers = 2 ^ 64 - 1 }) (base_of s)) ∙ lanes_whole s (base_of s) c.store_facts.ensures
