use Rattle.std.proofs.Common.{◌≡◌, ◌+◌, ◌-◌, ◌++◌, ◌≤◌, ap, sym, ◌∙◌, arith, take, drop, to_z, of_z, w64, length, length-take}
use Rattle.lane_scan.specs.Rows.{extent_of_times}
use Rattle.lane_scan.specs.Marks.{marks, marked}
use Rattle.lane_scan.proofs.MarkLaws.{times_chunk, length-marked}
use Rattle.lane_scan.proofs.chunks.count_columns.Goals as goal

pub with_marked-extent-requires-clause-few : goal.with_marked-extent-requires-clause-few
with_marked-extent-requires-clause-few c =
    let at = c.loop-at.at in
    let ts = take at c.args.times.now in
    let ms = marks (to_z w64 (of_z w64 c.args.lo)) (to_z w64 (of_z w64 c.args.hi)) c.args.mask ts (take at c.args.codes.now) in
    let few : c.loop-at.extent.events ≡ length (marked ts ms) = ap (λ e. e.events) c.loop-at.invariant.extent in
    let long = length-marked ts ms in
    omega (arith, few, long, length-take at c.args.times.now)

pub loop-at-preserved : goal.loop-at-preserved
loop-at-preserved c =
    let lo = to_z w64 (of_z w64 c.args.lo) in
    let hi = to_z w64 (of_z w64 c.args.hi) in
    let at = c.loop-at.at in
    let end = at + c.min.result in
    let ts = take at c.args.times.now in
    let us = take (end - at) (drop at c.args.times.now) in
    let before = marked ts (marks lo hi c.args.mask ts (take at c.args.codes.now)) in
    let within : at ≤ end = omega arith in
    record {
      within = omega arith;
      extent = c.with_marked-extent.ensures before c.loop-at.invariant.extent
          ∙ (ap (λ ms. extent_of_times (before ++ marked us ms)) c.select.ensures
          ∙ ap extent_of_times (sym (times_chunk lo hi c.args.mask c.args.times.now c.args.codes.now at end c.requires.len within)));
    }
