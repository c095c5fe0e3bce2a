use Rattle.std.proofs.Common.{◌+◌, ◌-◌, ◌++◌, ◌≤◌, ap, sym, ◌∙◌, arith, take, drop, to_z, of_z, w64}
use Rattle.lane_scan.specs.Marks.{marks, marked, rows_of}
use Rattle.lane_scan.proofs.MarkLaws.{selected_chunk}
use Rattle.lane_scan.proofs.chunks.gather_columns.Goals as goal

pub loop-at-preserved : goal.loop-at-preserved
loop-at-preserved c =
    let lo = to_z w64 (of_z w64 c.args.lo) in
    let hi = to_z w64 (of_z w64 c.args.hi) in
    let at = c.loop-at.at in
    let end = at + c.min.result in
    let times = c.args.times.now in
    let codes = c.args.codes.now in
    let numbers = c.args.numbers.now in
    let before = marked (rows_of (take at times) (take at codes) (take at numbers)) (marks lo hi c.args.mask (take at times) (take at codes)) in
    let here = rows_of (take (end - at) (drop at times)) (take (end - at) (drop at codes)) (take (end - at) (drop at numbers)) in
    let within : at ≤ end = omega arith in
    record {
      within = omega arith;
      rows = c.in_ok-gather.ensures
          ∙ (ap (λ rows. rows ++ marked here c.select.new.out) c.loop-at.invariant.rows
          ∙ (ap (λ ms. before ++ marked here ms) c.select.ensures
          ∙ sym (selected_chunk lo hi c.args.mask times codes numbers at end c.requires.codes c.requires.numbers within)));
    }
