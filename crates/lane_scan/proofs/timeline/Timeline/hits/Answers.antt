use Rattle.std.proofs.Common.{ap, ◌∙◌, to_z, of_z, w64}
use Rattle.std.proofs.lemmas.Int.{to_z-of_z}
use Rattle.lane_scan.specs.Rows.{selected}
use Rattle.lane_scan.specs.Marks.{marked, marks, rows_of}
use Rattle.lane_scan.proofs.MarkLaws.{marked_rows}
use Rattle.lane_scan.proofs.timeline.Timeline.hits.Goals as goal

pub returns-clause-rows : goal.returns-clause-rows
returns-clause-rows g c =
    let times = c.self.inside.times.items in
    let codes = c.self.inside.codes.items in
    let numbers = c.self.inside.numbers.items in
    let lo = to_z w64 (of_z w64 c.args.lo) in
    let hi = to_z w64 (of_z w64 c.args.hi) in
    let mask = c.args.mask in
    c.of.ensures
    ∙ (c.in_ok-rows.ensures
    ∙ (ap (λ ts. marked (rows_of ts c.deref-2.result.now c.deref-3.result.now) (marks lo hi mask ts c.deref-2.result.now)) c.deref.ensures.value
    ∙ (ap (λ cs. marked (rows_of times cs c.deref-3.result.now) (marks lo hi mask times cs)) c.deref-2.ensures.value
    ∙ (ap (λ ns. marked (rows_of times codes ns) (marks lo hi mask times codes)) c.deref-3.ensures.value
    ∙ (ap (λ x. marked (rows_of times codes numbers) (marks x hi mask times codes)) (to_z-of_z w64 c.args.lo c.ranges.lo)
    ∙ (ap (λ x. marked (rows_of times codes numbers) (marks c.args.lo x mask times codes)) (to_z-of_z w64 c.args.hi c.ranges.hi)
    ∙ (marked_rows c.args.lo c.args.hi mask times codes numbers c.self.invariant.codes_len c.self.invariant.numbers_len
    ∙ ap (selected c.args.lo c.args.hi mask) c.self.view_is)))))))
