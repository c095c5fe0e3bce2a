use Rattle.std.proofs.Common.{ap, ◌∙◌, to_z, of_z, w64}
use Rattle.std.proofs.lemmas.Int.{to_z-of_z}
use Rattle.lane_scan.specs.Rows.{extent_of_times, extent_of_rows, selected}
use Rattle.lane_scan.specs.Marks.{marked, marks}
use Rattle.lane_scan.proofs.MarkLaws.{counted}
use Rattle.lane_scan.proofs.timeline.Timeline.count.Goals as goal

pub returns-clause-extent : goal.returns-clause-extent
returns-clause-extent g c =
    let times = c.self.inside.times.items in
    let codes = c.self.inside.codes.items in
    let lo = to_z w64 (of_z w64 c.args.lo) in
    let hi = to_z w64 (of_z w64 c.args.hi) in
    let mask = c.args.mask in
    c.count_columns.ensures
    ∙ (ap (λ ts. extent_of_times (marked ts (marks lo hi mask ts c.deref-2.result.now))) c.deref.ensures.value
    ∙ (ap (λ cs. extent_of_times (marked times (marks lo hi mask times cs))) c.deref-2.ensures.value
    ∙ (ap (λ x. extent_of_times (marked times (marks x hi mask times codes))) (to_z-of_z w64 c.args.lo c.ranges.lo)
    ∙ (ap (λ x. extent_of_times (marked times (marks c.args.lo x mask times codes))) (to_z-of_z w64 c.args.hi c.ranges.hi)
    ∙ (counted c.args.lo c.args.hi mask times codes c.self.inside.numbers.items c.self.invariant.codes_len c.self.invariant.numbers_len
    ∙ ap (λ rows. extent_of_rows (selected c.args.lo c.args.hi mask rows)) c.self.view_is)))))
