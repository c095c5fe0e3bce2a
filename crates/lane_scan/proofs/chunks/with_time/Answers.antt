use Rattle.std.proofs.Common.{◌+◌, ◌∙◌, ap, refl, Some, w64}
use Rattle.std.proofs.lemmas.Int.{to_z-of_z}
use Rattle.view_trait.specs.Extent.{earlier_of, later_of}
use Rattle.lane_scan.proofs.ExtentLaws.{extent-push}
use Rattle.lane_scan.proofs.chunks.with_time.Goals as goal

pub returns-clause-extent : goal.returns-clause-extent
returns-clause-extent c =
    let e = c.args.extent in
    let same = to_z-of_z w64 c.args.time c.ranges.time in
    λ before is. extent-push before c.args.time e (record { events = e.events + 1; first = c.earlier.result; last = c.later.result }) is refl
    (c.earlier.ensures ∙ ap (λ t. earlier_of e.first (Some t)) same)
    (c.later.ensures ∙ ap (λ t. later_of e.last (Some t)) same)
