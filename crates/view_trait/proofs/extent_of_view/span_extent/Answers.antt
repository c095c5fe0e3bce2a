use Rattle.std.proofs.Common.{sym, ◌∙◌, ap}
use Rattle.std.specs.Int.{w64}
use Rattle.std.proofs.lemmas.Int.{to_z-of_z}
use Rattle.time_history.specs.Spans.{spelled}
use Rattle.view_trait.specs.Extent.{time_of_first, time_of_last}
use Rattle.view_trait.proofs.SpanTimes.{length_spelled}
use Rattle.view_trait.proofs.extent_of_view.span_extent.Goals as goal

pub returns-clause-extent : goal.returns-clause-extent
returns-clause-extent g c x names fit =
    let us = c.args.history.now.updates in
    let lo = to_z-of_z w64 c.args.lo c.ranges.lo in
    let events = c.count_of.ensures ∙ sym (length_spelled x names us c.args.span c.requires fit c.args.lo) in
    let first = c.first_of.ensures.time x names fit ∙ ap (λ t. time_of_first (spelled x names us c.args.span t)) lo in
    let last = c.last_of.ensures.time x names fit ∙ ap (λ t. time_of_last (spelled x names us c.args.span t)) lo in
    λ k. record { events = events k; first = first k; last = last k }
