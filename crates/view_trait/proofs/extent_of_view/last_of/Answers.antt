use Rattle.std.proofs.Common.{Some, sym, ◌∙◌, ap, rules}
use Rattle.std.specs.Int.{w64}
use Rattle.std.proofs.lemmas.Int.{to_z-of_z}
use Rattle.view_trait.proofs.SpanTimes.{last_carried, last_inside}
use Rattle.view_trait.proofs.extent_of_view.last_of.Goals as goal

pub returns-then-span-clause-time : goal.returns-then-span-clause-time
returns-then-span-clause-time g c x names fit =
    ap Some (to_z-of_z w64 c.time_at.result (search rules) ∙ c.time_at.ensures.value)
    ∙ sym (last_inside x names c.args.history.now.updates c.args.span c.requires fit c.args.lo c.if-span.true)

pub returns-then-span-2-clause-time : goal.returns-then-span-2-clause-time
returns-then-span-2-clause-time g c x names fit =
    ap Some (to_z-of_z w64 c.args.lo c.ranges.lo)
    ∙ sym (last_carried x names c.args.history.now.updates c.args.span c.requires fit c.args.lo c.if-span.false c.if-span-2.true)
