use Rattle.std.proofs.Common.{rules, w64, subst}
use Rattle.std.proofs.lemmas.Int.{to_z-of_z}
use Rattle.event_sweep.specs.Swept.{AreEarlier}
use Rattle.std.specs.Prelude.{slice_index_or}
use mir.Val.{SFits}
use Rattle.event_sweep.specs.declared.held_events.HeldEvent.{HeldEvent}
use Rattle.event_sweep.proofs.Marked.{mark_here, late_from, no_event}
use Rattle.event_sweep.proofs.held_events.forward.Goals as goal

pub returns-else-held-at : goal.returns-else-held-at
returns-else-held-at c =
    let first : HeldEvent = slice_index_or c.args.held.now c.loop-at.at no_event in
    let fits_t : SFits w64 c.args.t = search rules in
    let fits : SFits w64 first.time = search rules in
    mark_here c.args.held.now c.loop-at.at c.args.t no_event c.requires.rise c.loop-at-test.true (subst (AreEarlier c.args.held.now c.loop-at.at) (to_z-of_z w64 c.args.t fits_t) c.loop-at.invariant.earlier)
    (late_from first.time c.args.t fits fits_t c.if-held-at.false)
