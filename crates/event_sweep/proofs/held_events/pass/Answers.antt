use Rattle.std.proofs.Common.{rules, ◌+◌, w64, sym, subst}
use Rattle.std.specs.Prelude.{slice_index_or}
use Rattle.std.proofs.lemmas.Int.{to_z-of_z}
use mir.Val.{SFits}
use Rattle.event_sweep.specs.declared.held_events.HeldEvent.{HeldEvent}
use Rattle.event_sweep.specs.Swept.{AreEarlier}
use Rattle.event_sweep.proofs.Marked.{mark_here, one_earlier, carried_more, early_from, late_from, no_event}
use Rattle.event_sweep.proofs.held_events.pass.Goals as goal

pub loop-mark-init : goal.loop-mark-init
loop-mark-init c = record {
  passed = c.start_over.ensures.passed c.args.carries c.requires.passed;
  earlier = c.start_over.ensures.earlier;
}

pub loop-mark-preserved : goal.loop-mark-preserved
loop-mark-preserved c =
    let first : HeldEvent = slice_index_or c.args.held.now c.loop-mark.mark no_event in
    let fits_t : SFits w64 c.args.t = search rules in
    let fits : SFits w64 first.time = search rules in
    let same = to_z-of_z w64 c.args.t fits_t in
    record {
      passed = carried_more c.args.carries c.args.held.now c.loop-mark.mark no_event c.loop-mark.carried c.carry.new.carried c.loop-mark-test.true c.loop-mark.invariant.passed c.in_ok-carry.ensures.ok;
      earlier = subst (AreEarlier c.args.held.now (c.loop-mark.mark + 1)) (sym same)
          (one_earlier c.args.held.now c.loop-mark.mark c.args.t no_event c.loop-mark-test.true
          (subst (AreEarlier c.args.held.now c.loop-mark.mark) same c.loop-mark.invariant.earlier)
          (early_from first.time c.args.t fits fits_t c.if-held-mark.true));
    }

pub returns-else-held-mark-clause-ok : goal.returns-else-held-mark-clause-ok
returns-else-held-mark-clause-ok c =
    let first : HeldEvent = slice_index_or c.args.held.now c.loop-mark.mark no_event in
    let fits_t : SFits w64 c.args.t = search rules in
    let fits : SFits w64 first.time = search rules in
    mark_here c.args.held.now c.loop-mark.mark c.args.t no_event c.requires.rise c.loop-mark-test.true
    (subst (AreEarlier c.args.held.now c.loop-mark.mark) (to_z-of_z w64 c.args.t fits_t) c.loop-mark.invariant.earlier)
    (late_from first.time c.args.t fits fits_t c.if-held-mark.false)
