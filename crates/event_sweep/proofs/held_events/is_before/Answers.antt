use Rattle.std.proofs.Common.{rules, ◌-◌, w64, arith}
use Rattle.std.specs.Prelude.{slice_index_or}
use mir.Val.{SFits}
use Rattle.event_sweep.specs.declared.held_events.HeldEvent.{HeldEvent}
use Rattle.event_sweep.proofs.Marked.{all_earlier, early_from, no_event}
use Rattle.event_sweep.proofs.held_events.is_before.Goals as goal

pub returns-then-mark-held-clause-earlier : goal.returns-then-mark-held-clause-earlier
returns-then-mark-held-clause-earlier c = λ early.
    let last : HeldEvent = slice_index_or c.args.held.now (c.args.mark - 1) no_event in
    let fits_t : SFits w64 c.args.t = search rules in
    let fits : SFits w64 last.time = search rules in
    let some = c.if-mark-eq0.false in
    all_earlier c.args.held.now c.args.mark c.args.t no_event c.requires (omega (arith, some)) c.if-mark-held.true
    (early_from last.time c.args.t fits fits_t early)
