use Rattle.std.proofs.Common.{◌-◌, length}
use Rattle.event_sweep.specs.Swept.{AreEarlier, IsPassed}
use Rattle.event_sweep.proofs.held_events.pass.Given as goal

abbrev pub invariant-loop-mark : goal.invariant-loop-mark
invariant-loop-mark l = record { passed : IsPassed l.carries l.held l.mark l.carried; earlier : AreEarlier l.held l.mark l.t }

abbrev pub decreases-loop-mark : goal.decreases-loop-mark
decreases-loop-mark l = length l.held - l.mark
