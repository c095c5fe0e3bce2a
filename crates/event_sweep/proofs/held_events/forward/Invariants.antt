use Rattle.std.proofs.Common.{◌≤◌, ◌-◌, length}
use Rattle.event_sweep.specs.Swept.{AreEarlier}
use Rattle.event_sweep.proofs.held_events.forward.Given as goal

abbrev pub invariant-loop-at : goal.invariant-loop-at
invariant-loop-at l = record { within : l.at ≤ length l.held; earlier : AreEarlier l.held l.at l.t }

abbrev pub decreases-loop-at : goal.decreases-loop-at
decreases-loop-at l = length l.held - l.at
