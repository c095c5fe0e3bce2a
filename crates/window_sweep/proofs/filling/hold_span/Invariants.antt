use Rattle.std.proofs.Common.{◌≡◌, ◌≤◌, ◌+◌, ◌-◌, ◌++◌, map, slice_range}
use Rattle.view_lists.specs.Moments.{moment_told}
use Rattle.window_sweep.specs.Filling.{held_at}
use Rattle.window_sweep.proofs.filling.hold_span.Given as goal

-- what is held of the updates so far, and a reading for each
abbrev pub invariant-loop-i : goal.invariant-loop-i
invariant-loop-i g l = record {
  held : l.held.items ≡ l.initial.held.items ++ map (held_at l.number) (map moment_told (slice_range l.history.updates l.fn.span.from l.i));
  cost : l.steps ≤ l.fn.steps + (l.i - l.fn.span.from);
}
