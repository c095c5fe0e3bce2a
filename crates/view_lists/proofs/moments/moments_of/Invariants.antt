use Rattle.std.proofs.Common.{◌≡◌, ◌++◌, map, slice_range}
use Rattle.view_lists.specs.Moments.{moment_told}
use Rattle.view_lists.proofs.moments.moments_of.Given as goal

abbrev pub invariant-loop-i : goal.invariant-loop-i
invariant-loop-i g l = l.items.items ≡ l.initial.items.items ++ map moment_told (slice_range l.history.updates l.fn.span.from l.i)
