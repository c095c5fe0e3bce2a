use Rattle.std.proofs.Common.{◌<◌}
use Rattle.test_stores.proofs.timelines.many_times.Given as goal

abbrev pub invariant-loop-i : goal.invariant-loop-i
invariant-loop-i l = l.time < 11
