use Rattle.std.proofs.Common.{◌≡◌, ◌+◌}
use Rattle.lane_scan.proofs.timeline.count_rows.Given as goal

abbrev pub invariant-loop : goal.invariant-loop
invariant-loop g l = l.steps ≡ l.initial.steps + l.counter
