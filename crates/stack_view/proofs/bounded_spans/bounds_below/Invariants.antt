use Rattle.std.proofs.Common.{◌≡◌}
use Rattle.stack_view.specs.Below.{below}
use Rattle.stack_view.proofs.bounded_spans.bounds_below.Given as goal

abbrev pub invariant-loop-i : goal.invariant-loop-i
invariant-loop-i l = l.bounds ≡ (below l.store l.ops l.i).bounds
