use Rattle.std.proofs.Common.{◌≡◌}
use Rattle.std.specs.List.{range_with_len}
use Rattle.disjoint_sets.proofs.sets.DisjointSets.new.Given as goal

abbrev pub invariant-loop-number : goal.invariant-loop-number
invariant-loop-number l = record { parents : l.parents.items ≡ range_with_len 0 l.number }
