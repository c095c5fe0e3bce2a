use Rattle.std.proofs.Common.{◌≡◌, ◌<◌, length}
use Rattle.disjoint_sets.specs.Sets.{AreParents, least_numbers}
use Rattle.disjoint_sets.proofs.Forest.{least}
use Rattle.disjoint_sets.proofs.sets.find.Given as goal

-- the sets are as they were, and the number is in the set that is asked
abbrev pub invariant-loop-at : goal.invariant-loop-at
invariant-loop-at l = record {
  below : l.at < length l.parents.items;
  parents : AreParents l.parents.items;
  same : least_numbers l.parents.items ≡ least_numbers l.fn.parents.items;
  least : least l.parents.items l.at ≡ least l.fn.parents.items l.fn.number;
}

abbrev pub decreases-loop-at : goal.decreases-loop-at
decreases-loop-at l = l.at
