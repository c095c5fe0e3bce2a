use Rattle.std.proofs.Common.{◌≡◌, ◌++◌, length}
use Rattle.link_chain.specs.NumberLists.{numbers_at}
use Rattle.test_stores.proofs.linked_lists.numbers_of.Given as goal

abbrev pub invariant-loop-number : goal.invariant-loop-number
invariant-loop-number l = l.numbers.items ++ l.walk ≡ numbers_at l.lists.lists l.list

abbrev pub decreases-loop-number : goal.decreases-loop-number
decreases-loop-number l = length l.walk
