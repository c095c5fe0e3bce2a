use Rattle.std.proofs.Common.{◌≡◌, ◌++◌, map, length, IfSome}
use Rattle.link_chain.specs.Chains.{items_at, walk_left, IsLink}
use Rattle.test_stores.proofs.linked_lists.items_of.Given as goal

abbrev pub invariant-loop-at : goal.invariant-loop-at
invariant-loop-at l = record {
  walked : l.items.items ++ map (λ p. p.1) (walk_left l.chains.lists l.at) ≡ items_at l.chains.lists l.head;
  exists : IfSome l.at (λ link. IsLink l.chains.lists link);
}

abbrev pub decreases-loop-at : goal.decreases-loop-at
decreases-loop-at l = length (walk_left l.chains.lists l.at)
