use Rattle.std.proofs.Common.{◌≡◌, ℕ, ◌<◌}
use Rattle.link_chain.specs.Indexes.{nowhere}
use Rattle.link_chain.specs.FirstsAndPlaces.{first_at}
use Rattle.link_chain.proofs.item_buckets.settle.Given as goal

abbrev pub invariant-loop-i : goal.invariant-loop-i
invariant-loop-i l = (b : ℕ) → b < l.i → first_at l.firsts b ≡ nowhere
