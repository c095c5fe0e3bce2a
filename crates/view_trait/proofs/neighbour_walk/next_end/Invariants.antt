use Rattle.std.proofs.Common.{◌≡◌, ◌<◌, length}
use Rattle.std.specs.List.{AllByRecursion}
use Rattle.view_trait.specs.Present.{ends_left}
use Rattle.view_trait.proofs.neighbour_walk.next_end.Given as goal

abbrev pub invariant-loop-p : goal.invariant-loop-p
invariant-loop-p g l =
    let contents = g.V.View.contents l.fn.view in
    let world = g.V.View.world l.fn.view in
    record {
      within : AllByRecursion (λ p. p < length contents.pairs) l.pairs;
      left : ends_left contents world l.initial.pairs ≡ ends_left contents world l.pairs;
    }

abbrev pub decreases-loop-p : goal.decreases-loop-p
decreases-loop-p g l = length l.pairs
