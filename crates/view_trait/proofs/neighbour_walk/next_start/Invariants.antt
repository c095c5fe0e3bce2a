use Rattle.std.proofs.Common.{◌≡◌, ◌<◌, length}
use Rattle.std.specs.List.{AllByRecursion}
use Rattle.view_trait.specs.Present.{starts_left}
use Rattle.view_trait.proofs.neighbour_walk.next_start.Given as goal

abbrev pub invariant-loop-p : goal.invariant-loop-p
invariant-loop-p g l =
    let contents = g.V.View.contents l.fn.view in
    let world = g.V.View.world l.fn.view in
    record {
      within : AllByRecursion (λ p. p < length contents.pairs) l.pairs;
      left : starts_left contents world l.fn.n.0 l.fn.both l.initial.pairs ≡ starts_left contents world l.fn.n.0 l.fn.both l.pairs;
    }

abbrev pub decreases-loop-p : goal.decreases-loop-p
decreases-loop-p g l = length l.pairs
