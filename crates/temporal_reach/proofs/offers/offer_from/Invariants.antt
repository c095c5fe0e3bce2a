use Rattle.std.proofs.Common.{ℕ, length}
use Rattle.std.specs.List.{Contains}
use Rattle.graph_store.specs.PairIndex.{pairs_from}
use Rattle.temporal_reach.specs.Offers.{AreOffered, LeadsAnew, LeavesAnew}
use Rattle.temporal_reach.proofs.EdgePlaces.{IsOfPairs}
use Rattle.temporal_reach.proofs.offers.offer_from.Given as goal

-- the pairs yet to come begin at the node, and the edges of all others are offered
abbrev pub invariant-loop-p : goal.invariant-loop-p
invariant-loop-p g l =
    let contents = g.V.View.contents l.fn.view in
    let world = g.V.View.world l.fn.view in
    record {
      among : (p : ℕ) → Contains l.pairs p → Contains (pairs_from contents.pairs l.fn.n.0) p;
      offered : AreOffered contents world l.fn.after (LeavesAnew contents l.fn.table l.fn.n.0) (λ e. IsOfPairs contents l.pairs e × LeadsAnew contents l.fn.table e) l.fn.frontier l.frontier;
    }

abbrev pub decreases-loop-p : goal.decreases-loop-p
decreases-loop-p g l = length l.pairs
