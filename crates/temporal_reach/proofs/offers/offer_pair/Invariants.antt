use Rattle.std.proofs.Common.{ℕ, length}
use Rattle.std.specs.List.{Contains}
use Rattle.graph_store.specs.Ends.{ends_at}
use Rattle.graph_store.specs.EdgeIndex.{edges_between}
use Rattle.temporal_reach.specs.Offers.{AreOffered}
use Rattle.temporal_reach.proofs.offers.offer_pair.Given as goal

-- the edges yet to come are of the pair, and all others are offered
abbrev pub invariant-loop-e : goal.invariant-loop-e
invariant-loop-e g l =
    let contents = g.V.View.contents l.fn.view in
    let world = g.V.View.world l.fn.view in
    let all = edges_between contents.edges (ends_at contents.pairs l.fn.pair.0) in
    record {
      among : (k : ℕ) → Contains l.edges k → Contains all k;
      offered : AreOffered contents world l.fn.after (Contains all) (Contains l.edges) l.fn.frontier l.frontier;
    }

abbrev pub decreases-loop-e : goal.decreases-loop-e
decreases-loop-e g l = length l.edges
