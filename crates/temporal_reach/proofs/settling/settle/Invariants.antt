use Rattle.std.proofs.Common.{ℕ, List, length}
use Rattle.temporal_reach.specs.Arrivals.{AreSeeds}
use Rattle.temporal_reach.specs.Search.{IsSearch}
use Rattle.temporal_reach.proofs.Closed.{unreached}
use Rattle.temporal_reach.proofs.settling.settle.Given as goal

abbrev pub invariant-loop-moment : goal.invariant-loop-moment
invariant-loop-moment g l =
    let contents = g.V.View.contents l.fn.view in
    (names : List (List ℕ)) → AreSeeds contents l.fn.seeds names → IsSearch contents (g.V.View.world l.fn.view) names l.fn.start l.table l.frontier

abbrev pub decreases-loop-moment : goal.decreases-loop-moment
decreases-loop-moment g l = unreached (length (g.V.View.contents l.fn.view).nodes) l.table
