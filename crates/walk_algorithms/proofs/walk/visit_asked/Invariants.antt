use Rattle.std.proofs.Common.{◌≡◌, ◌<◌, length}
use Rattle.std.specs.List.{AllByRecursion}
use Rattle.node_visits.specs.Visits.{all_visited}
use Rattle.walk_algorithms.proofs.walk.visit_asked.Given as goal

-- what is left is yet to be visited
abbrev pub invariant-loop-neighbour : goal.invariant-loop-neighbour
invariant-loop-neighbour g l =
    let contents = g.V.View.contents l.fn.view in
    record {
      limit : l.visited.limit ≡ length contents.nodes;
      within : AllByRecursion (λ n. n < length contents.nodes) l.left;
      visits : all_visited l.fn.mark l.initial.left l.fn.visited.visits ≡ all_visited l.fn.mark l.left l.visited.visits;
    }

abbrev pub decreases-loop-neighbour : goal.decreases-loop-neighbour
decreases-loop-neighbour g l = length l.left
