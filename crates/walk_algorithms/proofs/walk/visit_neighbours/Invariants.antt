use Rattle.std.proofs.Common.{◌≡◌, map, take}
use Rattle.node_visits.specs.Visits.{all_visited}
use Rattle.present_links.specs.Adjacent.{number_at, row_at}
use Rattle.walk_algorithms.proofs.walk.visit_neighbours.Given as goal

-- the neighbours before the next one are visited
abbrev pub invariant-loop-other : goal.invariant-loop-other
invariant-loop-other g l = record {
  limit : l.visited.limit ≡ l.fn.visited.limit;
  visits : l.visited.visits ≡ all_visited l.fn.mark (map (number_at l.lists.nodes) (take l.other-index (row_at l.lists.rows l.place))) l.fn.visited.visits;
}
