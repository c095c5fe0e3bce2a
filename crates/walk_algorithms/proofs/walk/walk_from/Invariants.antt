use Rattle.std.proofs.Common.{◌≡◌, ◌-◌, length}
use Rattle.node_visits.specs.Levels.{IsWalking}
use Rattle.walk_laws.specs.Steps.{Next, Far}
use Rattle.walk_algorithms.proofs.walk.walk_from.Given as goal

-- the nodes before the next one are settled
abbrev pub invariant-loop-next : goal.invariant-loop-next
invariant-loop-next g l =
    let contents = g.V.View.contents l.fn.view in
    let world = g.V.View.world l.fn.view in
    record {
      limit : l.visited.limit ≡ length contents.nodes;
      walking : IsWalking (Next world contents.nodes l.fn.direction) (Far world contents.nodes l.fn.direction l.fn.start.0) l.fn.start.0 l.visited.visits l.next;
    }

abbrev pub decreases-loop-next : goal.decreases-loop-next
decreases-loop-next g l = l.visited.limit - l.next
