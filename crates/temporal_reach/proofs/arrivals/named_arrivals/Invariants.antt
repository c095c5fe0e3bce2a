use Rattle.std.proofs.Common.{◌≡◌, map, take}
use Rattle.std.specs.List.{All, filter}
use Rattle.temporal_reach.specs.Arrivals.{IsNamedArrival, is_answered}
use Rattle.temporal_reach.specs.Reaching.{nodes_in}
use Rattle.temporal_reach.proofs.arrivals.named_arrivals.Given as goal

-- those of the first reached nodes that are answered
abbrev pub invariant-loop-i : goal.invariant-loop-i
invariant-loop-i g l =
    let contents = g.V.View.contents l.fn.view in
    let world = g.V.View.world l.fn.view in
    record {
      nodes : map (λ x. x.arrival.node.0) l.named.items ≡ filter (is_answered contents world l.fn.table) (take l.i (nodes_in l.fn.table));
      names : All (IsNamedArrival contents world l.fn.table) l.named.items;
    }
