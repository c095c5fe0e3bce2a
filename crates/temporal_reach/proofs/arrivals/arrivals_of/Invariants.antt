use Rattle.std.proofs.Common.{◌≡◌, map, take}
use Rattle.temporal_reach.proofs.arrivals.arrivals_of.Given as goal

abbrev pub invariant-loop-x : goal.invariant-loop-x
invariant-loop-x l = record { rows : l.rows.items ≡ map (λ x. x.arrival) (take l.x-index l.named) }
