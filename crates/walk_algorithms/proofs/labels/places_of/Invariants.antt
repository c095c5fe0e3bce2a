use Rattle.walk_algorithms.proofs.JoinedPlaces.{HavePlaces}
use Rattle.walk_algorithms.proofs.labels.places_of.Given as goal

-- the nodes before the next one have their places
abbrev pub invariant-loop-i : goal.invariant-loop-i
invariant-loop-i l = record { placed : HavePlaces l.nodes l.i l.limit l.places.items }
