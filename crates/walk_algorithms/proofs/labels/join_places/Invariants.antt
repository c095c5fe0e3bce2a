use Rattle.walk_algorithms.proofs.JoinedPlaces.{AreJoined}
use Rattle.walk_algorithms.proofs.labels.join_places.Given as goal

-- the first links are joined
abbrev pub invariant-loop-i : goal.invariant-loop-i
invariant-loop-i g l = record { joined : AreJoined (g.V.View.world l.view) l.nodes l.links l.i l.sets }
