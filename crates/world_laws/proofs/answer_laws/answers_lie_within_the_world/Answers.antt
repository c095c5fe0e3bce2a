use Rattle.world_laws.proofs.answer_laws.answers_lie_within_the_world.Goals as goal
use Rattle.world_laws.proofs.Reach.{leads_present, distance_below}
use Rattle.world_laws.proofs.Cores.{core_below}
use Rattle.world_laws.proofs.Earliest.{reached_inside, reached_later_than_start}

pub returns-clause-distance : goal.returns-clause-distance
returns-clause-distance c = λ w d a b n h. distance_below w d a (leads_present w d) b n h

pub returns-clause-core_number : goal.returns-clause-core_number
returns-clause-core_number c = λ w node k h. core_below w k node h.0

pub returns-clause-arrival : goal.returns-clause-arrival
returns-clause-arrival c = λ w seeds start node m lawful h. reached_inside w seeds start node m lawful h.0

pub returns-clause-started : goal.returns-clause-started
returns-clause-started c = λ w seeds start node m h. reached_later_than_start w seeds start node m h.0
