use Rattle.world_laws.proofs.small_worlds.walks_along_two_edges.Goals as goal
use Rattle.world_laws.proofs.SmallWalks.{b_from_a, c_from_a, a_from_c, no_walk_back, label_of_c, c_out_of_a, a_into_c}

pub returns-clause-next : goal.returns-clause-next
returns-clause-next c = b_from_a

pub returns-clause-last : goal.returns-clause-last
returns-clause-last c = c_from_a

pub returns-clause-back : goal.returns-clause-back
returns-clause-back c = a_from_c

pub returns-clause-against : goal.returns-clause-against
returns-clause-against c = no_walk_back

pub returns-clause-label : goal.returns-clause-label
returns-clause-label c = label_of_c

pub returns-clause-out : goal.returns-clause-out
returns-clause-out c = c_out_of_a

pub returns-clause-into : goal.returns-clause-into
returns-clause-into c = a_into_c
