use Rattle.world_laws.proofs.small_worlds.loop_leads_nowhere_else.Goals as goal
use Rattle.world_laws.proofs.SmallWalks.{nothing_out_of_a, label_of_loop, label_of_b}

pub returns-clause-out : goal.returns-clause-out
returns-clause-out c = nothing_out_of_a

pub returns-clause-looped : goal.returns-clause-looped
returns-clause-looped c = label_of_loop

pub returns-clause-alone : goal.returns-clause-alone
returns-clause-alone c = label_of_b
