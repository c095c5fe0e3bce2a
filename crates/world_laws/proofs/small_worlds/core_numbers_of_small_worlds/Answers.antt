use Rattle.world_laws.proofs.small_worlds.core_numbers_of_small_worlds.Goals as goal
use Rattle.world_laws.proofs.SmallCores.{core_of_triangle, core_of_tail, no_core_of_three, core_of_loop, core_of_alone}

pub returns-clause-triangle : goal.returns-clause-triangle
returns-clause-triangle c = core_of_triangle

pub returns-clause-tail : goal.returns-clause-tail
returns-clause-tail c = core_of_tail

pub returns-clause-none : goal.returns-clause-none
returns-clause-none c = no_core_of_three

pub returns-clause-looped : goal.returns-clause-looped
returns-clause-looped c = core_of_loop

pub returns-clause-alone : goal.returns-clause-alone
returns-clause-alone c = core_of_alone
