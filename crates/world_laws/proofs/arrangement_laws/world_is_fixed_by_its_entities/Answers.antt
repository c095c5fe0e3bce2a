use Rattle.world_laws.proofs.arrangement_laws.world_is_fixed_by_its_entities.Goals as goal
use Rattle.world_laws.proofs.Listed.{fixed_by_entities}
use Rattle.world_laws.proofs.Windows.{world_fixed}

pub returns-clause-list : goal.returns-clause-list
returns-clause-list c = λ v w h k same. fixed_by_entities v.events w.events h.arranged k.arranged same

pub returns-clause-world : goal.returns-clause-world
returns-clause-world c = world_fixed
