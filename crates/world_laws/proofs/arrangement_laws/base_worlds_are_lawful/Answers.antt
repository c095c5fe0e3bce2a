use Rattle.world_laws.proofs.arrangement_laws.base_worlds_are_lawful.Goals as goal
use Rattle.graph_model.specs.World.{type_cmp}
use Rattle.world_laws.proofs.Order.{type_total}
use Rattle.world_laws.proofs.RisingItems.{Rises-put}
use Rattle.world_laws.proofs.Base.{IsLawful-base, base_of_itself}

pub returns-clause-lawful : goal.returns-clause-lawful
returns-clause-lawful c = λ model bounds types xs h. IsLawful-base model bounds types xs h.in_order h.inside h.allowed h.rising h.typed h.types_rise

pub returns-clause-itself : goal.returns-clause-itself
returns-clause-itself c = base_of_itself

pub returns-clause-types : goal.returns-clause-types
returns-clause-types c = Rises-put type_cmp type_total
