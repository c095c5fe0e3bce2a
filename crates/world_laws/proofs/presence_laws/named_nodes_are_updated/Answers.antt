use Rattle.world_laws.proofs.presence_laws.named_nodes_are_updated.Goals as goal
use Rattle.world_laws.proofs.Updated.{named_nodes_has, named_nodes_rise, updated}

pub returns-clause-listed : goal.returns-clause-listed
returns-clause-listed c = named_nodes_has

pub returns-clause-rise : goal.returns-clause-rise
returns-clause-rise c = named_nodes_rise

pub returns-clause-updated : goal.returns-clause-updated
returns-clause-updated c = updated
