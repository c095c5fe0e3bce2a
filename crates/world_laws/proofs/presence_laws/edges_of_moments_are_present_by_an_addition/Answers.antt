use Rattle.world_laws.proofs.presence_laws.edges_of_moments_are_present_by_an_addition.Goals as goal
use Rattle.world_laws.proofs.Nodes.{present_by_addition}

pub returns : goal.returns
returns c = present_by_addition
