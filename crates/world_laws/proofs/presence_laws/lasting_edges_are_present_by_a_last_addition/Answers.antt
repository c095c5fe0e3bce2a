use Rattle.world_laws.proofs.presence_laws.lasting_edges_are_present_by_a_last_addition.Goals as goal
use Rattle.world_laws.proofs.Final.{lasting_present}

pub returns : goal.returns
returns c = lasting_present
