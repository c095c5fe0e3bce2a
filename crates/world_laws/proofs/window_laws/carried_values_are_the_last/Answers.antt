use Rattle.world_laws.proofs.window_laws.carried_values_are_the_last.Goals as goal
use Rattle.world_laws.proofs.Values.{last_props_value}

pub returns : goal.returns
returns c = last_props_value
