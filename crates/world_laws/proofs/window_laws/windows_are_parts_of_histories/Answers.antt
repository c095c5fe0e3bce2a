use Rattle.world_laws.proofs.window_laws.windows_are_parts_of_histories.Goals as goal
use Rattle.world_laws.proofs.Spelled.{clip_spelled, clip_spelled_instants}

pub returns-clause-persistent : goal.returns-clause-persistent
returns-clause-persistent c = clip_spelled

pub returns-clause-instants : goal.returns-clause-instants
returns-clause-instants c = clip_spelled_instants
