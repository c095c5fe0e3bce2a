use Rattle.world_laws.proofs.window_laws.window_clips_each_entity.Goals as goal
use Rattle.world_laws.proofs.Windows.{events_of-window}

pub returns : goal.returns
returns c = events_of-window
