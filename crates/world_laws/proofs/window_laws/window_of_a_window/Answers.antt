use Rattle.world_laws.proofs.window_laws.window_of_a_window.Goals as goal
use Rattle.world_laws.proofs.Windows.{window_twice}

pub returns : goal.returns
returns c = window_twice
