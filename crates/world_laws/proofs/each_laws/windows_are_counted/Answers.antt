use Rattle.world_laws.proofs.each_laws.windows_are_counted.Goals as goal
use Rattle.world_laws.proofs.Rolling.{counted_windows}

pub returns : goal.returns
returns c = counted_windows
