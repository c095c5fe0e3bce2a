use Rattle.world_laws.proofs.each_laws.windows_of_lawful_worlds_are_lawful.Goals as goal
use Rattle.world_laws.proofs.Each.{lawful_windows}

pub returns : goal.returns
returns c = lawful_windows
