use Rattle.world_laws.proofs.search_laws.digits_are_binary.Goals as goal
use Rattle.world_laws.proofs.Digits.{digits-binary}

pub returns : goal.returns
returns c = digits-binary
