use Rattle.world_laws.proofs.search_laws.halves_have_one_digit_less.Goals as goal
use Rattle.world_laws.proofs.Digits.{digits-le, digits-halved}

pub returns-clause-more : goal.returns-clause-more
returns-clause-more c = digits-le

pub returns-clause-half : goal.returns-clause-half
returns-clause-half c = digits-halved
