use Rattle.round_trip.proofs.Accepted.{exactly_printable, plain_keys}
use Rattle.round_trip.proofs.ReadAgain.{world_said}
use Rattle.round_trip.proofs.laws.a_printed_world_is_read_back.Goals as goal

pub returns-clause-said : goal.returns-clause-said
returns-clause-said c = world_said

pub returns-clause-exactly : goal.returns-clause-exactly
returns-clause-exactly c = exactly_printable

pub returns-clause-plain_keys : goal.returns-clause-plain_keys
returns-clause-plain_keys c = plain_keys
