use Rattle.round_trip.proofs.Together.{left_written, world_clean, world_written}
use Rattle.round_trip.proofs.laws.a_printed_world_is_answered_as_the_world.Goals as goal

pub returns-clause-printable : goal.returns-clause-printable
returns-clause-printable c = world_written

pub returns-clause-left : goal.returns-clause-left
returns-clause-left c = left_written

pub returns-clause-clean : goal.returns-clause-clean
returns-clause-clean c = world_clean
