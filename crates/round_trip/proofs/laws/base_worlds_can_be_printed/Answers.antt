use Rattle.round_trip.proofs.Accepted.{file_printable}
use Rattle.round_trip.proofs.laws.base_worlds_can_be_printed.Goals as goal

pub returns : goal.returns
returns c = file_printable
