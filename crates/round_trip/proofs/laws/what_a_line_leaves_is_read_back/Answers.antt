use Rattle.round_trip.proofs.Together.{line_again, line_unrefused}
use Rattle.round_trip.proofs.laws.what_a_line_leaves_is_read_back.Goals as goal

pub returns-clause-unrefused : goal.returns-clause-unrefused
returns-clause-unrefused c = line_unrefused

pub returns-clause-again : goal.returns-clause-again
returns-clause-again c = line_again
