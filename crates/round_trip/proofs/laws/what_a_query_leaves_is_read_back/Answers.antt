use Rattle.std.proofs.Common.{ap}
use Rattle.graph_model.specs.Reading.{Reading}
use Rattle.round_trip.proofs.Together.{left_again, left_printable, left_said}
use Rattle.round_trip.proofs.laws.what_a_query_leaves_is_read_back.Goals as goal

pub returns-clause-printable : goal.returns-clause-printable
returns-clause-printable c = left_printable

pub returns-clause-unrefused : goal.returns-clause-unrefused
returns-clause-unrefused c = λ model bytes query w range k. ap (λ (r : Reading). r.refused) (left_said model bytes query w range k)

pub returns-clause-again : goal.returns-clause-again
returns-clause-again c = left_again
