use Rattle.round_trip.proofs.Together.{printed_part, printed_text}
use Rattle.round_trip.proofs.laws.materialise_prints_the_text_of_a_world.Goals as goal

pub returns-clause-part : goal.returns-clause-part
returns-clause-part c = printed_part

pub returns-clause-text : goal.returns-clause-text
returns-clause-text c = printed_text
