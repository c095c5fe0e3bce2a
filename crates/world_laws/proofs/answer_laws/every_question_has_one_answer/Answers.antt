use Rattle.world_laws.proofs.answer_laws.every_question_has_one_answer.Goals as goal
use Rattle.world_laws.proofs.OneAnswer.{some_answer}
use Rattle.world_laws.proofs.Rows.{one_answer}

pub returns-clause-some : goal.returns-clause-some
returns-clause-some c = some_answer

pub returns-clause-one : goal.returns-clause-one
returns-clause-one c = one_answer
