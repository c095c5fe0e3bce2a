use Rattle.query_run.proofs.OneOutput.{output-one, output-some}
use Rattle.query_run.proofs.laws.outputs_are_one.Goals as goal

pub returns-clause-some : goal.returns-clause-some
returns-clause-some c = output-some

pub returns-clause-one : goal.returns-clause-one
returns-clause-one c = output-one
