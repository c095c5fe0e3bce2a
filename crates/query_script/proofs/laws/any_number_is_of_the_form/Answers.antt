use Rattle.query_script.proofs.Alike.{value-number, value-shape}
use Rattle.query_script.proofs.laws.any_number_is_of_the_form.Goals as goal

pub returns-clause-shape : goal.returns-clause-shape
returns-clause-shape c = value-shape

pub returns-clause-number : goal.returns-clause-number
returns-clause-number c = value-number
