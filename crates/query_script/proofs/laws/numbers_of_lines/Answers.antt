use Rattle.std.proofs.Common.{refl}
use Rattle.serde_json.proofs.OnLiterals.{serde_json_on_literals}
use Rattle.query_script.proofs.laws.numbers_of_lines.Goals as goal

pub returns-clause-fraction : goal.returns-clause-fraction
unfolding serde_json_on_literals
returns-clause-fraction c = refl

pub returns-clause-exponent : goal.returns-clause-exponent
unfolding serde_json_on_literals
returns-clause-exponent c = refl

pub returns-clause-minus : goal.returns-clause-minus
unfolding serde_json_on_literals
returns-clause-minus c = refl

pub returns-clause-large : goal.returns-clause-large
unfolding serde_json_on_literals
returns-clause-large c = refl

pub returns-clause-shape : goal.returns-clause-shape
unfolding serde_json_on_literals
returns-clause-shape c = refl
