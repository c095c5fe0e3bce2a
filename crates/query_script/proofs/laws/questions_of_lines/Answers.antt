use Rattle.std.proofs.Common.{refl}
use Rattle.serde_json.proofs.OnLiterals.{serde_json_on_literals}
use Rattle.query_script.proofs.laws.questions_of_lines.Goals as goal

pub returns-clause-degree : goal.returns-clause-degree
unfolding serde_json_on_literals
returns-clause-degree c = refl

pub returns-clause-repeated : goal.returns-clause-repeated
unfolding serde_json_on_literals
returns-clause-repeated c = refl

pub returns-clause-outward : goal.returns-clause-outward
unfolding serde_json_on_literals
returns-clause-outward c = refl

pub returns-clause-zero : goal.returns-clause-zero
unfolding serde_json_on_literals
returns-clause-zero c = refl

pub returns-clause-least : goal.returns-clause-least
unfolding serde_json_on_literals
returns-clause-least c = refl
