use Rattle.std.proofs.Common.{refl}
use Rattle.serde_json.proofs.OnLiterals.{serde_json_on_literals}
use Rattle.query_script.proofs.laws.shapes_of_lines.Goals as goal

pub returns-clause-views : goal.returns-clause-views
unfolding serde_json_on_literals
returns-clause-views c = refl

pub returns-clause-each : goal.returns-clause-each
unfolding serde_json_on_literals
returns-clause-each c = refl

pub returns-clause-ask : goal.returns-clause-ask
unfolding serde_json_on_literals
returns-clause-ask c = refl

pub returns-clause-ends : goal.returns-clause-ends
unfolding serde_json_on_literals
returns-clause-ends c = refl
