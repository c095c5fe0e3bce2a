use Rattle.query_script.proofs.Kept.{value-refusal}
use Rattle.query_script.proofs.laws.causes_lie_in_values.Goals as goal

pub returns : goal.returns
returns c = value-refusal
