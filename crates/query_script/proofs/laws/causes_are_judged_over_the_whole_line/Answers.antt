use Rattle.query_script.proofs.Judged.{value-refused}
use Rattle.query_script.proofs.laws.causes_are_judged_over_the_whole_line.Goals as goal

pub returns : goal.returns
returns c = value-refused
