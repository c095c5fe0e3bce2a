use Rattle.query_script.proofs.Kept.{line-in-range}
use Rattle.query_script.proofs.laws.queries_are_in_range.Goals as goal

pub returns : goal.returns
returns c = line-in-range
