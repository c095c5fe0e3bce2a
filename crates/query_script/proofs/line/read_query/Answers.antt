use Rattle.query_script.proofs.Kept.{given-in-range}
use Rattle.query_script.proofs.line.read_query.Goals as goal

pub returns-clause-range : goal.returns-clause-range
returns-clause-range c = given-in-range c.read.result c.args.line.now c.read.ensures
