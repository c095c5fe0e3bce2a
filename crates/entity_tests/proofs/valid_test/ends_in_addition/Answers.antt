use Rattle.std.proofs.Common.{Some, None, ◌∙◌}
use Rattle.entity_tests.proofs.Compared.{last_added}
use Rattle.entity_tests.proofs.valid_test.ends_in_addition.Goals as goal

pub returns-in-Some : goal.returns-in-Some
returns-in-Some c = λ entity names lo fits. c.is_addition.ensures ∙ last_added (Some c.in-Some.kind) c.args.history.now.updates c.args.span entity names lo fits c.in-Some.ensures

pub returns-in-None : goal.returns-in-None
returns-in-None c = λ entity names lo fits. last_added None c.args.history.now.updates c.args.span entity names lo fits c.in-None.ensures
