use Rattle.std.proofs.Common.{arith}
use Rattle.std.proofs.lemmas.Bool.Decides.{nat_tests}
use Rattle.property_values.proofs.Texts.{is_name-text}
use Rattle.event_rows.proofs.fields.can_be_name.Goals as goal

pub returns-then-not-is_empty : goal.returns-then-not-is_empty
returns-then-not-is_empty c = rw (is_name-text c.args.text.now c.utf8.text) (grind (arith, nat_tests))

pub returns-else-not-is_empty : goal.returns-else-not-is_empty
returns-else-not-is_empty c = rw (is_name-text c.args.text.now c.utf8.text) (grind (arith, nat_tests))
