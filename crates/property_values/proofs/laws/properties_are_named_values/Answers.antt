use Rattle.property_values.proofs.Fields.{property_of-written, WritesProperty-from_read}
use Rattle.property_values.proofs.laws.properties_are_named_values.Goals as goal

pub returns : goal.returns
returns c = λ field key value. (WritesProperty-from_read field key value, property_of-written field key value)
