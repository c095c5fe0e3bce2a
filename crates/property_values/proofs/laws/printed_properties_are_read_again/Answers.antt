use Rattle.property_values.proofs.Fields.{property_of-prop_text}
use Rattle.property_values.proofs.laws.printed_properties_are_read_again.Goals as goal

pub returns : goal.returns
returns c = property_of-prop_text
