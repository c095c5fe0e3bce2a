use Rattle.property_values.proofs.Signed.{whole_of-decimal}
use Rattle.property_values.proofs.laws.whole_numbers_are_read_again.Goals as goal

pub returns : goal.returns
returns c = whole_of-decimal
