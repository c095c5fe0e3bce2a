use Rattle.property_values.proofs.Signed.{whole_of-written, WritesWhole-from_read}
use Rattle.property_values.proofs.laws.whole_numbers_are_signed_digits.Goals as goal

pub returns : goal.returns
returns c = λ text z. (WritesWhole-from_read text z, whole_of-written text z)
