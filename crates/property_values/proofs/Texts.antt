-- What is read as a name or as the text of a value is UTF-8 already, so its length alone decides.
use Rattle.std.proofs.Common.{◌≡◌, ◌<◌, ◌≤◌, ◌&&◌, inl, inr, ℕ, List, length, Some, None, refl, arith, nat_lt, nat_le}
use Rattle.std.specs.Str.{IsUtf8}
use Rattle.std.proofs.lemmas.Bool.{cases_lt}
use Rattle.std.proofs.lemmas.Bool.Decides.{nat_tests}
use Rattle.std.proofs.lemmas.Str.{is_utf8-from_IsUtf8}
use Rattle.graph_model.specs.PropertyField.{words_of}
use Rattle.graph_model.specs.TextForm.{is_name, is_text}

pub is_name-text : (bs : List ℕ) → IsUtf8 bs → is_name bs ≡ (nat_lt 0 (length bs) && nat_le (length bs) 256)
is_name-text bs utf8 = rw (is_utf8-from_IsUtf8 bs utf8) refl

is_text-text : (bs : List ℕ) → IsUtf8 bs → is_text bs ≡ nat_le (length bs) 4096
is_text-text bs utf8 = rw (is_utf8-from_IsUtf8 bs utf8) refl

pub words_of-short : (bs : List ℕ) → IsUtf8 bs → length bs ≤ 4096 → words_of bs ≡ Some bs
words_of-short bs utf8 short = rw (is_text-text bs utf8) (grind (arith, nat_tests))

pub words_of-long : (bs : List ℕ) → IsUtf8 bs → 4096 < length bs → words_of bs ≡ None
words_of-long bs utf8 long = rw (is_text-text bs utf8) (grind (arith, nat_tests))

pub not-long : (n : ℕ) → (4096 < n → ⊥) → n ≤ 4096
not-long n refused = elim (cases_lt 4096 n) [ inl long ↦ absurd (refused long) | inr short ↦ omega arith ]
