-- The fields of rows are UTF-8.
use Rattle.std.proofs.Common.{◌≡◌, ◌<◌, ◌^◌, ◌∷◌, ◌++◌, ◌&&◌, ℕ, ℤ, zero, suc, true, false, List, [], map, length, refl, arith, nat_lt, nat_le}
use Rattle.std.specs.Prelude.{FitsSigned, codes}
use Rattle.std.specs.Int.{w64}
use Rattle.std.specs.List.{AllByRecursion, list_all}
use Rattle.std.specs.Str.{IsAscii, is_utf8}
use Rattle.std.specs.Fmt.{decimal, signed_decimal}
use Rattle.std.proofs.lemmas.Bool.{and_parts}
use Rattle.std.proofs.lemmas.Bool.Decides.{nat_tests}
use Rattle.std.proofs.lemmas.Fmt.{IsAscii-decimal, IsAscii-signed}
use Rattle.std.proofs.lemmas.Str.{IsUtf8-append, IsUtf8-from_ascii, IsUtf8-from_is_utf8, is_utf8-from_IsUtf8}
use Rattle.graph_model.specs.PropertyField.{IsWritable}
use Rattle.graph_model.specs.Record.{order_text, prop_text, value_text}
use Rattle.graph_model.specs.Said.{are_texts}
use Rattle.graph_model.specs.declared.properties.Value.{Value}
use Rattle.graph_model.specs.declared.properties.Value.TheVariants as value
use Rattle.event_rows.specs.Sayable.{IsSayableProp}

below : (b : ℕ) → nat_lt b 128 ≡ true → b < 128
below b e = grind (arith, nat_tests)

ascii : (bs : List ℕ) → list_all (λ b. nat_lt b 128) bs ≡ true → IsAscii bs
ascii [] all i = omega arith
ascii (b ∷ bs) all zero = below b (and_parts (nat_lt b 128) (list_all (λ c. nat_lt c 128) bs) all).0
ascii (b ∷ bs) all (suc i) = ascii bs (and_parts (nat_lt b 128) (list_all (λ c. nat_lt c 128) bs) all).1 i

-- a literal is text
pub literal-text : (bs : List ℕ) → list_all (λ b. nat_lt b 128) bs ≡ true → is_utf8 bs ≡ true
literal-text bs all = is_utf8-from_IsUtf8 bs (IsUtf8-from_ascii bs (ascii bs all))

join-text : (a b : List ℕ) → is_utf8 a ≡ true → is_utf8 b ≡ true → is_utf8 (a ++ b) ≡ true
join-text a b x y = is_utf8-from_IsUtf8 (a ++ b) (IsUtf8-append a b (IsUtf8-from_is_utf8 a x) (IsUtf8-from_is_utf8 b y))

pub signed-text : (z : ℤ) → FitsSigned w64 z → is_utf8 (signed_decimal z) ≡ true
signed-text z fits = is_utf8-from_IsUtf8 (signed_decimal z) (IsUtf8-from_ascii (signed_decimal z) (IsAscii-signed z fits.sfits))

order-text : (k : ℕ) → k < 2 ^ 32 → is_utf8 (order_text k) ≡ true
order-text zero fits = literal-text [] refl
order-text (suc k) fits = join-text (codes "@") (decimal (suc k)) (literal-text (codes "@") refl) (is_utf8-from_IsUtf8 (decimal (suc k)) (IsUtf8-from_ascii (decimal (suc k)) (IsAscii-decimal (suc k) (omega arith))))

pub time-text : (z : ℤ) (k : ℕ) → FitsSigned w64 z → k < 2 ^ 32 → is_utf8 (signed_decimal z ++ order_text k) ≡ true
time-text z k fits small = join-text (signed_decimal z) (order_text k) (signed-text z fits) (order-text k small)

value-text : (v : Value) → IsWritable v → is_utf8 (value_text v) ≡ true
value-text (value.Int n) fits = join-text (codes "i=") (signed_decimal n) (literal-text (codes "i=") refl) (signed-text n fits)
value-text (value.Flag true) fits = literal-text (codes "b=true") refl
value-text (value.Flag false) fits = literal-text (codes "b=false") refl
value-text (value.Text t) fits = join-text (codes "s=") t (literal-text (codes "s=") refl) (and_parts (is_utf8 t) (nat_le (length t) 4096) fits).0

prop-text : (p : List ℕ × Value) → IsSayableProp p → is_utf8 (prop_text p) ≡ true
prop-text p is =
    let (name, plain, writable) = is in
    join-text (p.0 ++ codes ":") (value_text p.1) (join-text p.0 (codes ":") (and_parts (is_utf8 p.0) (nat_lt 0 (length p.0) && nat_le (length p.0) 256) name).0 (literal-text (codes ":") refl)) (value-text p.1 writable)

pub props-text : (props : List (List ℕ × Value)) → AllByRecursion IsSayableProp props → are_texts (map prop_text props) ≡ true
props-text [] each = refl
props-text (p ∷ props) each = rw (prop-text p each.0) (props-text props each.1)
