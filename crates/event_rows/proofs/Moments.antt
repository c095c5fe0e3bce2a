-- A time that was written is read again.
use Rattle.std.proofs.Common.{◌≡◌, ◌<◌, ◌≤◌, ◌^◌, ◌++◌, ◌&&◌, ℕ, ℤ, pos, negsuc, zero, suc, true, not, Some, length, refl, arith, nat_lt, nat_le}
use Rattle.std.proofs.lemmas.Int.{ints}
use Rattle.std.specs.Prelude.{FitsSigned, IsTrue, int_le, int_lt}
use Rattle.std.specs.Int.{w64}
use Rattle.std.specs.List.{list_all}
use Rattle.std.specs.Char.{is_ascii_digit}
use Rattle.std.specs.Fmt.{decimal, signed_decimal}
use Rattle.std.proofs.lemmas.Bool.{and_parts}
use Rattle.std.proofs.lemmas.Bool.Decides.{nat_tests}
use Rattle.std.proofs.lemmas.Fmt.{length-decimal-le}
use Rattle.std.proofs.lemmas.List.{append-nil}
use Rattle.graph_model.specs.Interval.{earliest, latest}
use Rattle.graph_model.specs.Record.{order_text}
use Rattle.property_values.proofs.Signed.{digits_of_decimal, number_of_decimal, whole_of-decimal}
use Rattle.graph_model.specs.Said.{is_at_sign, moment_of, order_of}
use Rattle.property_values.proofs.Marks.{after-mark, before-mark, has-mark}
use Rattle.event_rows.proofs.NoMarks.{digit-no-mark, each-passes, no-mark}

pub time-fits : (z : ℤ) → IsTrue (int_le earliest z && int_lt z latest) → FitsSigned w64 z
time-fits (pos n) inside = record { sfits = grind (arith, ints, nat_tests) }
time-fits (negsuc n) inside = record { sfits = grind (arith, ints, nat_tests) }

pub bound-fits : (z : ℤ) → IsTrue (int_le earliest z) → IsTrue (int_le z latest) → FitsSigned w64 z
bound-fits (pos n) low high = record { sfits = grind (arith, ints, nat_tests) }
bound-fits (negsuc n) low high = record { sfits = grind (arith, ints, nat_tests) }

digits-only : (n : ℕ) → n ≤ 2 ^ 63 → list_all is_ascii_digit (decimal n) ≡ true
digits-only n fits =
    let digits = digits_of_decimal n fits in
    (and_parts _ _ (and_parts _ _ digits).1).1

decimal-no-at : (n : ℕ) → n ≤ 2 ^ 63 → list_all (λ b. not (is_at_sign b)) (decimal n) ≡ true
decimal-no-at n fits = each-passes is_ascii_digit (λ b. not (is_at_sign b)) (λ b digit. digit-no-mark 64 b (omega arith) digit) (decimal n) (digits-only n fits)

signed-no-at : (z : ℤ) → FitsSigned w64 z → list_all (λ b. not (is_at_sign b)) (signed_decimal z) ≡ true
signed-no-at (pos n) fits =
    let small : n < 2 ^ 63 = fits.sfits in
    decimal-no-at n (omega arith)
signed-no-at (negsuc n) fits =
    let small : n < 2 ^ 63 = fits.sfits in
    decimal-no-at (suc n) (omega arith)

pub order_of-decimal : (k : ℕ) → k < 2 ^ 32 → order_of (decimal k) ≡ Some k
order_of-decimal k fits =
    let digits = digits_of_decimal k (omega arith) in
    let some : nat_lt 0 (length (decimal k)) ≡ true = (and_parts _ _ digits).0 in
    let each = digits-only k (omega arith) in
    let few : length (decimal k) ≤ 10 = length-decimal-le 10 k (omega arith) (omega arith) (omega arith) in
    let short : nat_le (length (decimal k)) 10 ≡ true = grind (arith, nat_tests) in
    let number = number_of_decimal k (omega arith) in
    let below : nat_lt k (2 ^ 32) ≡ true = grind (arith, nat_tests) in
    rw (some, short, each, number, below) refl

pub moment_of-text : (time : ℤ) (order : ℕ) → IsTrue (int_le earliest time && int_lt time latest) → order < 2 ^ 32
    → moment_of (signed_decimal time ++ order_text order) ≡ Some (time, order)
moment_of-text time zero inside fits =
    let whole = time-fits time inside in
    rw (append-nil (signed_decimal time), no-mark is_at_sign (signed_decimal time) (signed-no-at time whole), whole_of-decimal time whole, inside) refl
moment_of-text time (suc k) inside fits =
    let whole = time-fits time inside in
    let plain = signed-no-at time whole in
    rw (
      has-mark is_at_sign (signed_decimal time) 64 (decimal (suc k)) plain refl,
      before-mark is_at_sign (signed_decimal time) 64 (decimal (suc k)) plain refl,
      after-mark is_at_sign (signed_decimal time) 64 (decimal (suc k)) plain refl,
      whole_of-decimal time whole,
      order_of-decimal (suc k) fits,
      inside,
    ) refl
