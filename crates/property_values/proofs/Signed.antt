-- Whole numbers: what is read is an optional sign and digits, and the other way round.
use Rattle.std.proofs.Common.{◌≡◌, ◌<◌, ◌≤◌, ◌+◌, ◌-◌, ◌*◌, ◌/◌, ◌%◌, ◌^◌, ◌&&◌, ◌⊎◌, inl, inr, ◌==◌, ◌++◌, ℕ, ℤ, pos, negsuc, neg_ℤ, zero, suc, List, [], ◌∷◌, length, Bool, true, false, Option, Some, None, refl, ap, sym, subst, ◌∙◌, arith, nat_lt, nat_le, codes}
use Rattle.std.specs.Prelude.{if◌then◌else◌, FitsSigned}
use Rattle.std.specs.Char.{is_ascii_digit}
use Rattle.std.specs.List.{list_all}
use Rattle.std.specs.Int.{w64}
use Rattle.std.specs.Fmt.{decimal, signed_decimal}
use Rattle.std.proofs.lemmas.Bool.Decides.{nat_tests}
use Rattle.std.proofs.lemmas.Fmt.{decimal_by_steps, decimal_nonempty, length-decimal-le}
use Rattle.std.proofs.lemmas.List.Folds.{list_all-append}
use Rattle.std.proofs.lemmas.List.Sums.{fold_push}
use Rattle.graph_model.specs.WholeNumber.{are_digits, number_of, whole_above, whole_below, whole_of, WritesWhole}

-- a choice that was made says why
chosen : (t u : Bool) (x z : ℤ) → (if t && u then Some x else None) ≡ Some z → (t ≡ true) × (u ≡ true) × (z ≡ x)
chosen true true x z e = (refl, refl, cc)
chosen true false x z e = absurd (cc)
chosen false u x z e = absurd (cc)

picked : (t u : Bool) (x : Option ℤ) → t ≡ true → u ≡ true → (if t && u then x else None) ≡ x
picked true true x t u = refl
picked true false x t u = cc
picked false u x t v = cc

fits-above : (n : ℕ) → nat_lt n (2 ^ 63) ≡ true → FitsSigned w64 (pos n)
fits-above n below = record { sfits = grind (arith, nat_tests) }

fits-below : (n : ℕ) → nat_le n (2 ^ 63) ≡ true → FitsSigned w64 (neg_ℤ (pos n))
fits-below zero below = record { sfits = omega arith }
fits-below (suc n) below = record { sfits = grind (arith, nat_tests) }

above-writes : (digits : List ℕ) (z : ℤ) → whole_above digits ≡ Some z → WritesWhole digits z
above-writes digits z read =
    let (few, below, is) = chosen (are_digits digits) (nat_lt (number_of digits) (2 ^ 63)) (pos (number_of digits)) z read in
    record { digits = digits; are_few = few; signed = inl (refl, is); fits = subst (λ k. FitsSigned w64 k) (sym is) (fits-above (number_of digits) below) }

below-writes : (digits : List ℕ) (z : ℤ) → whole_below digits ≡ Some z → WritesWhole (codes "-" ++ digits) z
below-writes digits z read =
    let (few, below, is) = chosen (are_digits digits) (nat_le (number_of digits) (2 ^ 63)) (neg_ℤ (pos (number_of digits))) z read in
    record { digits = digits; are_few = few; signed = inr (refl, is); fits = subst (λ k. FitsSigned w64 k) (sym is) (fits-below (number_of digits) below) }

by_sign : (t : Bool) (first : ℕ) (rest : List ℕ) (z : ℤ) → (first == 45) ≡ t → (if t then whole_below rest else whole_above (first ∷ rest)) ≡ Some z → WritesWhole (first ∷ rest) z
by_sign true first rest z sign read =
    let is : 45 ≡ first = grind (arith, nat_tests) in
    subst (λ k. WritesWhole (k ∷ rest) z) is (below-writes rest z read)
by_sign false first rest z sign read = above-writes (first ∷ rest) z read

-- what is read is written so
pub WritesWhole-from_read : (text : List ℕ) (z : ℤ) → whole_of text ≡ Some z → WritesWhole text z
WritesWhole-from_read [] z read = absurd (cc)
WritesWhole-from_read (first ∷ rest) z read = by_sign (first == 45) first rest z refl read

-- digits have no sign
digit_no_sign : (first : ℕ) → is_ascii_digit first ≡ true → (first == 45) ≡ false
digit_no_sign first is = grind (arith, nat_tests)

first_digit : (first : ℕ) (rest : List ℕ) → are_digits (first ∷ rest) ≡ true → is_ascii_digit first ≡ true
first_digit first rest all = grind (arith, nat_tests)

no_sign : (ds : List ℕ) → are_digits ds ≡ true → whole_of ds ≡ whole_above ds
no_sign [] all = refl
no_sign (first ∷ rest) all = rw (digit_no_sign first (first_digit first rest all)) refl

above : (ds : List ℕ) (n : ℕ) → are_digits ds ≡ true → number_of ds ≡ n → n < 2 ^ 63 → whole_above ds ≡ Some (pos n)
above ds n digits number below =
    let fits : nat_lt (number_of ds) (2 ^ 63) ≡ true = rw number (grind (arith, nat_tests)) in
    picked (are_digits ds) (nat_lt (number_of ds) (2 ^ 63)) (Some (pos (number_of ds))) digits fits ∙ ap (λ k. Some (pos k)) number

below-fits : (n : ℕ) → FitsSigned w64 (neg_ℤ (pos n)) → nat_le n (2 ^ 63) ≡ true
below-fits zero fits = grind (arith, nat_tests)
below-fits (suc n) fits =
    let small : n < 2 ^ 63 = fits.sfits in
    grind (arith, nat_tests)

below_zero : (ds : List ℕ) (n : ℕ) → are_digits ds ≡ true → number_of ds ≡ n → FitsSigned w64 (neg_ℤ (pos n)) → whole_below ds ≡ Some (neg_ℤ (pos n))
below_zero ds n digits number small =
    let fits : nat_le (number_of ds) (2 ^ 63) ≡ true = rw number (below-fits n small) in
    picked (are_digits ds) (nat_le (number_of ds) (2 ^ 63)) (Some (neg_ℤ (pos (number_of ds)))) digits fits ∙ ap (λ k. Some (neg_ℤ (pos k))) number

read-signed : (text digits : List ℕ) (z : ℤ) → are_digits digits ≡ true → FitsSigned w64 z
    → ((text ≡ digits) × (z ≡ pos (number_of digits))) ⊎ ((text ≡ codes "-" ++ digits) × (z ≡ neg_ℤ (pos (number_of digits))))
    → whole_of text ≡ Some z
read-signed text digits z few fits (inl p) =
    let small : FitsSigned w64 (pos (number_of digits)) = subst (λ k. FitsSigned w64 k) p.1 fits in
    let least : number_of digits < 2 ^ 63 = small.sfits in
    ap whole_of p.0 ∙ no_sign digits few ∙ above digits (number_of digits) few refl least ∙ ap Some (sym p.1)
read-signed text digits z few fits (inr p) =
    let small : FitsSigned w64 (neg_ℤ (pos (number_of digits))) = subst (λ k. FitsSigned w64 k) p.1 fits in
    ap whole_of p.0 ∙ below_zero digits (number_of digits) few refl small ∙ ap Some (sym p.1)

-- what is written is read so
pub whole_of-written : (text : List ℕ) (z : ℤ) → WritesWhole text z → whole_of text ≡ Some z
whole_of-written text z writes = read-signed text writes.digits z writes.are_few writes.fits writes.signed

digit : (d : ℕ) → d < 10 → is_ascii_digit (48 + d) ≡ true
digit d small = grind (arith, nat_tests)

-- what `decimal` writes are digits, and their number
Writes : ℕ → List ℕ → Type 0
Writes n ds = (list_all is_ascii_digit ds ≡ true) × (number_of ds ≡ n)

one_digit : (n : ℕ) → n < 10 → Writes n ((48 + n) ∷ [])
unfolding Writes
one_digit n small = (rw (digit n small) refl, omega arith)

more_digits : (n : ℕ) (ds : List ℕ) → 10 ≤ n → Writes (n / 10) ds → Writes n (ds ++ ((48 + n % 10) ∷ []))
unfolding Writes
more_digits n ds large known =
    let last : is_ascii_digit (48 + n % 10) ≡ true = digit (n % 10) (omega arith) in
    let all : list_all is_ascii_digit (ds ++ ((48 + n % 10) ∷ [])) ≡ true = list_all-append is_ascii_digit ds ((48 + n % 10) ∷ []) ∙ rw (known.0, last) refl in
    let number : number_of (ds ++ ((48 + n % 10) ∷ [])) ≡ n = fold_push (λ n digit. n * 10 + (digit - 48)) 0 ds (48 + n % 10) ∙ rw known.1 (omega arith) in
    (all, number)

decimal_writes : (n : ℕ) → n < 2 ^ 64 → Writes n (decimal n)
decimal_writes n fits = decimal_by_steps Writes one_digit more_digits n fits

pub digits_of_decimal : (n : ℕ) → n ≤ 2 ^ 63 → are_digits (decimal n) ≡ true
unfolding Writes
digits_of_decimal n fits =
    let some : 0 < length (decimal n) = decimal_nonempty n (omega arith) in
    let few : length (decimal n) ≤ 19 = length-decimal-le 19 n (omega arith) (omega arith) (omega arith) in
    let all : list_all is_ascii_digit (decimal n) ≡ true = (decimal_writes n (omega arith)).0 in
    rw all (grind (arith, nat_tests))

pub number_of_decimal : (n : ℕ) → n ≤ 2 ^ 63 → number_of (decimal n) ≡ n
unfolding Writes
number_of_decimal n fits = (decimal_writes n (omega arith)).1

-- the decimal text of a number writes it
pub WritesWhole-decimal : (z : ℤ) → FitsSigned w64 z → WritesWhole (signed_decimal z) z
WritesWhole-decimal (pos n) fits =
    let small : n < 2 ^ 63 = fits.sfits in
    let most : n ≤ 2 ^ 63 = omega arith in
    record { digits = decimal n; are_few = digits_of_decimal n most; signed = inl (refl, ap pos (sym (number_of_decimal n most))); fits = fits }
WritesWhole-decimal (negsuc n) fits =
    let small : n < 2 ^ 63 = fits.sfits in
    let most : suc n ≤ 2 ^ 63 = omega arith in
    record { digits = decimal (suc n); are_few = digits_of_decimal (suc n) most; signed = inr (refl, ap (λ k. neg_ℤ (pos k)) (sym (number_of_decimal (suc n) most))); fits = fits }

pub whole_of-decimal : (z : ℤ) → FitsSigned w64 z → whole_of (signed_decimal z) ≡ Some z
whole_of-decimal z fits = whole_of-written (signed_decimal z) z (WritesWhole-decimal z fits)
