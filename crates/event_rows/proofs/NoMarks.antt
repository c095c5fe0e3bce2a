-- A text with no mark.
use Rattle.std.proofs.Common.{◌≡◌, ◌<◌, ◌∷◌, ◌==◌, ℕ, Bool, true, false, not, List, [], length, refl, arith, nat_lt}
use Rattle.std.specs.List.{list_all, position_or_len, prefix_len}
use Rattle.std.specs.Char.{is_ascii_digit}
use Rattle.std.proofs.lemmas.Bool.{and_parts}
use Rattle.std.proofs.lemmas.Bool.Decides.{nat_tests}
use Rattle.std.proofs.Math.Numerals.{one-add}

-- the first part is all before the mark
prefix-all : {X : Type 0} (q : X → Bool) (xs : List X) → list_all q xs ≡ true → prefix_len q xs ≡ length xs
prefix-all q [] all = refl
prefix-all q (x ∷ xs) all =
    let (first, others) = and_parts (q x) (list_all q xs) all in
    rw (first, prefix-all q xs others, one-add) refl

not-less : (n : ℕ) → nat_lt n n ≡ false
not-less n = grind (arith, nat_tests)

pub no-mark : (p : ℕ → Bool) (xs : List ℕ) → list_all (λ b. not (p b)) xs ≡ true → nat_lt (position_or_len p xs) (length xs) ≡ false
no-mark p xs none = rw (prefix-all (λ b. not (p b)) xs none) (not-less (length xs))

-- what holds of each that passes a stronger test
pub each-passes : {X : Type 0} (p q : X → Bool) → ((x : X) → p x ≡ true → q x ≡ true) → (xs : List X) → list_all p xs ≡ true → list_all q xs ≡ true
each-passes p q stronger [] all = refl
each-passes p q stronger (x ∷ xs) all =
    let (first, others) = and_parts (p x) (list_all p xs) all in
    rw (stronger x first) (each-passes p q stronger xs others)

pub digit-no-mark : (mark b : ℕ) → 57 < mark → is_ascii_digit b ≡ true → not (b == mark) ≡ true
digit-no-mark mark b far digit = grind (arith, nat_tests)
