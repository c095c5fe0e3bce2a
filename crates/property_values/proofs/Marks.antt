-- A text up to its first mark, and what stands behind it.
use Rattle.std.proofs.Common.{◌≡◌, ◌<◌, ◌+◌, ◌∷◌, ◌++◌, ℕ, suc, Bool, true, false, not, List, [], length, take, drop, refl, ap, arith, nat_lt}
use Rattle.std.specs.Prelude.{if◌then◌else◌}
use Rattle.std.specs.List.{after_first, before_first, list_all, position_or_len, prefix_len}
use Rattle.std.proofs.lemmas.Bool.{and_parts}
use Rattle.std.proofs.lemmas.Bool.Decides.{nat_tests}
use Rattle.std.proofs.lemmas.List.{length-append}
use Rattle.std.proofs.Math.Numerals.{one-add}

prefix-stop : {X : Type 0} (q : X → Bool) (xs : List X) (y : X) (ys : List X) → list_all q xs ≡ true → q y ≡ false → prefix_len q (xs ++ y ∷ ys) ≡ length xs
prefix-stop q [] y ys all stop = rw stop refl
prefix-stop q (x ∷ xs) y ys all stop =
    let (first, others) = and_parts (q x) (list_all q xs) all in
    rw (first, prefix-stop q xs y ys others stop, one-add) refl

take-part : {X : Type 0} (xs ys : List X) → take (length xs) (xs ++ ys) ≡ xs
take-part [] ys = refl
take-part (x ∷ xs) ys = ap (λ zs. x ∷ zs) (take-part xs ys)

drop-part : {X : Type 0} (xs : List X) (y : X) (ys : List X) → drop (length xs + 1) (xs ++ y ∷ ys) ≡ ys
drop-part [] y ys = refl
drop-part (x ∷ xs) y ys =
    let next : suc (length xs) + 1 ≡ suc (length xs + 1) = omega arith in
    rw next (drop-part xs y ys)

pub before-mark : (p : ℕ → Bool) (xs : List ℕ) (y : ℕ) (ys : List ℕ) → list_all (λ b. not (p b)) xs ≡ true → p y ≡ true → before_first p (xs ++ y ∷ ys) ≡ xs
before-mark p xs y ys none stop = rw (prefix-stop (λ b. not (p b)) xs y ys none (ap not stop)) (take-part xs (y ∷ ys))

pub after-mark : (p : ℕ → Bool) (xs : List ℕ) (y : ℕ) (ys : List ℕ) → list_all (λ b. not (p b)) xs ≡ true → p y ≡ true → after_first p (xs ++ y ∷ ys) ≡ ys
after-mark p xs y ys none stop = rw (prefix-stop (λ b. not (p b)) xs y ys none (ap not stop)) (drop-part xs y ys)

less : (n m : ℕ) → n < m → nat_lt n m ≡ true
less n m h = grind (arith, nat_tests)

pub has-mark : (p : ℕ → Bool) (xs : List ℕ) (y : ℕ) (ys : List ℕ) → list_all (λ b. not (p b)) xs ≡ true → p y ≡ true → nat_lt (position_or_len p (xs ++ y ∷ ys)) (length (xs ++ y ∷ ys)) ≡ true
has-mark p xs y ys none stop =
    let size = length-append xs (y ∷ ys) in
    rw (prefix-stop (λ b. not (p b)) xs y ys none (ap not stop)) (less (length xs) (length (xs ++ y ∷ ys)) (omega arith))

kept-first : {X : Type 0} (q : X → Bool) (x : X) (xs : List X) (t : Bool) → q x ≡ t → list_all q (take (prefix_len q xs) xs) ≡ true → list_all q (take (if t then (1 + prefix_len q xs) else 0) (x ∷ xs)) ≡ true
kept-first q x xs true is others = rw (one-add, is, others) refl
kept-first q x xs false is others = refl

-- what stands before the first that fails passes
prefix-passes : {X : Type 0} (q : X → Bool) (xs : List X) → list_all q (take (prefix_len q xs) xs) ≡ true
prefix-passes q [] = refl
prefix-passes q (x ∷ xs) = kept-first q x xs (q x) refl (prefix-passes q xs)

pub before-has-no-mark : (p : ℕ → Bool) (xs : List ℕ) → list_all (λ b. not (p b)) (before_first p xs) ≡ true
before-has-no-mark p xs = prefix-passes (λ b. not (p b)) xs
