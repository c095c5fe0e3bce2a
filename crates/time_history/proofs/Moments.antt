-- A moment, and the one after it.
use Rattle.std.proofs.Common.{◌≡◌, ℤ, pos, ◌+ℤ◌, ◌≤ℤ◌, ◌<ℤ◌, w64, SFits, to_z, of_z, ap, ◌∙◌, arith}
use Rattle.std.proofs.lemmas.Int.{to_z-of_z, ints}

-- the moment after one, in 64 bits
pub next_moment : (m : ℤ) → SFits w64 m → SFits w64 (m +ℤ pos 1) → to_z w64 (of_z w64 (to_z w64 (of_z w64 m) +ℤ pos 1)) ≡ m +ℤ pos 1
next_moment m f g = ap (λ z. to_z w64 (of_z w64 (z +ℤ pos 1))) (to_z-of_z w64 m f) ∙ to_z-of_z w64 (m +ℤ pos 1) g

-- what is before the next moment is up to this one
pub up_to_moment : (t n m : ℤ) → t <ℤ n → n ≡ m +ℤ pos 1 → t ≤ℤ m
up_to_moment t n m h e = omega (arith, ints)

-- and what is from the next one on is after this one
pub after_moment : (t n m : ℤ) → n ≤ℤ t → n ≡ m +ℤ pos 1 → m <ℤ t
after_moment t n m h e = omega (arith, ints)
