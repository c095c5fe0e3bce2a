-- The parts of a list between offsets.
use Rattle.std.proofs.Common.{◌≡◌, ℕ, zero, suc, ◌+◌, ◌<◌, List, [], ◌∷◌, length, get_or, refl, ap, ◌∙◌, arith}
use Rattle.std.specs.Prelude.{slice_range}
use Rattle.present_links.specs.Adjacent.{row_at, parts_from, parts_between}

length-parts_from : (xs : List ℕ) (from : ℕ) (offsets : List ℕ) → length (parts_from xs from offsets) ≡ length offsets
length-parts_from xs from [] = refl
length-parts_from xs from (to ∷ offsets) = ap suc (length-parts_from xs to offsets)

-- there is one part less than offsets
pub length-parts : (xs starts : List ℕ) (n : ℕ) → length starts ≡ n + 1 → length (parts_between xs starts) ≡ n
length-parts xs [] n is = absurd (omega (arith, is))
length-parts xs (from ∷ offsets) n is = let long = length-parts_from xs from offsets in omega (arith, is, long)

from_at : (xs : List ℕ) (from : ℕ) (offsets : List ℕ) (v : ℕ) → v < length offsets
    → row_at (parts_from xs from offsets) v ≡ slice_range xs (get_or (from ∷ offsets) v 0) (get_or offsets v 0)
from_at xs from [] v lt = absurd (omega (arith, lt))
from_at xs from (to ∷ offsets) zero lt = refl
from_at xs from (to ∷ offsets) (suc v) lt = from_at xs to offsets v (omega (arith, lt))

-- each is between the offset in its place and the next
pub part_at : (xs starts : List ℕ) (n v : ℕ) → length starts ≡ n + 1 → v < n
    → row_at (parts_between xs starts) v ≡ slice_range xs (get_or starts v 0) (get_or starts (v + 1) 0)
part_at xs [] n v is lt = absurd (omega (arith, is))
part_at xs (from ∷ offsets) n v is lt = from_at xs from offsets v (omega (arith, is, lt)) ∙ ap (λ k. slice_range xs (get_or (from ∷ offsets) v 0) (get_or (from ∷ offsets) k 0)) (plus_one v)
  where
    plus_one : (k : ℕ) → suc k ≡ k + 1
    plus_one k = omega arith
