-- Numbers in lists.
use Rattle.std.specs.Prelude.{ℕ, List, Bool, ◌<◌, ◌≡◌, ◌==◌, length, slice_index}
use Rattle.std.specs.List.{list_any}

-- whether a number is in a list
abbrev pub is_listed : List ℕ → ℕ → Bool
is_listed numbers n = list_any (λ m. m == n) numbers

-- for each number of a list its place there
pub record ArePlaced (numbers places : List ℕ) : Type 0 where
  pub within : (i : ℕ) → i < length numbers → slice_index numbers i < length places
  pub at : (i : ℕ) → i < length numbers → slice_index places (slice_index numbers i) ≡ i
