-- Numbers in groups of 64.
use Rattle.std.specs.Prelude.{ℕ, List, [], ◌∷◌, ◌+◌, ◌*◌, ◌/◌, ◌^◌, ◌≡◌, ◌<◌, ◌≤◌, length, slice_index}

-- each number is the sum of its group's number and its own, where the first stands at a place
abbrev pub sums_of : ℕ → List ℕ → List ℕ → List ℕ
sums_of p groups [] = []
sums_of p groups (n ∷ ns) = (slice_index groups (p / 64) + n) ∷ sums_of (p + 1) groups ns

-- each number has a group, each group has a first number, which is the group's, and the sums fit
pub record AreGrouped (groups own : List ℕ) : Type 0 where
  pub covered : length own ≤ 64 * length groups
  pub begun : (g : ℕ) → g < length groups → 64 * g < length own
  pub zero : (g : ℕ) → g < length groups → slice_index own (64 * g) ≡ 0
  pub fits : (k : ℕ) → k < length own → slice_index groups (k / 64) + slice_index own k < 2 ^ 64
