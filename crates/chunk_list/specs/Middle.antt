-- Places that part others in the middle.
use Rattle.std.specs.Prelude.{ℕ, ◌+◌, ◌-◌, ◌^◌, ◌<◌, ◌≤◌}

-- a number has fewer binary digits than another: it is less than half of each power of two that the other is less than
abbrev pub IsShorter : ℕ → ℕ → Type 0
IsShorter n whole = (k : ℕ) → whole < 2 ^ (k + 1) → n < 2 ^ k

-- a place among those from one up to another, where both sides of it are shorter than the whole
pub record IsMiddle (lo hi at : ℕ) : Type 0 where
  pub from : lo ≤ at
  pub to : at < hi
  pub before : IsShorter (at - lo) (hi - lo)
  pub after : IsShorter (hi - (at + 1)) (hi - lo)
