-- Which of two places comes first.
use Rattle.std.proofs.Common.{◌≡◌, ℕ, ◌+◌, ◌<◌, ◌≤◌, ◌⊎◌, arith}

pub none_or_some : (n : ℕ) → (n ≡ 0) ⊎ (0 < n)
none_or_some n = grind arith

pub same_or_more : (a b : ℕ) → a ≤ b → (a ≡ b) ⊎ (a < b)
same_or_more a b h = grind arith

pub before_or_last : (k i : ℕ) → k < i + 1 → (k < i) ⊎ (k ≡ i)
before_or_last k i h = grind arith
