-- Places that part others in the middle.
use Rattle.std.proofs.Common.{◌≡◌, ℕ, ◌+◌, ◌-◌, ◌*◌, ◌/◌, ◌^◌, ◌<◌, ◌≤◌, ◌⊎◌, inl, inr, arith}
use Rattle.std.proofs.lemmas.Nat.{pow_pos}
use Rattle.std.proofs.Math.Nat.{pow-le-pow_right}
use Rattle.std.proofs.lemmas.Grind.{pow_more}
use Rattle.chunk_list.specs.Middle.{IsShorter, IsMiddle}

-- nothing is shorter than something
pub IsShorter-zero : (n whole : ℕ) → n ≡ 0 → IsShorter n whole
IsShorter-zero n whole e = λ k lt. omega (arith, pow_pos k)

-- a number with a smaller logarithm is shorter
pub IsShorter-log : (n whole a b : ℕ) → n < 2 * 2 ^ a → 2 ^ b ≤ whole → a < b → IsShorter n whole
IsShorter-log n whole a b up down less = λ k lt. elim (two b k) [
  | inl le ↦ omega (arith, pow_more 2 a, pow-le-pow_right {n = 2} (omega arith) {i = a + 1} {j = k} (omega arith))
  | inr gt ↦ absurd (omega (arith, pow-le-pow_right {n = 2} (omega arith) {i = k + 1} {j = b} (omega arith)))
]
  where
    two : (b k : ℕ) → (b ≤ k) ⊎ (k < b)
    two b k = grind arith

-- half of a number is shorter
pub IsShorter-half : (n whole : ℕ) → n ≤ whole / 2 → IsShorter n whole
IsShorter-half n whole le = λ k lt. omega (arith, pow_more 2 k)

pub IsMiddle-exact : (from to : ℕ) → from < to → IsMiddle from to (from + (to - from) / 2)
IsMiddle-exact from to lt = record {
  from = omega arith;
  to = omega arith;
  before = IsShorter-half (from + (to - from) / 2 - from) (to - from) (omega arith);
  after = IsShorter-half (to - (from + (to - from) / 2 + 1)) (to - from) (omega arith);
}
