-- What it costs to take events, one after another.
use Rattle.std.proofs.Common.{◌≤◌, ◌+◌, ◌*◌, ℕ, arith}
use Rattle.std.proofs.Math.Nat.{mul-le-mul_left, mul-le-mul_right}
use Rattle.graph_model.specs.Searches.{digits}
use Rattle.world_laws.proofs.Digits.{digits-le}
use Rattle.file_reading.specs.Costs.{most_steps, paid_steps}

-- one more, at no less a price
one-more : (n m d e : ℕ) → n ≤ m → d ≤ e → n * (d + 1) + (d + 1) ≤ (m + 1) * (e + 1)
one-more n m d e h k =
    let number : n + 1 ≤ m + 1 = omega arith in
    let price : d + 1 ≤ e + 1 = omega arith in
    let first = mul-le-mul_right (d + 1) number in
    let second = mul-le-mul_left (m + 1) price in
    omega arith

-- what one more event costs
pub paid-more : (n : ℕ) → paid_steps n + (digits n + 1) ≤ paid_steps (n + 1)
paid-more n = one-more n n (digits n) (digits (n + 1)) (omega arith) (digits-le n (n + 1) (omega arith))

-- what an event costs for which memory is wanting
pub paid-wanting : (n m : ℕ) → n ≤ m → paid_steps n + (digits n + 1) ≤ most_steps m
paid-wanting n m h = one-more n m (digits n) (digits m) h (digits-le n m h)

pub paid-all : (n m : ℕ) → n ≤ m → paid_steps n ≤ most_steps m
paid-all n m h = omega (arith, paid-wanting n m h)
