-- How many binary digits numbers have.
use Rattle.std.proofs.Common.{◌≡◌, ℕ, zero, suc, ◌+◌, ◌/◌, ◌^◌, ◌<◌, ◌≤◌, arith}
use Rattle.std.specs.Prelude.{◌↔◌}
use Rattle.std.proofs.Math.Nat.{pow-suc}
use Rattle.graph_model.specs.Searches.{digits, digits_up_to}

-- a power of two is at least one
two_pow_some : (k : ℕ) → 1 ≤ 2 ^ k
two_pow_some zero = omega arith
two_pow_some (suc k) = let e = pow-suc 2 k in let h = two_pow_some k in omega arith

-- the count of the digits, whatever larger bound it is given
digits_below : (m n k : ℕ) → n ≤ m → digits_up_to m n ≤ k → n < 2 ^ k
digits_below m zero k h below = two_pow_some k
digits_below zero (suc n) k h below = absurd (omega arith)
digits_below (suc m) (suc n) zero h below = absurd (omega arith)
digits_below (suc m) (suc n) (suc k) h below =
    let e = pow-suc 2 k in
    let half : suc n / 2 < 2 ^ k = digits_below m (suc n / 2) k (omega arith) (omega arith) in
    omega arith

digits_above : (m n k : ℕ) → n < 2 ^ k → digits_up_to m n ≤ k
digits_above zero n k h = omega arith
digits_above (suc m) zero k h = omega arith
digits_above (suc m) (suc n) zero h = absurd (omega arith)
digits_above (suc m) (suc n) (suc k) h =
    let e = pow-suc 2 k in
    let half : suc n / 2 < 2 ^ k = omega arith in
    omega (arith, digits_above m (suc n / 2) k half)

-- a number has at most k digits exactly where it is less than 2 to the power k
pub digits-binary : (n k : ℕ) → (digits n ≤ k) ↔ (n < 2 ^ k)
digits-binary n k = (digits_below n n k (omega arith), digits_above n n k)

-- a larger number has no fewer digits, whatever larger bounds the count is given
digits_grow : (m n a b : ℕ) → a ≤ b → b ≤ n → digits_up_to m a ≤ digits_up_to n b
digits_grow zero n a b h k = omega arith
digits_grow (suc m) n zero b h k = omega arith
digits_grow (suc m) n (suc a) zero h k = absurd (omega arith)
digits_grow (suc m) zero (suc a) (suc b) h k = absurd (omega arith)
digits_grow (suc m) (suc n) (suc a) (suc b) h k =
    let half : suc a / 2 ≤ suc b / 2 = omega arith in
    let below : suc b / 2 ≤ n = omega arith in
    omega (arith, digits_grow m n (suc a / 2) (suc b / 2) half below)

pub digits-le : (a b : ℕ) → a ≤ b → digits a ≤ digits b
digits-le a b h = digits_grow a b a b h (omega arith)

-- half of a number has one digit less
pub digits-half : (n : ℕ) → 0 < n → digits (n / 2) + 1 ≤ digits n
digits-half zero h = absurd (omega arith)
digits-half (suc n) h = let half : suc n / 2 ≤ n = omega arith in omega (arith, digits_grow (suc n / 2) n (suc n / 2) (suc n / 2) (omega arith) half)

-- after a probe in the middle of a range, what is left on either side has one digit less
pub digits-side : (n m : ℕ) → m ≤ n / 2 → 0 < n → digits m + 1 ≤ digits n
digits-side n m h some = omega (arith, digits-le m (n / 2) h, digits-half n some)

-- a number that is not 0 has one digit more than its half
pub digits-halved : (n : ℕ) → 0 < n → digits n ≡ digits (n / 2) + 1
digits-halved zero h = absurd (omega arith)
digits-halved (suc n) h = let half : suc n / 2 ≤ n = omega arith in omega (arith, digits_grow (suc n / 2) n (suc n / 2) (suc n / 2) (omega arith) half, digits_grow n (suc n / 2) (suc n / 2) (suc n / 2) (omega arith) (omega arith))
