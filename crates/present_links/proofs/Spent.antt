-- Steps that searches take, one after another.
use Rattle.std.proofs.Common.{ℕ, ◌+◌, ◌*◌, ◌≤◌, arith}
use Rattle.view_trait.specs.Meaning.{StepsWithin}

-- no search
pub spent_nothing : (a n m : ℕ) → StepsWithin a a n m
spent_nothing a n m = omega arith

-- the searches of one more
pub spent_more : (a b c k t m : ℕ) → StepsWithin a b (k * t) m → StepsWithin b c t m → StepsWithin a c ((k + 1) * t) m
spent_more a b c k t m h l = grind arith

-- of no more than there are
pub spent_among : (a b k n t m : ℕ) → k ≤ n → StepsWithin a b (k * t) m → StepsWithin a b (n * t) m
spent_among a b k n t m le h = grind arith

-- searches of some, and then of some others
pub spent_then : (a b c k n t m : ℕ) → StepsWithin a b (k * t) m → StepsWithin b c (n * t) m → StepsWithin a c ((k + n) * t) m
spent_then a b c k n t m h l = grind arith
