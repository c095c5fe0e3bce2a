-- The last key of a list of items.
use Rattle.std.proofs.Common.{◌≡◌, ℕ, zero, suc, ◌+◌, ◌<◌, List, [], ◌∷◌, ◌++◌, length, get_or, refl, arith}
use Rattle.std.specs.Prelude.{Option, None, Some}
use Rattle.std.specs.List.{insert, last_or}
use Rattle.std.specs.Map.{keys_of}

-- there is an item
pub some_last : {K V : Type 0} (ps : List (K × V)) (k : K) → last_or None (keys_of ps) ≡ Some k → 0 < length ps
some_last [] k e = absurd cc
some_last (p ∷ ps) k e = omega arith

-- it is the key at the last place
pub last_at : {K V : Type 0} (o : Option K) (ps : List (K × V)) (i : ℕ) (k : K) → last_or o (keys_of ps) ≡ Some k → i + 1 ≡ length ps → k ≡ get_or (keys_of ps) i k
last_at o [] i k e at = absurd (omega arith)
last_at o (p ∷ []) zero k e at = cc
last_at o (p ∷ []) (suc i) k e at = absurd (omega arith)
last_at o (p ∷ q ∷ ps) zero k e at = absurd (omega arith)
last_at o (p ∷ q ∷ ps) (suc i) k e at = last_at (Some p.0) (q ∷ ps) i k e (omega arith)

-- an item at the end is the last
pub last-push : {K V : Type 0} (o : Option K) (ps : List (K × V)) (p : K × V) → last_or o (keys_of (ps ++ p ∷ [])) ≡ Some p.0
last-push o [] p = refl
last-push o (q ∷ ps) p = last-push (Some q.0) ps p

-- an item before another leaves the last as it is
pub last-insert : {K V : Type 0} (o : Option K) (ps : List (K × V)) (i : ℕ) (p : K × V) → i < length ps → last_or o (keys_of (insert ps i p)) ≡ last_or o (keys_of ps)
last-insert o [] i p lt = absurd (omega arith)
last-insert o (q ∷ ps) zero p lt = refl
last-insert o (q ∷ ps) (suc i) p lt = last-insert (Some q.0) ps i p (omega arith)
