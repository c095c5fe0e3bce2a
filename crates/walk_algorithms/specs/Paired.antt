-- Links that stand side by side with their ways back.
use Rattle.std.specs.Prelude.{ℕ, List, ◌+◌, ◌*◌, ◌^◌, ◌<◌, ◌≡◌, ◌&&◌, Bool, false, nat_lt, length, if◌then◌else◌}
use Rattle.std.specs.List.{IsDistinct}
use Rattle.std.specs.List.Sorted.{IsSortedBy}
use Rattle.graph_store.specs.declared.pairs.Ends.{Ends}
use Rattle.graph_store.specs.Ends.{ends_at, same_ends}

-- the pair of the same nodes the other way round
abbrev pub turned : Ends → Ends
turned p = record { src = p.dst; dst = p.src }

-- the number that a link shares with its way back, and with no other link: its lower end, and then
-- its higher one
abbrev pub both_ends : Ends → ℕ
both_ends p = if nat_lt p.dst p.src then p.dst * 2 ^ 32 + p.src else p.src * 2 ^ 32 + p.dst

-- distinct links, each beside its way back, if that is one of them
pub record ArePaired (links : List Ends) : Type 0 where
  pub once : IsDistinct same_ends links
  pub sorted : IsSortedBy (λ (p q : Ends). nat_lt (both_ends p) (both_ends q)) links

-- whether the link after the one at a place leads back
abbrev pub next_back : List Ends → ℕ → Bool
next_back links i =
    nat_lt (i + 1) (length links) && same_ends (turned (ends_at links i)) (ends_at links (i + 1))

-- no link behind that one leads back
abbrev pub NoneFar : List Ends → ℕ → Type 0
NoneFar links i =
    (k : ℕ) → i + 1 < k → k < length links → same_ends (turned (ends_at links i)) (ends_at links k) ≡ false
