-- How nodes are reached.
use Rattle.std.specs.Prelude.{ℕ, List, Option, Some, nat_eq, ◌≡◌}
use Rattle.std.specs.Map.{keys_of, lookup}
use Rattle.temporal_reach.specs.declared.reach_table.Reached.{Reached}

-- how a node is reached, if this is known
abbrev pub reached_at : List (ℕ × Reached) → ℕ → Option Reached
reached_at table n = lookup (nat_eq n) table

-- the nodes of which it is known
abbrev pub nodes_in : List (ℕ × Reached) → List ℕ
nodes_in table = keys_of table

-- how a node is reached becomes known, and of all others what is known stays
abbrev pub Puts : List (ℕ × Reached) → ℕ → Reached → List (ℕ × Reached) → Type 0
Puts before n reached after =
    (reached_at after n ≡ Some reached)
    × ((k : ℕ) → (k ≡ n → ⊥) → reached_at after k ≡ reached_at before k)
