-- Types of nodes, by numbers.
use Rattle.std.specs.Prelude.{ℕ, List, [], ◌<◌, Option, nat_eq, fold, length, slice_index_or}
use Rattle.std.specs.List.{AllByRecursion}
use Rattle.std.specs.Map.{lookup}
use Rattle.graph_model.specs.World.{put_type}

-- the number of each node that has a type, with the number of its type, and for how many more there is room
pub record TypeIndex : Type 0 where
  pub numbers : List (ℕ × ℕ)
  pub spare : ℕ

-- the number of the type of a node's number
abbrev pub kind_in : List (ℕ × ℕ) → ℕ → Option ℕ
kind_in numbers node = lookup (nat_eq node) numbers

-- types, by the names of nodes and of types
abbrev pub types_named : List (List ℕ) → List (List ℕ) → List (ℕ × ℕ) → List (List ℕ × List ℕ)
types_named nodes kinds numbers = fold (λ types p. put_type (slice_index_or nodes p.0 [], slice_index_or kinds p.1 []) types) [] numbers

-- the numbers of nodes and of types that have these names
abbrev pub IsTypeIndex : List (List ℕ) → List (List ℕ) → List (ℕ × ℕ) → Type 0
IsTypeIndex nodes kinds numbers = AllByRecursion (λ (p : ℕ × ℕ). (p.0 < length nodes) × (p.1 < length kinds)) numbers
