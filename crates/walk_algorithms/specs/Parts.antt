-- Places of nodes in a list, and nodes with their labels.
use Rattle.std.specs.Prelude.{ℕ, List, ◌≡◌, ◌<◌, length, map, slice_index_or}
use Rattle.std.specs.List.{range_with_len}
use Rattle.walk_algorithms.specs.declared.labels.Part.{Part}

-- for the number of each node of a list its place there
pub record ArePlaces (nodes : List ℕ) (limit : ℕ) (places : List ℕ) : Type 0 where
  pub long : length places ≡ limit
  pub place : (i : ℕ) → i < length nodes
      → slice_index_or places (slice_index_or nodes i 0) 0 ≡ i

-- the node in a place, with the one in the place that it is given
abbrev pub part_at : List ℕ → List ℕ → ℕ → Part
part_at nodes least i = record {
  node = record { 0 = slice_index_or nodes i 0 };
  label = record { 0 = slice_index_or nodes (slice_index_or least i 0) 0 };
}

abbrev pub parts_by : List ℕ → List ℕ → List Part
parts_by nodes least = map (part_at nodes least) (range_with_len 0 (length nodes))
