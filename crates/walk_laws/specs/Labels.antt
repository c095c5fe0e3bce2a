-- Labels of nodes, by their places among the present ones.
use Rattle.std.specs.Prelude.{ℕ, List, ◌≡◌, ◌≤◌, ◌<◌, true, length, map, slice_index_or}
use Rattle.std.specs.List.{range_with_len}
use Rattle.graph_model.specs.declared.queries.Direction.TheVariants.{Both}
use Rattle.graph_model.specs.Answer.{Row, LabelRow}
use Rattle.graph_model.specs.Neighbours.{leads}
use Rattle.graph_model.specs.Presence.{nodes}
use Rattle.graph_model.specs.Walk.{Reaches}
use Rattle.graph_model.specs.World.{World}
use Rattle.walk_laws.specs.Numbers.{name_of}

-- for the place of each node a place that is not behind it, to whose node a walk either way leads
pub record AreReached (w : World) (names : List (List ℕ)) (least : List ℕ) : Type 0 where
  pub each : length least ≡ length names
  pub lower : (i : ℕ) → i < length names → slice_index_or least i 0 ≤ i
  pub reached : (i : ℕ) → i < length names
      → Reaches w Both (name_of names i) (name_of names (slice_index_or least i 0))

-- such places of all present nodes, the same for neighbours
pub record AreLeastPlaces (w : World) (least : List ℕ) : Type 0 where
  pub reached : AreReached w (nodes w) least
  pub same : (i j : ℕ) → i < length (nodes w) → j < length (nodes w)
      → leads w Both (name_of (nodes w) i) (name_of (nodes w) j) ≡ true
      → slice_index_or least i 0 ≡ slice_index_or least j 0

-- the row of the node in a place, with the node in the place that it is given
abbrev pub label_row : List (List ℕ) → List ℕ → ℕ → Row
label_row names least i = LabelRow (name_of names i) (name_of names (slice_index_or least i 0))

abbrev pub label_rows : List (List ℕ) → List ℕ → List Row
label_rows names least = map (label_row names least) (range_with_len 0 (length names))
