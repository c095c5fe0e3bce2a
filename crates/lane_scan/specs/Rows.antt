-- The rows of a timeline, which of them a question selects, and their number and times.
use Rattle.std.specs.Prelude.{ℕ, ℤ, List, [], ◌∷◌, Bool, ◌&&◌, map, length, Option, None, Some}
use Rattle.std.specs.List.{filter}
use Rattle.graph_model.specs.Interval.{is_inside}
use Rattle.view_trait.specs.Numbered.{has_bit}
use Rattle.view_trait.specs.Extent.{earlier_of, later_of}
use Rattle.view_trait.specs.declared.extent_of_view.WorldExtent.{WorldExtent}
use Rattle.lane_scan.specs.declared.hits.Hit.{Hit}

-- whether a time is from lo up to hi, and the bit of a code is in a mask
abbrev pub passes : ℤ → ℤ → ℕ → ℤ → ℕ → Bool
passes lo hi mask time code = is_inside (record { lo = lo; hi = hi }) time && has_bit mask code

-- whether a row's time is from lo up to hi, and the bit of its code is in a mask
abbrev pub is_selected : ℤ → ℤ → ℕ → Hit → Bool
is_selected lo hi mask row = passes lo hi mask row.time row.code

-- the rows that are selected, in their order
abbrev pub selected : ℤ → ℤ → ℕ → List Hit → List Hit
selected lo hi mask rows = filter (is_selected lo hi mask) rows

-- the least of some times, and the greatest
abbrev pub least_time : List ℤ → Option ℤ
least_time [] = None
least_time (t ∷ times) = earlier_of (Some t) (least_time times)

abbrev pub greatest_time : List ℤ → Option ℤ
greatest_time [] = None
greatest_time (t ∷ times) = later_of (Some t) (greatest_time times)

-- how many times there are, the least and the greatest
abbrev pub extent_of_times : List ℤ → WorldExtent
extent_of_times times =
    record { events = length times; first = least_time times; last = greatest_time times }

-- how many rows there are, and the least and the greatest of their times
abbrev pub extent_of_rows : List Hit → WorldExtent
extent_of_rows rows = extent_of_times (map (λ row. row.time) rows)
