-- The row of an extent.
use Rattle.std.specs.Prelude.{ℤ, Option, Some, None}
use Rattle.graph_model.specs.Answer.{Row, ExtentRow}
use Rattle.view_trait.specs.declared.extent_of_view.WorldExtent.{WorldExtent}

-- two times, where both are there
abbrev pub both_times : Option ℤ → Option ℤ → Option (ℤ × ℤ)
both_times (Some a) (Some b) = Some (a, b)
both_times (Some a) None = None
both_times None b = None

abbrev pub extent_told : WorldExtent → Row
extent_told e = ExtentRow e.events (both_times e.first e.last)
