-- Where the views that are windows begin and end.
use Rattle.std.specs.Prelude.{ℕ, ℤ, pos, ◌<◌, ◌+ℤ◌, ◌≤ℤ◌, ◌<ℤ◌, IsTrue, Option, None, Some}
use Rattle.graph_model.specs.declared.queries.Op.{Op}
use Rattle.graph_model.specs.declared.queries.Op.TheVariants.{Window, At, Before, After}
use Rattle.graph_model.specs.declared.queries.Each.{Each}
use Rattle.graph_model.specs.Range.{each_in_range}
use Rattle.graph_model.specs.Windows.{window_count}
use Rattle.graph_model.specs.Interval.{earliest, latest}

-- the moment at which a view that is a window begins, and that before which it ends
abbrev pub window_ends : Op → Option (ℤ × ℤ)
window_ends (Window a b) = Some (a, b)
window_ends (At t) = Some (t, t +ℤ pos 1)
window_ends (Before t) = Some (earliest, t)
window_ends (After t) = Some (t +ℤ pos 1, latest)
window_ends _ = None

-- a number that bounds may have
abbrev pub IsBound : ℤ → Type 0
IsBound t = (earliest ≤ℤ t) × (t ≤ℤ latest)

-- numbers that a cut may have
abbrev pub AreEnds : ℤ × ℤ → Type 0
AreEnds ends = IsBound ends.0 × IsBound ends.1

-- a window in a row, of events from a first time to a last
pub record IsWindowInRow (each : Each) (first last : ℤ) (k : ℕ) : Type 0 where
  -- the width and the step are in range
  pub in_range : IsTrue (each_in_range each)
  -- the times are moments, in order
  pub begins : earliest ≤ℤ first
  pub order : first ≤ℤ last
  pub ends : last <ℤ latest
  -- there are so many windows
  pub counted : k < window_count each first last
