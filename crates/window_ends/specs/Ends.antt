-- Windows by the moments at which they begin and before which they end.
use Rattle.std.specs.Prelude.{ℕ, ℤ, pos, ◌≡◌, ◌≤◌, ◌<◌, ◌+ℤ◌, ◌*ℤ◌, ◌≤ℤ◌, ◌<ℤ◌, IsTrue, List, [], ◌∷◌, map, Option, MatchOption}
use Rattle.std.specs.List.{range_with_len}
use Rattle.graph_model.specs.declared.queries.Each.{Each}
use Rattle.graph_model.specs.Range.{each_in_range}
use Rattle.graph_model.specs.Interval.{earliest, latest}
use Rattle.graph_model.specs.World.{World}
use Rattle.graph_model.specs.Window.{window}
use Rattle.graph_model.specs.Windows.{step_of, bounded, window_start, window_end, window_count}
use Rattle.world_laws.specs.Ends.{IsBound}
use Rattle.window_ends.specs.declared.ends.Ends.{Ends}

-- the ends of the k-th window of events that begin at a first time
abbrev pub ends_at : Each → ℤ → ℕ → Ends
ends_at each first k = record {
  from = bounded (window_start each first k);
  to = bounded (window_end each first k);
}

-- the ends of n windows, from the k-th on
abbrev pub ends_from : Each → ℤ → ℕ → ℕ → List Ends
ends_from each first k n = map (ends_at each first) (range_with_len k n)

-- the ends of all windows of events from a first time to a last
abbrev pub all_ends : Each → ℤ → ℤ → List Ends
all_ends each first last = ends_from each first 0 (window_count each first last)

-- the windows of a world that have these ends
abbrev pub windows_at : World → List Ends → List World
windows_at w ends = map (λ (e : Ends). window w e.from e.to) ends

-- so many windows, of events that begin at a first time, of which the next one has a place: each ends
-- a step after a moment
pub record HaveEnds (each : Each) (first : ℤ) (next count : ℕ) : Type 0 where
  pub in_range : IsTrue (each_in_range each)
  pub begins : earliest ≤ℤ first
  pub order : next ≤ count
  pub reached : (k : ℕ) → k < count → (first +ℤ (pos k *ℤ step_of each)) <ℤ latest

-- ends that bounds may have
abbrev pub AreBounds : Ends → Type 0
AreBounds e = IsBound e.from × IsBound e.to

-- the first of the ends that were left, which are bounds, or nothing where nothing was left
abbrev pub IsNext : List Ends → Option Ends → List Ends → Type 0
IsNext before next after = MatchOption next ((before ≡ []) × (after ≡ []))
    (λ e. (before ≡ e ∷ after) × AreBounds e)
