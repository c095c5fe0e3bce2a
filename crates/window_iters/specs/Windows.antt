-- The windows of an each over a view.
use Rattle.std.specs.Prelude.{ℕ, ◌≡◌, ◌+◌, ◌*◌, List, [], ◌∷◌, length, Option, MatchOption}
use denote.Ref.{Bor}
use Rattle.graph_model.specs.Searches.{Searches, digits}
use Rattle.graph_store.specs.Contents.{Contents}
use Rattle.view_trait.specs.Extent.{span_searches}
use Rattle.view_trait.specs.declared.rosters.Roster.TheVariants.{All as Whole}
use Rattle.window_ends.specs.declared.ends.Ends.{Ends}
use Rattle.window_view.specs.declared.view.WindowView.{WindowView}

-- the windows over a view that are yet to come
pub record WindowsLeft (V : Type 0) : Type 0 where
  pub view : V
  pub ends : List Ends

-- where a window of a view begins and ends
abbrev pub ends_of : {V : Type 0} → WindowView V → Ends
ends_of w = record { from = w.from; to = w.to }

-- over one view, the first of the windows that were left was given, and the others are left; or none
-- was given where none was left
abbrev pub IsNextWindow : {V : Type 0} → WindowsLeft V → Option (WindowView (Bor V)) → WindowsLeft V → Type 0
IsNextWindow before given after = (after.view ≡ before.view)
    × MatchOption given ((before.ends ≡ []) × (after.ends ≡ []))
    (λ w. (w.inner.now ≡ before.view) × (before.ends ≡ ends_of w ∷ after.ends))

-- the steps of a first and a last time at the most: each span is asked for once, and two times are read
-- in it
abbrev pub extent_steps : Contents → Searches → ℕ
extent_steps c s = span_searches c Whole s * digits (length c.accepted)
    + 2 * (length c.nodes + length c.edges)
