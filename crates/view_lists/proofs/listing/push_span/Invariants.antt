use Rattle.std.proofs.Common.{◌≡◌, ◌≤◌, ◌+◌, ◌-◌, ℕ, List, ◌++◌, slice_range}
use Rattle.graph_model.specs.declared.events.Entity.{Entity}
use Rattle.time_history.specs.Telling.{events_told, Fits}
use Rattle.view_lists.specs.Listing.{placed_from}
use Rattle.view_lists.proofs.listing.push_span.Given as goal

abbrev pub invariant-loop-i : goal.invariant-loop-i
invariant-loop-i g l = record {
  placed : (x : Entity) (names : ℕ → List ℕ) → Fits x l.history.updates → l.places.items ≡ l.initial.places.items ++ placed_from l.shown l.count (slice_range (events_told x names l.history.updates) l.fn.span.from l.i);
  cost : l.steps ≤ l.fn.steps + (l.i - l.fn.span.from);
}
