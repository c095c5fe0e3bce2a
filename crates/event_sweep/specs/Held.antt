-- The events of a world that are held for a sweep.
use Rattle.std.specs.Prelude.{ℕ, ℤ, List, Bool, true, false, ◌≡◌, map}
use Rattle.std.specs.List.{filter}
use Rattle.graph_model.specs.declared.events.Event.{Event}
use Rattle.graph_model.specs.declared.events.Model.{Model}
use Rattle.graph_model.specs.declared.events.Model.TheVariants.{Event as Instants, Persistent}
use Rattle.graph_model.specs.Entity.{is_deletion}
use Rattle.event_sweep.specs.Swept.{is_of}
use Rattle.event_sweep.specs.declared.held_events.HeldEvent.{HeldEvent}

-- when an event is, and whether it is a deletion
abbrev pub moment_held : HeldEvent → ℤ × Bool
moment_held x = (x.time, x.deletes)

abbrev pub moment_of : Event → ℤ × Bool
moment_of x = (x.time, is_deletion x)

-- under a number these events are held, in their order, with their times and which of them are deletions
abbrev pub AreHeld : List HeldEvent → ℕ → List Event → Type 0
AreHeld held n xs = map moment_held (filter (is_of n) held) ≡ map moment_of xs

-- whether additions last under a model
abbrev pub additions_last : Model → Bool
additions_last Instants = false
additions_last Persistent = true
