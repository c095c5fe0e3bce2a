-- The events that histories tell, and the order of their arrival.
use Rattle.std.specs.Prelude.{ℕ, List, [], ◌∷◌, ◌++◌, map}
use Rattle.std.specs.declared.cmp.Ordering.{Ordering}
use Rattle.std.specs.Ordering.{nat_cmp}
use Rattle.graph_model.specs.declared.events.Entity.{Entity}
use Rattle.graph_model.specs.declared.events.Event.{Event}
use Rattle.graph_model.specs.Rising.{in_order}
use Rattle.time_history.specs.declared.updates.Update.{Update}
use Rattle.time_history.specs.Telling.{event_told}

-- the events of an entity's history, each with the number of its arrival
abbrev pub arrived : Entity → (ℕ → List ℕ) → List Update → List (ℕ × Event)
arrived e names us = map (λ (u : Update). (u.arrival, event_told e names u)) us

-- those of some entities, with their histories
abbrev pub all_arrived : (ℕ → List ℕ) → List Entity → List (List Update) → List (ℕ × Event)
all_arrived names [] hs = []
all_arrived names (e ∷ es) [] = []
all_arrived names (e ∷ es) (us ∷ hs) = arrived e names us ++ all_arrived names es hs

abbrev pub arrival_cmp : ℕ × Event → ℕ × Event → Ordering
arrival_cmp a b = nat_cmp a.0 b.0

-- the events in the order of their arrival
abbrev pub by_arrival : List (ℕ × Event) → List Event
by_arrival xs = map (λ (p : ℕ × Event). p.1) (in_order arrival_cmp xs)
