-- Windows: what a world shows of the moments from a up to b.
use Rattle.std.specs.Prelude.{ℕ, ℤ, List, [], ◌∷◌, ◌++◌, Bool, int_lt, if◌then◌else◌}
use Rattle.std.specs.List.{filter, fold, flat_map}
use Rattle.graph_model.specs.declared.properties.Value.{Value}
use Rattle.graph_model.specs.declared.events.Event.{Event}
use Rattle.graph_model.specs.declared.events.Model.{Model}
use Rattle.graph_model.specs.declared.events.Model.TheVariants.{Event as Instants, Persistent}
use Rattle.graph_model.specs.Props.{overwrite}
use Rattle.graph_model.specs.Interval.{Interval, cut, is_empty, is_inside}
use Rattle.graph_model.specs.Entity.{entity_of, props_of, update_of, about, entities}
use Rattle.graph_model.specs.Compare.{live_events}
use Rattle.graph_model.specs.World.{World, arrange, remake}

-- for each key, the last value that the events set
abbrev pub last_props : List Event → List (List ℕ × Value)
last_props xs = fold (λ old x. overwrite old (props_of x)) [] xs

-- the one event that stands for the live events of an entity at the beginning of a window, if there are any
abbrev pub carried_events : ℤ → List Event → List Event
carried_events lo [] = []
carried_events lo (x ∷ xs) = record { time = lo; order = 0; what = update_of (entity_of x) (last_props (x ∷ xs)) } ∷ []

-- whether an event is earlier than the beginning of a window
abbrev pub is_early : Interval → Event → Bool
is_early i x = int_lt x.time i.lo

-- whether an event is inside a window
abbrev pub is_within : Interval → Event → Bool
is_within i x = is_inside i x.time

-- the events carried into a window, one for each entity that has one
abbrev pub all_carried : ℤ → List Event → List Event
all_carried lo early = flat_map (λ e. carried_events lo (live_events (about e early))) (entities early)

-- the events that a window shows
abbrev pub window_list : Model → Interval → List Event → List Event
window_list Instants i xs = filter (is_within i) xs
window_list Persistent i xs = if is_empty i then [] else arrange (all_carried i.lo (filter (is_early i) xs) ++ filter (is_within i) xs)

-- the world that a window shows
abbrev pub window : World → ℤ → ℤ → World
window w a b = remake w (cut w.bounds a b) (window_list w.model (cut w.bounds a b) w.events)

-- what a window shows of one entity, from the entity's events
abbrev pub clip_list : Model → Interval → List Event → List Event
clip_list Instants i xs = filter (is_within i) xs
clip_list Persistent i xs = if is_empty i then [] else (carried_events i.lo (live_events (filter (is_early i) xs)) ++ filter (is_within i) xs)
