-- Events of a node or an edge, by their times and kinds.
use Rattle.std.specs.Prelude.{ℤ, ◌-◌, List, [], ◌∷◌, ◌++◌, map, slice_range, if◌then◌else◌}
use Rattle.graph_model.specs.declared.events.Event.{Event}
use Rattle.time_history.specs.declared.span.Span.{Span}
use Rattle.time_history.specs.declared.updates.Update.{Update}
use Rattle.time_history.specs.Asked.{kind_of_event}
use Rattle.time_history.specs.Updates.{update_at}
use Rattle.view_lists.specs.declared.moments.Moment.{Moment}

-- the time and the kind of an event
abbrev pub moment_of_event : Event → Moment
moment_of_event x = record { time = x.time; kind = kind_of_event x.what }

-- the time and the kind of an update
abbrev pub moment_told : Update → Moment
moment_told u = record { time = u.time; kind = u.kind }

-- what is carried to lo, if something is: it has the kind of the last update before the span
abbrev pub carried_moments : List Update → Span → ℤ → List Moment
carried_moments us span lo =
    if span.carried
    then (record { time = lo; kind = (update_at us (span.from - 1)).kind } ∷ [])
    else []

-- what is carried, and then the updates of the span
abbrev pub moments_told : List Update → Span → ℤ → List Moment
moments_told us span lo =
    carried_moments us span lo ++ map moment_told (slice_range us span.from span.to)
