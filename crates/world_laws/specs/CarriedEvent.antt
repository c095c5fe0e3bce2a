-- The event that is carried for an entity.
use Rattle.std.specs.Prelude.{ℤ, List}
use Rattle.graph_model.specs.declared.events.Entity.{Entity}
use Rattle.graph_model.specs.declared.events.Event.{Event}
use Rattle.graph_model.specs.Entity.{update_of}
use Rattle.graph_model.specs.Window.{last_props}

-- an update of a node or an addition of an edge, at a moment, of order 0, with the last properties that events set
abbrev pub carried_event : Entity → ℤ → List Event → Event
carried_event e lo xs = record { time = lo; order = 0; what = update_of e (last_props xs) }
