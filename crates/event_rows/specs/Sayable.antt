-- The events, types and bounds that rows can say.
use Rattle.std.specs.Prelude.{ℕ, List, length, ◌≤◌, ◌<◌, ◌^◌, ◌&&◌, Bool, IsTrue, int_le}
use Rattle.std.specs.List.{AllByRecursion}
use Rattle.graph_model.specs.declared.properties.Value.{Value}
use Rattle.graph_model.specs.declared.events.EdgeName.{EdgeName}
use Rattle.graph_model.specs.declared.events.What.{What}
use Rattle.graph_model.specs.declared.events.What.TheVariants.{Node as Update, Add, Delete}
use Rattle.graph_model.specs.declared.events.Event.{Event}
use Rattle.graph_model.specs.Interval.{Interval, earliest, latest, is_inside}
use Rattle.graph_model.specs.Limits.{most_properties}
use Rattle.graph_model.specs.PropertyField.{IsWritable, has_no_colon}
use Rattle.graph_model.specs.Props.{KeysRise}
use Rattle.graph_model.specs.Range.{is_moment}
use Rattle.graph_model.specs.TextForm.{is_name}

-- three names
abbrev pub is_edge_name : EdgeName → Bool
is_edge_name edge = is_name edge.src && (is_name edge.dst && is_name edge.layer)

-- a property whose key is a name without a `:`, and whose value can be written
abbrev pub IsSayableProp : List ℕ × Value → Type 0
IsSayableProp p = IsTrue (is_name p.0) × IsTrue (has_no_colon p.0) × IsWritable p.1

-- as many such properties as there may be at the most, rising by key
abbrev pub AreSayableProps : List (List ℕ × Value) → Type 0
AreSayableProps props = KeysRise props × (length props ≤ most_properties) × AllByRecursion IsSayableProp props

abbrev pub IsSayableWhat : What → Type 0
IsSayableWhat (Update name props) = IsTrue (is_name name) × AreSayableProps props
IsSayableWhat (Add edge props) = IsTrue (is_edge_name edge) × AreSayableProps props
IsSayableWhat (Delete edge) = IsTrue (is_edge_name edge)

-- an event with such names and properties, an order of 32 bits, and a time that an event may have
-- and that is inside bounds
abbrev pub IsSayable : Interval → Event → Type 0
IsSayable bounds x = IsTrue (is_moment x.time) × IsTrue (is_inside bounds x.time) × (x.order < 2 ^ 32) × IsSayableWhat x.what

-- bounds in order and in range
abbrev pub are_bounds : Interval → Bool
are_bounds i = int_le earliest i.lo && (int_le i.lo i.hi && int_le i.hi latest)

-- a node and a type of it, each by its name
abbrev pub IsSayableType : List ℕ × List ℕ → Type 0
IsSayableType t = IsTrue (is_name t.0) × IsTrue (is_name t.1)
