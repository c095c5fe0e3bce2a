-- The events of an entity that a history tells.
use Rattle.std.specs.Prelude.{ℕ, List, [], ◌∷◌, Bool, true, not, ◌≡◌, map}
use Rattle.std.specs.List.{All}
use Rattle.graph_model.specs.declared.properties.Value.{Value}
use Rattle.graph_model.specs.declared.events.Entity.{Entity}
use Rattle.graph_model.specs.declared.events.Entity.TheVariants.{Node, Edge}
use Rattle.graph_model.specs.declared.events.What.{What}
use Rattle.graph_model.specs.declared.events.What.TheVariants.{Node as NodeUpdate, Add as EdgeAdded, Delete as EdgeDeleted}
use Rattle.graph_model.specs.declared.events.Event.{Event}
use Rattle.graph_model.specs.Props.{put_prop}
use Rattle.time_history.specs.declared.updates.Kind.{Kind}
use Rattle.time_history.specs.declared.updates.Kind.TheVariants.{Node as OfNode, Add, Delete}
use Rattle.time_history.specs.declared.updates.Update.{Update}
use Rattle.time_history.specs.Kinds.{is_node}

-- properties by the names of their keys, rising
abbrev pub with_key_names : (ℕ → List ℕ) → List (ℕ × Value) → List (List ℕ × Value)
with_key_names names [] = []
with_key_names names (p ∷ ps) = put_prop (names p.0, p.1) (with_key_names names ps)

abbrev pub what_told : Entity → Kind → List (List ℕ × Value) → What
what_told (Node name) kind props = NodeUpdate name props
what_told (Edge edge) OfNode props = EdgeAdded edge props
what_told (Edge edge) Add props = EdgeAdded edge props
what_told (Edge edge) Delete props = EdgeDeleted edge

-- the event that an update is, for an entity and the names of the keys
abbrev pub event_told : Entity → (ℕ → List ℕ) → Update → Event
event_told entity names u = record { time = u.time; order = u.order; what = what_told entity u.kind (with_key_names names u.props) }

abbrev pub events_told : Entity → (ℕ → List ℕ) → List Update → List Event
events_told entity names us = map (event_told entity names) us

-- a node has updates of a node, and an edge has none
abbrev pub fits : Entity → Kind → Bool
fits (Node name) kind = is_node kind
fits (Edge edge) kind = not (is_node kind)

abbrev pub Fits : Entity → List Update → Type 0
Fits entity us = All (λ u. fits entity u.kind ≡ true) us
