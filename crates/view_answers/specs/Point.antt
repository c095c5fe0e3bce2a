-- Questions about one node or one edge, by numbers of a store.
use Rattle.std.specs.Prelude.{ℕ, Bool, ◌≡◌, ◌<◌, ◌+◌, length, Option, None, Some}
use Rattle.graph_model.specs.declared.properties.Value.{Value as GraphValue}
use Rattle.graph_model.specs.Compare.{value_of}
use Rattle.graph_model.specs.Presence.{alive_at}
use Rattle.graph_model.specs.Searches.{Searches}
use Rattle.graph_model.specs.World.{World, events_of}
use Rattle.graph_store.specs.Contents.{Contents}
use Rattle.graph_store.specs.Keys.{key_name}
use Rattle.view_trait.specs.Meaning.{edge_at, edge_named, node_at}
use Rattle.view_answers.specs.declared.point.PointAsk.{PointAsk}
use Rattle.view_answers.specs.declared.point.PointAsk.TheVariants.{NodeValue, EdgeValue, EdgeAlive}
use Rattle.view_answers.specs.declared.point.PointAnswer.{PointAnswer}
use Rattle.view_answers.specs.declared.point.PointAnswer.TheVariants.{NoRow, Value, Flag}

-- the store has the numbers of a question
abbrev pub IsKnownAsk : Contents → PointAsk → Type 0
IsKnownAsk c (NodeValue n key) = (n.0 < length c.nodes) × (key < length c.node_keys)
IsKnownAsk c (EdgeValue e key) = (e.0 < length c.edges) × (key < length c.edge_keys)
IsKnownAsk c (EdgeAlive e m) = e.0 < length c.edges

-- the answer is this value, or that there is none
abbrev pub IsValueAnswer : Option GraphValue → PointAnswer → Type 0
IsValueAnswer value NoRow = value ≡ None
IsValueAnswer value (Value v) = value ≡ Some v.now
IsValueAnswer value (Flag b) = ⊥

-- the answer is this flag
abbrev pub IsFlagAnswer : Bool → PointAnswer → Type 0
IsFlagAnswer flag NoRow = ⊥
IsFlagAnswer flag (Value v) = ⊥
IsFlagAnswer flag (Flag b) = b ≡ flag

-- the answer in a world over a store: the value, if there is one, or whether the edge is alive
abbrev pub IsPointAnswer : Contents → World → PointAsk → PointAnswer → Type 0
IsPointAnswer c w (NodeValue n key) answer = IsValueAnswer (value_of (key_name c.node_keys key) (events_of w (node_at c n.0))) answer
IsPointAnswer c w (EdgeValue e key) answer = IsValueAnswer (value_of (key_name c.edge_keys key) (events_of w (edge_at c e.0))) answer
IsPointAnswer c w (EdgeAlive e m) answer = IsFlagAnswer (alive_at w (edge_named c e.0) m) answer

-- the searches that a question costs
abbrev pub searches_of : Searches → PointAsk → ℕ
searches_of s (NodeValue n key) = s.nodes
searches_of s (EdgeValue e key) = s.edges
searches_of s (EdgeAlive e m) = s.edges + 1
