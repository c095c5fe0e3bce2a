-- Why a store refuses an event.
use Rattle.std.specs.Prelude.{ℕ, List, [], ◌∷◌, ◌++◌, Bool, nat_lt, ◌≡◌, Some, None, slice_get}
use Rattle.graph_model.specs.declared.properties.Value.{Value}
use Rattle.graph_model.specs.declared.properties.ValueType.{ValueType}
use Rattle.graph_model.specs.declared.events.Event.{Event}
use Rattle.graph_model.specs.declared.events.Model.{Model}
use Rattle.graph_model.specs.ValueKind.{value_type}
use Rattle.graph_model.specs.Refusal.{Deletion as ADeletion, KeyType as AKeyType, Retype as ARetype, Limit as ALimit}
use Rattle.graph_model.specs.World.{type_of}
use Rattle.graph_model.specs.Accepting.{Quantity, Events as OfEvents, Nodes as OfNodes, Layers as OfLayers, NodeKeys as OfNodeKeys, EdgeKeys as OfEdgeKeys, Types as OfTypes, alike, kept_type, mistyped, limit_of, passed_limit, event_refusal, type_refusal}
use Rattle.graph_store.specs.declared.judging.Count.{Count}
use Rattle.graph_store.specs.declared.judging.Count.TheVariants.{Events, Nodes, Layers, NodeKeys, EdgeKeys, Types}
use Rattle.graph_store.specs.declared.judging.StoreRefusal.{StoreRefusal}
use Rattle.graph_store.specs.declared.judging.StoreRefusal.TheVariants.{Deletion, KeyType, Retype, Limit, Memory}
use Rattle.graph_store.specs.declared.judging.Totals.{Totals}
use Rattle.graph_store.specs.Contents.{Contents}

-- what is counted
abbrev pub quantity_of : Count → Quantity
quantity_of Events = OfEvents
quantity_of Nodes = OfNodes
quantity_of Layers = OfLayers
quantity_of NodeKeys = OfNodeKeys
quantity_of EdgeKeys = OfEdgeKeys
quantity_of Types = OfTypes

-- how many there are of it
abbrev pub total_of : Totals → Quantity → ℕ
total_of t OfEvents = t.events
total_of t OfNodes = t.nodes
total_of t OfLayers = t.layers
total_of t OfNodeKeys = t.node_keys
total_of t OfEdgeKeys = t.edge_keys
total_of t OfTypes = t.types

-- whether there are too many of it
abbrev pub is_above : Totals → Quantity → Bool
is_above t k = nat_lt (limit_of k) (total_of t k)

-- the type that is kept for the first key, by its bytes, whose value has another type, and the type of this value
abbrev pub IsMistyped : List Event → Event → ValueType × ValueType → Type 0
IsMistyped accepted x types = (p : List ℕ × Value) × (mistyped accepted x ≡ Some p) × (kept_type (alike x accepted) p.0 ≡ Some types.0) × (value_type p.1 ≡ types.1)

-- why an event is refused after accepted events and types of nodes, with the types of the key or the first limit that is passed; an event that is not refused may meet want of memory
abbrev pub IsRefusal : Model → List Event → List (List ℕ × List ℕ) → Event → StoreRefusal → Type 0
IsRefusal model accepted types x Deletion = event_refusal model accepted types x ≡ Some ADeletion
IsRefusal model accepted types x (KeyType kept given) = (event_refusal model accepted types x ≡ Some AKeyType) × IsMistyped accepted x (kept, given)
IsRefusal model accepted types x (Retype kept) = ⊥
IsRefusal model accepted types x (Limit count) = (event_refusal model accepted types x ≡ Some ALimit) × (passed_limit (accepted ++ x ∷ []) types ≡ Some (quantity_of count))
IsRefusal model accepted types x Memory = event_refusal model accepted types x ≡ None

-- why the type of a node is refused, with the number of the type that the node has or the first limit that is passed; a type that is not refused may meet want of memory
abbrev pub IsTypeRefusal : Contents → List ℕ → List ℕ → StoreRefusal → Type 0
IsTypeRefusal c node kind Deletion = ⊥
IsTypeRefusal c node kind (KeyType kept given) = ⊥
IsTypeRefusal c node kind (Retype kept) = (type_refusal c.accepted c.types node kind ≡ Some ARetype) × (slice_get c.kinds kept ≡ type_of c.types node)
IsTypeRefusal c node kind (Limit count) = (type_refusal c.accepted c.types node kind ≡ Some ALimit) × (passed_limit c.accepted (c.types ++ (node, kind) ∷ []) ≡ Some (quantity_of count))
IsTypeRefusal c node kind Memory = type_refusal c.accepted c.types node kind ≡ None
