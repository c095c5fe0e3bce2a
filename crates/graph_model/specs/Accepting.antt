-- Whether an event or a type of a node is accepted after what was accepted before: the types that are kept for keys, and the limits.
use Rattle.std.specs.Prelude.{ℕ, Bool, false, not, nat_lt, List, [], ◌∷◌, ◌++◌, length, map, Option, Some, None, option_map, is_some, if◌then◌else◌}
use Rattle.std.specs.Option.{option_map_or}
use Rattle.std.specs.List.{filter, find, flat_map}
use Rattle.graph_model.specs.declared.properties.Value.{Value}
use Rattle.graph_model.specs.declared.properties.ValueType.{ValueType}
use Rattle.graph_model.specs.declared.events.Entity.{Entity}
use Rattle.graph_model.specs.declared.events.Entity.TheVariants.{Node, Edge}
use Rattle.graph_model.specs.declared.events.Event.{Event}
use Rattle.graph_model.specs.declared.events.Model.{Model}
use Rattle.graph_model.specs.Entity.{entity_of, is_node, names_in, props_of}
use Rattle.graph_model.specs.Names.{name_cmp, same_name}
use Rattle.graph_model.specs.Props.{prop_value}
use Rattle.graph_model.specs.Refusal.{RecordRefusal, Deletion, KeyType, Retype, Limit}
use Rattle.graph_model.specs.Rising.{rising}
use Rattle.graph_model.specs.ValueKind.{same_value_type, value_type}
use Rattle.graph_model.specs.World.{allows, type_of}
use Rattle.graph_model.specs.Limits.{most_events, most_nodes, most_layers, most_keys, most_types}

-- the events of nodes, and those of edges
abbrev pub node_events : List Event → List Event
node_events xs = filter (λ x. is_node (entity_of x)) xs

abbrev pub edge_events : List Event → List Event
edge_events xs = filter (λ x. not (is_node (entity_of x))) xs

-- the events that share their keys with one: those of nodes, or those of edges
abbrev pub alike : Event → List Event → List Event
alike x xs = if is_node (entity_of x) then node_events xs else edge_events xs

-- the properties that events set, those of one event behind those of another
abbrev pub properties_of : List Event → List (List ℕ × Value)
properties_of xs = flat_map props_of xs

-- the type that events keep for a key: that of the first value that they give it
abbrev pub kept_type : List Event → List ℕ → Option ValueType
kept_type xs key = option_map value_type (prop_value key (properties_of xs))

-- whether a value has another type than the one that events keep for its key
abbrev pub is_of_other_type : List Event → List ℕ × Value → Bool
is_of_other_type xs p = option_map_or (λ kept. not (same_value_type kept (value_type p.1))) (kept_type xs p.0) false

-- the first property of an event, by the bytes of its key, whose value has another type than the one that is kept
abbrev pub mistyped : List Event → Event → Option (List ℕ × Value)
mistyped accepted x = find (is_of_other_type (alike x accepted)) (props_of x)

-- the layers that an entity names
abbrev pub layers_in : Entity → List (List ℕ)
layers_in (Node name) = []
layers_in (Edge edge) = edge.layer ∷ []

-- the nodes that events and types name, the layers that events name, the keys that they give values, and the names of types
abbrev pub node_names : List Event → List (List ℕ × List ℕ) → List (List ℕ)
node_names xs types = flat_map (λ x. names_in (entity_of x)) xs ++ map (λ (t : List ℕ × List ℕ). t.0) types

abbrev pub layer_names : List Event → List (List ℕ)
layer_names xs = flat_map (λ x. layers_in (entity_of x)) xs

abbrev pub key_names : List Event → List (List ℕ)
key_names xs = map (λ (p : List ℕ × Value). p.0) (properties_of xs)

abbrev pub type_names : List (List ℕ × List ℕ) → List (List ℕ)
type_names types = map (λ (t : List ℕ × List ℕ). t.1) types

-- how many distinct names there are
abbrev pub distinct : List (List ℕ) → ℕ
distinct names = length (rising name_cmp names)

-- what is counted
pub data Quantity : Type 0 where
  Events : Quantity
  Nodes : Quantity
  Layers : Quantity
  NodeKeys : Quantity
  EdgeKeys : Quantity
  Types : Quantity

-- how many of it there are among events and types of nodes
abbrev pub count_of : Quantity → List Event → List (List ℕ × List ℕ) → ℕ
count_of Events xs types = length xs
count_of Nodes xs types = distinct (node_names xs types)
count_of Layers xs types = distinct (layer_names xs)
count_of NodeKeys xs types = distinct (key_names (node_events xs))
count_of EdgeKeys xs types = distinct (key_names (edge_events xs))
count_of Types xs types = distinct (type_names types)

-- how many of it there may be
abbrev pub limit_of : Quantity → ℕ
limit_of Events = most_events
limit_of Nodes = most_nodes
limit_of Layers = most_layers
limit_of NodeKeys = most_keys
limit_of EdgeKeys = most_keys
limit_of Types = most_types

-- whether there are too many of it
abbrev pub is_over : List Event → List (List ℕ × List ℕ) → Quantity → Bool
is_over xs types counted = nat_lt (limit_of counted) (count_of counted xs types)

-- what is counted, in the order in which the limits are looked at
abbrev pub all_quantities : List Quantity
all_quantities = Events ∷ Nodes ∷ Layers ∷ NodeKeys ∷ EdgeKeys ∷ Types ∷ []

-- the first limit that is passed
abbrev pub passed_limit : List Event → List (List ℕ × List ℕ) → Option Quantity
passed_limit xs types = find (is_over xs types) all_quantities

-- why an event is refused after accepted events and types, where it is
abbrev pub event_refusal : Model → List Event → List (List ℕ × List ℕ) → Event → Option RecordRefusal
event_refusal model accepted types x = if not (allows model x) then Some Deletion
    else (if is_some (mistyped accepted x) then Some KeyType
    else (if is_some (passed_limit (accepted ++ x ∷ []) types) then Some Limit else None))

-- whether a node has a type of another name
abbrev pub is_other_type : List (List ℕ × List ℕ) → List ℕ → List ℕ → Bool
is_other_type types node name = option_map_or (λ kept. not (same_name kept name)) (type_of types node) false

-- why the type of a node is refused, where it is
abbrev pub type_refusal : List Event → List (List ℕ × List ℕ) → List ℕ → List ℕ → Option RecordRefusal
type_refusal accepted types node name = if is_other_type types node name then Some Retype
    else (if is_some (passed_limit accepted (types ++ (node, name) ∷ [])) then Some Limit else None)
