-- What a store contains.
use Rattle.std.specs.Prelude.{ℕ, List, [], ◌++◌, ◌≡◌, ◌<◌, ◌||◌, is_some, map, length, slice_index_or}
use Rattle.std.specs.List.{list_any}
use Rattle.graph_model.specs.declared.properties.ValueType.{ValueType}
use Rattle.graph_model.specs.declared.events.EdgeName.{EdgeName}
use Rattle.graph_model.specs.declared.events.Entity.{Entity}
use Rattle.graph_model.specs.declared.events.Entity.TheVariants.{Node, Edge}
use Rattle.graph_model.specs.declared.events.Event.{Event}
use Rattle.graph_model.specs.declared.events.Model.{Model}
use Rattle.graph_model.specs.Interval.{Interval}
use Rattle.graph_model.specs.Names.{same_name}
use Rattle.graph_model.specs.Entity.{is_about, same_entity}
use Rattle.graph_model.specs.World.{World, names_node, type_of, base}
use Rattle.graph_model.specs.Accepting.{kept_type, node_events, edge_events, layer_names, type_names}
use Rattle.time_history.specs.declared.updates.Update.{Update}
use Rattle.graph_store.specs.declared.pairs.Ends.{Ends}
use Rattle.graph_store.specs.declared.edges.EdgeParts.{EdgeParts}
use Rattle.graph_store.specs.EdgeParts.{parts_at}
use Rattle.graph_store.specs.Keys.{type_in, key_name}
use Rattle.graph_store.specs.Filed.{all_arrived, by_arrival}
use Rattle.graph_store.specs.Telling.{TellEvents}

-- the model, the bounds, the accepted events in the order of their arrival, the types of nodes, rising by node, and what numbers name: nodes, layers, names of types, keys with the types that they keep, edges and pairs
pub record Contents : Type 0 where
  pub model : Model
  pub bounds : Interval
  pub accepted : List Event
  pub types : List (List ℕ × List ℕ)
  pub nodes : List (List ℕ)
  pub layers : List (List ℕ)
  pub kinds : List (List ℕ)
  pub node_keys : List (List ℕ × ValueType)
  pub edge_keys : List (List ℕ × ValueType)
  pub edges : List EdgeParts
  pub pairs : List Ends

-- the name of a number
abbrev pub name_at : List (List ℕ) → ℕ → List ℕ
name_at names n = slice_index_or names n []

-- an edge by the names of its parts
abbrev pub edge_name : List (List ℕ) → List (List ℕ) → EdgeParts → EdgeName
edge_name nodes layers p = record { src = name_at nodes p.src; dst = name_at nodes p.dst; layer = name_at layers p.layer }

-- the entities that numbers name
abbrev pub node_entities : List (List ℕ) → List Entity
node_entities nodes = map Node nodes

abbrev pub edge_entities : List (List ℕ) → List (List ℕ) → List EdgeParts → List Entity
edge_entities nodes layers edges = map (λ (p : EdgeParts). Edge (edge_name nodes layers p)) edges

-- what is true of the contents, and of the histories of nodes and edges
pub record AreContents (c : Contents) (node_updates edge_updates : List (List Update)) : Type 0 where
  -- the histories tell the accepted events
  pub arrived : by_arrival (all_arrived (key_name c.node_keys) (node_entities c.nodes) node_updates ++ all_arrived (key_name c.edge_keys) (edge_entities c.nodes c.layers c.edges) edge_updates) ≡ c.accepted
  pub nodes_told : TellEvents (key_name c.node_keys) (length c.node_keys) (node_entities c.nodes) node_updates c.accepted
  pub edges_told : TellEvents (key_name c.edge_keys) (length c.edge_keys) (edge_entities c.nodes c.layers c.edges) edge_updates c.accepted
  -- numbers name what the accepted events and the types name, and nothing else
  pub known_nodes : (name : List ℕ) → list_any (same_name name) c.nodes ≡ (names_node c.accepted name || is_some (type_of c.types name))
  pub known_layers : (name : List ℕ) → list_any (same_name name) c.layers ≡ list_any (same_name name) (layer_names c.accepted)
  pub known_kinds : (name : List ℕ) → list_any (same_name name) c.kinds ≡ list_any (same_name name) (type_names c.types)
  pub known_edges : (edge : EdgeName) → list_any (same_entity (Edge edge)) (edge_entities c.nodes c.layers c.edges) ≡ list_any (is_about (Edge edge)) c.accepted
  -- keys keep the types of their first values
  pub node_types : (key : List ℕ) → type_in c.node_keys key ≡ kept_type (node_events c.accepted) key
  pub edge_types : (key : List ℕ) → type_in c.edge_keys key ≡ kept_type (edge_events c.accepted) key
  -- the parts of edges have numbers
  pub within : (e : ℕ) → e < length c.edges → ((parts_at c.edges e).src < length c.nodes) × ((parts_at c.edges e).dst < length c.nodes) × ((parts_at c.edges e).layer < length c.layers)

-- the base world of the accepted events and types
abbrev pub base_of : Contents → World
base_of c = base c.model c.bounds c.types c.accepted

-- the key names of nodes and of edges, by number
abbrev pub key_names_for : Contents → Entity → ℕ → List ℕ
key_names_for c (Node name) = key_name c.node_keys
key_names_for c (Edge edge) = key_name c.edge_keys
