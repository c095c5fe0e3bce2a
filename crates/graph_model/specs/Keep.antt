-- Views that keep or drop an entity with all its events.
use Rattle.std.specs.Prelude.{ℕ, List, Bool, true, false, not, ◌&&◌}
use Rattle.std.specs.Option.{option_map_or}
use Rattle.std.specs.List.{filter, list_any}
use Rattle.graph_model.specs.declared.properties.Value.{Value}
use Rattle.graph_model.specs.declared.events.Entity.{Entity}
use Rattle.graph_model.specs.declared.events.Entity.TheVariants.{Node, Edge}
use Rattle.graph_model.specs.declared.queries.Cmp.{Cmp}
use Rattle.graph_model.specs.Names.{same_name}
use Rattle.graph_model.specs.Entity.{entity_of}
use Rattle.graph_model.specs.Compare.{value_of, holds}
use Rattle.graph_model.specs.Presence.{ends_in_addition}
use Rattle.graph_model.specs.World.{World, events_of, remake, type_of}

-- the world of the entities that pass a test
abbrev pub keep : (Entity → Bool) → World → World
keep p w = remake w w.bounds (filter (λ x. p (entity_of x)) w.events)

-- whether a name is in a list of names
abbrev pub is_named : List (List ℕ) → List ℕ → Bool
is_named names name = list_any (same_name name) names

-- edges in these layers, and all nodes
abbrev pub in_layers : List (List ℕ) → Entity → Bool
in_layers names (Node name) = true
in_layers names (Edge edge) = is_named names edge.layer

-- edges in other layers, and all nodes
abbrev pub outside_layers : List (List ℕ) → Entity → Bool
outside_layers names (Node name) = true
outside_layers names (Edge edge) = not (is_named names edge.layer)

-- these nodes, and the edges between them
abbrev pub among_nodes : List (List ℕ) → Entity → Bool
among_nodes names (Node name) = is_named names name
among_nodes names (Edge edge) = is_named names edge.src && is_named names edge.dst

-- the other nodes, and the edges between them
abbrev pub apart_from_nodes : List (List ℕ) → Entity → Bool
apart_from_nodes names (Node name) = not (is_named names name)
apart_from_nodes names (Edge edge) = not (is_named names edge.src) && not (is_named names edge.dst)

-- whether a node has one of these types
abbrev pub has_type : List (List ℕ × List ℕ) → List (List ℕ) → List ℕ → Bool
has_type types names node = option_map_or (is_named names) (type_of types node) false

-- nodes that have one of these types, and the edges between them
abbrev pub among_types : List (List ℕ × List ℕ) → List (List ℕ) → Entity → Bool
among_types types names (Node name) = has_type types names name
among_types types names (Edge edge) = has_type types names edge.src && has_type types names edge.dst

-- whether the value of a key for an entity of a world compares true
abbrev pub entity_holds : World → List ℕ → Cmp → Value → Entity → Bool
entity_holds w key c v e = holds (value_of key (events_of w e)) c v

-- edges whose value compares true, and all nodes
abbrev pub edge_holds : World → List ℕ → Cmp → Value → Entity → Bool
edge_holds w key c v (Node name) = true
edge_holds w key c v (Edge edge) = entity_holds w key c v (Edge edge)

-- nodes whose value compares true, and the edges between them
abbrev pub node_holds : World → List ℕ → Cmp → Value → Entity → Bool
node_holds w key c v (Node name) = entity_holds w key c v (Node name)
node_holds w key c v (Edge edge) = entity_holds w key c v (Node edge.src) && entity_holds w key c v (Node edge.dst)

-- edges whose last event is an addition, and all nodes
abbrev pub is_valid : World → Entity → Bool
is_valid w (Node name) = true
is_valid w (Edge edge) = ends_in_addition (events_of w (Edge edge))
