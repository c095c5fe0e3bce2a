-- Views that keep what has a value that compares true.
use Rattle.std.specs.Prelude.{ℕ, List, Bool, true, false, ◌&&◌, nat_lt, length, Option, Some, None}
use Rattle.graph_model.specs.declared.properties.Value.{Value}
use Rattle.graph_model.specs.declared.properties.ValueType.{ValueType}
use Rattle.graph_model.specs.declared.queries.Cmp.{Cmp}
use Rattle.graph_model.specs.declared.events.Event.{Event}
use Rattle.graph_model.specs.declared.events.Entity.{Entity}
use Rattle.graph_model.specs.declared.events.Entity.TheVariants.{Node, Edge}
use Rattle.graph_model.specs.Compare.{value_of, holds}
use Rattle.graph_model.specs.World.{World, events_of}
use Rattle.graph_model.specs.Keep.{keep}
use Rattle.graph_store.specs.Keys.{key_name}
use Rattle.graph_store.specs.Contents.{Contents}

-- whether the value of a key, by its number, compares true in the events of an entity; a number
-- that names no key compares false
abbrev pub key_holds : List (List ℕ × ValueType) → Option ℕ → Cmp → Value → List Event → Bool
key_holds keys None c v xs = false
key_holds keys (Some key) c v xs =
    nat_lt key (length keys) && holds (value_of (key_name keys key) xs) c v

-- whether a node's value compares true
abbrev pub node_compares : Contents → World → Option ℕ → Cmp → Value → List ℕ → Bool
node_compares s w key c v name = key_holds s.node_keys key c v (events_of w (Node name))

-- edges whose value compares true, and all nodes
abbrev pub edge_passes : Contents → World → Option ℕ → Cmp → Value → Entity → Bool
edge_passes s w key c v (Node name) = true
edge_passes s w key c v (Edge edge) = key_holds s.edge_keys key c v (events_of w (Edge edge))

-- nodes whose value compares true, and the edges between them
abbrev pub node_passes : Contents → World → Option ℕ → Cmp → Value → Entity → Bool
node_passes s w key c v (Node name) = node_compares s w key c v name
node_passes s w key c v (Edge edge) =
    node_compares s w key c v edge.src && node_compares s w key c v edge.dst

-- what the filters show of a world
abbrev pub edge_filtered : Contents → World → Option ℕ → Cmp → Value → World
edge_filtered s w key c v = keep (edge_passes s w key c v) w

abbrev pub node_filtered : Contents → World → Option ℕ → Cmp → Value → World
node_filtered s w key c v = keep (node_passes s w key c v) w
