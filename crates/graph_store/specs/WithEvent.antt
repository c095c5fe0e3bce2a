-- What a store contains with an event more.
use Rattle.std.specs.Prelude.{ℕ, ℤ, List, [], ◌∷◌, ◌++◌, ◌<◌, ◌≤◌, length}
use Rattle.std.specs.List.{position_or_len}
use Rattle.indexmap.specs.IndexSet.{insert_key}
use Rattle.graph_model.specs.declared.properties.Value.{Value}
use Rattle.graph_model.specs.declared.events.Event.{Event}
use Rattle.graph_model.specs.declared.events.EdgeName.{EdgeName}
use Rattle.graph_model.specs.declared.events.Entity.TheVariants.{Edge}
use Rattle.graph_model.specs.declared.events.What.{What}
use Rattle.graph_model.specs.declared.events.What.TheVariants.{Node, Add, Delete}
use Rattle.graph_model.specs.Limits.{most_events, most_nodes, most_layers, most_keys}
use Rattle.graph_model.specs.Names.{same_name}
use Rattle.time_history.specs.declared.updates.Kind.{Kind}
use Rattle.time_history.specs.Telling.{what_told}
use Rattle.graph_store.specs.declared.edges.EdgeParts.{EdgeParts}
use Rattle.graph_store.specs.Ends.{same_ends}
use Rattle.graph_store.specs.EdgeParts.{same_parts, ends_of}
use Rattle.graph_store.specs.Keys.{with_keys}
use Rattle.graph_store.specs.WithUpdate.{with_ends}
use Rattle.graph_store.specs.Contents.{Contents}

-- an update of a node
abbrev pub node_event : ℤ → ℕ → List ℕ → List (List ℕ × Value) → Event
node_event time order name props = record { time = time; order = order; what = Node name props }

-- the contents with an update of a node: a new node and new keys get the next numbers, the keys in the order of the properties
abbrev pub with_node_event : Contents → ℤ → ℕ → List ℕ → List (List ℕ × Value) → Contents
with_node_event c time order name props = record c {
  accepted = c.accepted ++ node_event time order name props ∷ [];
  nodes = insert_key same_name c.nodes name;
  node_keys = with_keys c.node_keys props;
}

-- an event of an edge, which is of this kind
abbrev pub edge_event : ℤ → ℕ → Kind → EdgeName → List (List ℕ × Value) → Event
edge_event time order kind edge props = record { time = time; order = order; what = what_told (Edge edge) kind props }

-- an edge by the numbers of its parts among names that have them
abbrev pub parts_in : List (List ℕ) → List (List ℕ) → EdgeName → EdgeParts
parts_in nodes layers edge = record { src = position_or_len (same_name edge.src) nodes; dst = position_or_len (same_name edge.dst) nodes; layer = position_or_len (same_name edge.layer) layers }

-- the contents with an event of an edge: what is new of its source, its destination, its layer, its keys, the edge and its pair gets the next number of its sort
abbrev pub with_edge_event : Contents → Event → EdgeName → List (List ℕ × Value) → Contents
with_edge_event c x edge props =
    let nodes : List (List ℕ) = with_ends c.nodes edge in
    let layers : List (List ℕ) = insert_key same_name c.layers edge.layer in
    record c {
      accepted = c.accepted ++ x ∷ [];
      nodes = nodes;
      layers = layers;
      edge_keys = with_keys c.edge_keys props;
      edges = insert_key same_parts c.edges (parts_in nodes layers edge);
      pairs = insert_key same_ends c.pairs (ends_of (parts_in nodes layers edge));
    }

abbrev pub with_what : Contents → Event → What → Contents
with_what c x (Node name props) = with_node_event c x.time x.order name props
with_what c x (Add edge props) = with_edge_event c x edge props
with_what c x (Delete edge) = with_edge_event c x edge []

-- the contents with an event
abbrev pub with_event : Contents → Event → Contents
with_event c x = with_what c x x.what

-- there is room within the limits for an event, after which the contents are these
pub record HasRoom (before after : Contents) : Type 0 where
  pub events : length before.accepted < most_events
  pub nodes : length after.nodes ≤ most_nodes
  pub layers : length after.layers ≤ most_layers
  pub node_keys : length after.node_keys ≤ most_keys
  pub edge_keys : length after.edge_keys ≤ most_keys
