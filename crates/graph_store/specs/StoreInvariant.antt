-- The fields of a store, and what they contain.
use Rattle.std.specs.Prelude.{◌≡◌, ◌≤◌, ◌++◌, length}
use Rattle.graph_model.specs.Limits.{most_events, most_nodes, most_layers, most_types, most_keys}
use Rattle.graph_store.specs.declared.store.Store.TheInside.{Inside}
use Rattle.graph_store.specs.Keys.{key_name}
use Rattle.graph_store.specs.Filed.{all_arrived, by_arrival}
use Rattle.graph_store.specs.Histories.{updates_in}
use Rattle.graph_store.specs.Lawful.{AreJudged}
use Rattle.graph_store.specs.TypeIndex.{types_named, IsTypeIndex}
use Rattle.graph_store.specs.Contents.{Contents, AreContents, node_entities, edge_entities}

abbrev pub contents : Inside → Contents
contents s = record {
  model = s.model;
  bounds = s.bounds;
  accepted = by_arrival (all_arrived (key_name s.node_keys) (node_entities s.nodes.names) (updates_in s.node_histories.items) ++ all_arrived (key_name s.edge_keys) (edge_entities s.nodes.names s.layers.names s.links.edges) (updates_in s.edge_histories.items));
  types = types_named s.nodes.names s.kinds.names s.types.numbers;
  nodes = s.nodes.names;
  layers = s.layers.names;
  kinds = s.kinds.names;
  node_keys = s.node_keys;
  edge_keys = s.edge_keys;
  edges = s.links.edges;
  pairs = s.links.pairs;
}

-- what is true of the fields
pub record IsStored (s : Inside) : Type 0 where
  pub contents_are : AreContents (contents s) (updates_in s.node_histories.items) (updates_in s.edge_histories.items)
  pub judged : AreJudged s.model s.bounds (contents s).accepted
  pub linked : s.links.nodes ≡ length s.nodes.names
  pub events : length (contents s).accepted ≡ s.events
  pub few_events : s.events ≤ most_events
  pub node_limit : s.nodes.limit ≡ most_nodes
  pub layer_limit : s.layers.limit ≡ most_layers
  pub few_edges : length s.links.edges ≤ s.events
  pub kind_limit : s.kinds.limit ≡ most_types
  pub few_layers : length s.layers.names ≤ most_layers
  pub few_node_keys : length s.node_keys ≤ most_keys
  pub few_edge_keys : length s.edge_keys ≤ most_keys
  -- what has a type, and the type, have numbers
  pub typed_within : IsTypeIndex s.nodes.names s.kinds.names s.types.numbers
