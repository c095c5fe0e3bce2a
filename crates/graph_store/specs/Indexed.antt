-- What the numbers of a store have to do with one another and with the accepted events.
use Rattle.std.specs.Prelude.{ℕ, List, ◌||◌, is_some, ◌≡◌, ◌<◌, length}
use Rattle.std.specs.List.{IsDistinct, list_any}
use Rattle.graph_model.specs.declared.events.EdgeName.{EdgeName}
use Rattle.graph_model.specs.declared.events.Entity.TheVariants.{Edge}
use Rattle.graph_model.specs.Names.{same_name}
use Rattle.graph_model.specs.Entity.{same_entity, is_about}
use Rattle.graph_model.specs.World.{names_node, type_of}
use Rattle.graph_model.specs.Accepting.{layer_names as layers_named, type_names}
use Rattle.graph_store.specs.declared.pairs.Ends.{Ends}
use Rattle.graph_store.specs.declared.edges.EdgeParts.{EdgeParts}
use Rattle.graph_store.specs.Ends.{same_ends, ends_at}
use Rattle.graph_store.specs.EdgeParts.{same_parts, ends_of, parts_at}
use Rattle.graph_store.specs.Contents.{Contents, edge_entities}

-- each number names one thing, which the accepted events or the types of nodes name: distinct nodes, layers, names of types, edges and pairs
pub record IsIndexed (c : Contents) : Type 0 where
  pub node_names : IsDistinct same_name c.nodes
  pub layer_names : IsDistinct same_name c.layers
  pub kind_names : IsDistinct same_name c.kinds
  pub edges : IsDistinct same_parts c.edges
  pub pairs : IsDistinct same_ends c.pairs
  -- the pairs are the ends of the edges
  pub known_pairs : (ends : Ends) → list_any (same_ends ends) c.pairs ≡ list_any (λ (e : EdgeParts). same_ends ends (ends_of e)) c.edges
  -- numbers name what the accepted events and the types name, and nothing else
  pub known_nodes : (name : List ℕ) → list_any (same_name name) c.nodes ≡ (names_node c.accepted name || is_some (type_of c.types name))
  pub known_layers : (name : List ℕ) → list_any (same_name name) c.layers ≡ list_any (same_name name) (layers_named c.accepted)
  pub known_kinds : (name : List ℕ) → list_any (same_name name) c.kinds ≡ list_any (same_name name) (type_names c.types)
  pub known_edges : (edge : EdgeName) → list_any (same_entity (Edge edge)) (edge_entities c.nodes c.layers c.edges) ≡ list_any (is_about (Edge edge)) c.accepted
  -- the parts of edges and the ends of pairs have numbers
  pub within : (e : ℕ) → e < length c.edges → ((parts_at c.edges e).src < length c.nodes) × ((parts_at c.edges e).dst < length c.nodes) × ((parts_at c.edges e).layer < length c.layers)
  pub pairs_within : (p : ℕ) → p < length c.pairs → ((ends_at c.pairs p).src < length c.nodes) × ((ends_at c.pairs p).dst < length c.nodes)
