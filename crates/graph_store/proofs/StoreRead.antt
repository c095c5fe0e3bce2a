-- A store's contents are lawful and within the limits.
use Rattle.std.proofs.Common.{ℕ, ◌≤◌, List, length, map, sym, ◌∙◌, subst}
use Rattle.std.specs.Prelude.{IsTrue, int_le}
use Rattle.std.specs.List.{IsDistinct}
use Rattle.std.proofs.lemmas.List.{length-map}
use Rattle.graph_model.specs.declared.properties.ValueType.{ValueType}
use Rattle.graph_model.specs.declared.events.Event.{Event}
use Rattle.graph_model.specs.Interval.{is_inside}
use Rattle.graph_model.specs.Names.{same_name}
use Rattle.graph_model.specs.Rising.{Rises}
use Rattle.graph_model.specs.World.{IsLawful, allows, type_cmp}
use Rattle.graph_model.specs.Accepting.{Quantity, Events, Nodes, Layers, NodeKeys, EdgeKeys, Types, count_of, limit_of, node_events, edge_events, node_names, layer_names, type_names}
use Rattle.graph_model.specs.Limits.{most_events, most_nodes, most_layers, most_keys, most_types}
use Rattle.world_laws.proofs.Lawful.{all_pass}
use Rattle.world_laws.proofs.Base.{IsLawful-base}
use Rattle.time_history.specs.declared.updates.Update.{Update}
use Rattle.graph_store.specs.Contents.{Contents, AreContents, base_of}
use Rattle.graph_store.specs.Indexed.{IsIndexed}
use Rattle.graph_store.specs.Lawful.{AreJudged}
use Rattle.graph_store.proofs.LawfulLaws.{AreJudged-typed}
use Rattle.graph_store.proofs.JudgeLaws.{count_is, count_keys, names_of}

-- the base world of judged events is lawful
pub IsLawful-contents : (c : Contents) → AreJudged c.model c.bounds c.accepted → IsTrue (int_le c.bounds.lo c.bounds.hi) → Rises type_cmp c.types → IsLawful (base_of c)
IsLawful-contents c h ordered rise =
    IsLawful-base c.model c.bounds c.types c.accepted ordered
    (all_pass (λ (x : Event). is_inside c.bounds x.time) c.accepted h.inside)
    (all_pass (allows c.model) c.accepted h.allowed)
    h.rising (AreJudged-typed c.accepted h.typed) rise

-- how many there are of each sort
module _ (c : Contents) (node_updates edge_updates : List (List Update)) (h : AreContents c node_updates edge_updates) (indexed : IsIndexed c)
    (once_node_keys : IsDistinct same_name (map (λ (p : List ℕ × ValueType). p.0) c.node_keys)) (once_edge_keys : IsDistinct same_name (map (λ (p : List ℕ × ValueType). p.0) c.edge_keys)) where
  pub limits : length c.accepted ≤ most_events → length c.nodes ≤ most_nodes → length c.layers ≤ most_layers → length c.kinds ≤ most_types → length c.node_keys ≤ most_keys → length c.edge_keys ≤ most_keys → (k : Quantity) → count_of k c.accepted c.types ≤ limit_of k
  limits events nodes layers kinds node_keys edge_keys Events = events
  limits events nodes layers kinds node_keys edge_keys Nodes =
      subst (λ n. n ≤ most_nodes) (count_is c.nodes (node_names c.accepted c.types) indexed.node_names (λ n. h.known_nodes n ∙ names_of c.accepted c.types n)) nodes
  limits events nodes layers kinds node_keys edge_keys Layers = subst (λ n. n ≤ most_layers) (count_is c.layers (layer_names c.accepted) indexed.layer_names h.known_layers) layers
  limits events nodes layers kinds node_keys edge_keys NodeKeys =
      subst (λ n. n ≤ most_keys) (sym (length-map c.node_keys (λ (p : List ℕ × ValueType). p.0)) ∙ count_keys c.node_keys (node_events c.accepted) once_node_keys h.node_types) node_keys
  limits events nodes layers kinds node_keys edge_keys EdgeKeys =
      subst (λ n. n ≤ most_keys) (sym (length-map c.edge_keys (λ (p : List ℕ × ValueType). p.0)) ∙ count_keys c.edge_keys (edge_events c.accepted) once_edge_keys h.edge_types) edge_keys
  limits events nodes layers kinds node_keys edge_keys Types = subst (λ n. n ≤ most_types) (count_is c.kinds (type_names c.types) indexed.kind_names h.known_kinds) kinds
