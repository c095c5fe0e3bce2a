-- A store of no event and no type.
use Rattle.std.proofs.Common.{◌≡◌, ℕ, ◌≤◌, List, [], ◌++◌, length, refl, sym, ap, ◌∙◌, arith, subst}
use Rattle.graph_model.specs.Limits.{most_events, most_nodes, most_layers, most_types, most_keys}
use Rattle.graph_model.specs.declared.events.Model.{Model}
use Rattle.graph_model.specs.Interval.{Interval}
use Rattle.graph_model.specs.declared.properties.ValueType.{ValueType}
use Rattle.graph_store.specs.declared.pairs.Ends.{Ends}
use Rattle.graph_store.specs.declared.edges.EdgeParts.{EdgeParts}
use Rattle.graph_store.specs.Lawful.{AreJudged}
use Rattle.graph_store.specs.declared.store.Store.TheInside.{Inside}
use Rattle.graph_store.specs.Filed.{all_arrived, by_arrival}
use Rattle.graph_store.specs.Histories.{updates_in}
use Rattle.graph_store.specs.Keys.{key_name}
use Rattle.graph_store.specs.Telling.{TellEvents}
use Rattle.graph_store.specs.TypeIndex.{types_named, IsTypeIndex}
use Rattle.graph_store.specs.Contents.{Contents, AreContents, node_entities, edge_entities}
use Rattle.graph_store.specs.StoreInvariant.{contents, IsStored}

TellEvents-none : (names : ℕ → List ℕ) (n : ℕ) → TellEvents names n [] [] []
TellEvents-none names n = record {
  lengths = refl;
  told = λ i lt. absurd (omega arith);
  kept = λ i lt. absurd (omega arith);
  apart = λ i j lt. absurd (omega arith);
}

-- no event and no type
abbrev nothing : Model → Interval → List Ends → Contents
nothing model bounds pairs = record { model = model; bounds = bounds; accepted = []; types = []; nodes = []; layers = []; kinds = []; node_keys = []; edge_keys = []; edges = []; pairs = pairs }

AreContents-nothing : (model : Model) (bounds : Interval) (pairs : List Ends) → AreContents (nothing model bounds pairs) [] []
AreContents-nothing model bounds pairs = record {
  arrived = refl;
  nodes_told = TellEvents-none (key_name []) 0;
  edges_told = TellEvents-none (key_name []) 0;
  known_nodes = λ name. refl;
  known_layers = λ name. refl;
  known_kinds = λ name. refl;
  known_edges = λ edge. refl;
  node_types = λ key. refl;
  edge_types = λ key. refl;
  within = λ e lt. absurd (omega arith);
}

module _ (s : Inside) (events : s.events ≡ 0) (nodes : s.nodes.names ≡ []) (node_limit : s.nodes.limit ≡ most_nodes) (layers : s.layers.names ≡ []) (layer_limit : s.layers.limit ≡ most_layers) (kinds : s.kinds.names ≡ []) (kind_limit : s.kinds.limit ≡ most_types) (types : s.types.numbers ≡ [])
    (node_keys : s.node_keys ≡ []) (edge_keys : s.edge_keys ≡ []) (links : s.links.nodes ≡ 0) (edges : s.links.edges ≡ []) (node_histories : s.node_histories.items ≡ []) (edge_histories : s.edge_histories.items ≡ []) where
  contents-nothing : contents s ≡ nothing s.model s.bounds s.links.pairs
  contents-nothing = λ k. record {
    model = s.model;
    bounds = s.bounds;
    accepted = by_arrival (all_arrived (key_name (node_keys k)) (node_entities (nodes k)) (updates_in (node_histories k)) ++ all_arrived (key_name (edge_keys k)) (edge_entities (nodes k) (layers k) (edges k)) (updates_in (edge_histories k)));
    types = types_named (nodes k) (kinds k) (types k);
    nodes = nodes k;
    layers = layers k;
    kinds = kinds k;
    node_keys = node_keys k;
    edge_keys = edge_keys k;
    edges = edges k;
    pairs = s.links.pairs;
  }

  pub IsStored-nothing : IsStored s
  IsStored-nothing = record {
    contents_are =
        subst (λ us. AreContents (contents s) us (updates_in s.edge_histories.items)) (sym (ap updates_in node_histories))
        (subst (λ us. AreContents (contents s) [] us) (sym (ap updates_in edge_histories))
        (subst (λ (v : Contents). AreContents v [] []) (sym contents-nothing) (AreContents-nothing s.model s.bounds s.links.pairs)));
    judged = subst (AreJudged s.model s.bounds) (sym (ap (λ (v : Contents). v.accepted) contents-nothing)) (record { inside = tt; allowed = tt; rising = tt; typed = tt });
    linked = links ∙ sym (ap length nodes);
    events = ap (λ (v : Contents). length v.accepted) contents-nothing ∙ sym events;
    few_events = subst (λ n. n ≤ most_events) (sym events) (omega arith);
    node_limit = node_limit;
    layer_limit = layer_limit;
    kind_limit = kind_limit;
    few_edges = subst (λ (es : List EdgeParts). length es ≤ s.events) (sym edges) (omega arith);
    few_layers = subst (λ (ns : List (List ℕ)). length ns ≤ most_layers) (sym layers) (omega arith);
    few_node_keys = subst (λ (ks : List (List ℕ × ValueType)). length ks ≤ most_keys) (sym node_keys) (omega arith);
    few_edge_keys = subst (λ (ks : List (List ℕ × ValueType)). length ks ≤ most_keys) (sym edge_keys) (omega arith);
    typed_within = subst (IsTypeIndex s.nodes.names s.kinds.names) (sym types) tt;
  }
