-- A store that takes the type of a node.
use Rattle.std.proofs.Common.{◌≡◌, ℕ, ◌<◌, ◌≤◌, List, [], ◌∷◌, ◌++◌, Some, None, length, sym, ap, ◌∙◌, arith, subst}
use Rattle.std.specs.Prelude.{position}
use Rattle.std.specs.Global.{Vec}
use Rattle.std.proofs.lemmas.List.Sums.{fold_push}
use Rattle.std.proofs.lemmas.List.Quantifiers.{position-Some}
use Rattle.indexmap.specs.IndexSet.{insert_key}
use Rattle.graph_model.specs.Names.{same_name}
use Rattle.graph_model.specs.World.{type_of, put_type}
use Rattle.world_laws.proofs.Order.{same_name-exact}
use Rattle.world_laws.proofs.Filters.{each_append}
use Rattle.name_intern.specs.NameIndex.{NameIndex}
use Rattle.time_history.specs.History.{UpdateList}
use Rattle.graph_store.specs.declared.store.Store.TheInside.{Inside}
use Rattle.graph_store.specs.StoreInvariant.{contents, IsStored}
use Rattle.graph_store.specs.Lawful.{AreJudged}
use Rattle.graph_store.specs.Keys.{key_name}
use Rattle.graph_store.specs.EdgeIndex.{EdgeIndex}
use Rattle.graph_store.specs.Filed.{all_arrived, by_arrival}
use Rattle.graph_store.specs.Histories.{updates_in}
use Rattle.graph_store.specs.WithUpdate.{with_history}
use Rattle.graph_store.specs.TypeIndex.{TypeIndex, types_named, IsTypeIndex}
use Rattle.graph_store.specs.Contents.{Contents, AreContents, name_at, node_entities, edge_entities}
use Rattle.graph_store.specs.WithType.{with_type}
use Rattle.graph_store.proofs.AcceptNode.{name_at-insert}
use Rattle.graph_store.proofs.AcceptEdge.{length-insert_key}
use Rattle.graph_store.proofs.AcceptType.{AreContents-typed}
use Rattle.graph_store.proofs.TypeLaws.{types_named-same, IsTypeIndex-more, Rises-types_named}

-- the fields of a store that took the type
module _ (s : Inside) (h : IsStored s) (node kind : List ℕ) (nodes kinds : NameIndex) (types : TypeIndex) (links : EdgeIndex) (histories : Vec UpdateList) where
  abbrev pub type_taken : Inside
  type_taken = record s { nodes = nodes; kinds = kinds; types = types; links = links; node_histories = histories }

  module _ (n k : ℕ) (names : nodes.names ≡ insert_key same_name s.nodes.names node) (limit : nodes.limit ≡ s.nodes.limit) (kind_names : kinds.names ≡ insert_key same_name s.kinds.names kind) (kind_limit : kinds.limit ≡ s.kinds.limit)
      (node_number : position (same_name node) nodes.names ≡ Some n) (kind_number : position (same_name kind) kinds.names ≡ Some k) (numbered : types.numbers ≡ s.types.numbers ++ (n, k) ∷ [])
      (linked : links.nodes ≡ length nodes.names) (edges : links.edges ≡ s.links.edges) (pairs : links.pairs ≡ s.links.pairs)
      (filed : updates_in histories.items ≡ with_history s.nodes.names node (updates_in s.node_histories.items)) (absent : type_of (contents s).types node ≡ None) where
    after : AreContents (with_type (contents s) node kind) (updates_in histories.items) (updates_in s.edge_histories.items)
    after =
        subst (λ us. AreContents (with_type (contents s) node kind) us (updates_in s.edge_histories.items)) (sym filed)
        (AreContents-typed (contents s) (updates_in s.node_histories.items) (updates_in s.edge_histories.items) h.contents_are (Rises-types_named s.nodes.names s.kinds.names s.types.numbers) node kind absent)

    node_named : name_at nodes.names n ≡ node
    node_named = sym (same_name-exact node (name_at nodes.names n) (position-Some (same_name node) nodes.names n [] node_number).1)

    kind_named : name_at kinds.names k ≡ kind
    kind_named = sym (same_name-exact kind (name_at kinds.names k) (position-Some (same_name kind) kinds.names k [] kind_number).1)

    more_nodes : length s.nodes.names ≤ length nodes.names
    more_nodes = subst (λ ns. length s.nodes.names ≤ length ns) (sym names) (length-insert_key s.nodes.names node)

    more_kinds : length s.kinds.names ≤ length kinds.names
    more_kinds = subst (λ ns. length s.kinds.names ≤ length ns) (sym kind_names) (length-insert_key s.kinds.names kind)

    typed : types_named nodes.names kinds.names types.numbers ≡ put_type (node, kind) (types_named s.nodes.names s.kinds.names s.types.numbers)
    typed =
        ap (types_named nodes.names kinds.names) numbered
        ∙ (fold_push (λ ts p. put_type (name_at nodes.names p.0, name_at kinds.names p.1) ts) [] s.types.numbers (n, k)
        ∙ ((λ i. put_type (node_named i, kind_named i) (types_named nodes.names kinds.names s.types.numbers))
        ∙ ap (put_type (node, kind)) (types_named-same s.nodes.names nodes.names s.kinds.names kinds.names
        (subst (λ ns. (i : ℕ) → i < length s.nodes.names → name_at ns i ≡ name_at s.nodes.names i) (sym names) (name_at-insert s.nodes.names node))
        (subst (λ ns. (i : ℕ) → i < length s.kinds.names → name_at ns i ≡ name_at s.kinds.names i) (sym kind_names) (name_at-insert s.kinds.names kind)) s.types.numbers h.typed_within)))

    pub contents-typed : contents type_taken ≡ with_type (contents s) node kind
    contents-typed =
        let arrived : (contents type_taken).accepted ≡ (contents s).accepted =
        (λ i. by_arrival (all_arrived (key_name s.node_keys) (node_entities (names i)) (updates_in histories.items) ++ all_arrived (key_name s.edge_keys) (edge_entities (names i) s.layers.names (edges i)) (updates_in s.edge_histories.items))) ∙ after.arrived in
        λ i. record {
          model = s.model;
          bounds = s.bounds;
          accepted = arrived i;
          types = typed i;
          nodes = names i;
          layers = s.layers.names;
          kinds = kind_names i;
          node_keys = s.node_keys;
          edge_keys = s.edge_keys;
          edges = edges i;
          pairs = pairs i;
        }

    pub IsStored-typed : IsStored type_taken
    IsStored-typed = record {
      contents_are = subst (λ v. AreContents v (updates_in histories.items) (updates_in s.edge_histories.items)) (sym contents-typed) after;
      judged = subst (AreJudged s.model s.bounds) (sym (ap (λ (v : Contents). v.accepted) contents-typed)) h.judged;
      linked = linked;
      events = ap (λ (v : Contents). length v.accepted) contents-typed ∙ h.events;
      few_events = h.few_events;
      node_limit = limit ∙ h.node_limit;
      layer_limit = h.layer_limit;
      few_edges = let few = h.few_edges in let same = ap length edges in omega arith;
      kind_limit = kind_limit ∙ h.kind_limit;
      few_layers = h.few_layers;
      few_node_keys = h.few_node_keys;
      few_edge_keys = h.few_edge_keys;
      typed_within =
          let at_node = (position-Some (same_name node) nodes.names n [] node_number).0 in
          let at_kind = (position-Some (same_name kind) kinds.names k [] kind_number).0 in
          subst (IsTypeIndex nodes.names kinds.names) (sym numbered)
          (each_append (λ (p : ℕ × ℕ). (p.0 < length nodes.names) × (p.1 < length kinds.names)) s.types.numbers ((n, k) ∷ []) (IsTypeIndex-more s.nodes.names nodes.names s.kinds.names kinds.names s.types.numbers more_nodes more_kinds h.typed_within) ((at_node, at_kind), tt));
    }
