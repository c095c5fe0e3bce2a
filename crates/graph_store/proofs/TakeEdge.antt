-- A store that takes an event of an edge.
use Rattle.std.proofs.Common.{◌≡◌, ℕ, ℤ, ◌+◌, ◌<◌, ◌≤◌, List, [], ◌∷◌, ◌++◌, true, false, not, Option, Some, None, length, refl, sym, ap, ◌∙◌, arith, subst, inr}
use Rattle.std.specs.Prelude.{position}
use Rattle.std.proofs.lemmas.List.{length-map, length_push, get_or-map}
use Rattle.std.proofs.lemmas.Bool.{not-true}
use Rattle.graph_model.specs.Limits.{most_events, most_layers, most_keys}
use Rattle.graph_model.specs.declared.properties.Value.{Value}
use Rattle.graph_model.specs.declared.properties.ValueType.{ValueType}
use Rattle.graph_model.specs.declared.events.EdgeName.{EdgeName}
use Rattle.graph_model.specs.declared.events.Entity.TheVariants.{Node, Edge}
use Rattle.graph_model.specs.declared.events.Event.{Event}
use Rattle.graph_model.specs.Entity.{entity_of, props_of, same_entity}
use Rattle.graph_model.specs.Interval.{is_inside}
use Rattle.graph_model.specs.Props.{KeysRise}
use Rattle.graph_model.specs.World.{allows}
use Rattle.graph_model.specs.Accepting.{mistyped}
use Rattle.world_laws.proofs.Filters.{each_weaker}
use Rattle.time_history.specs.declared.updates.Kind.{Kind}
use Rattle.time_history.specs.declared.updates.Update.{Update}
use Rattle.time_history.specs.Kinds.{is_node, is_delete}
use Rattle.time_history.specs.History.{UpdateList}
use Rattle.std.specs.Global.{Vec}
use Rattle.name_intern.specs.NameIndex.{NameIndex}
use Rattle.graph_store.specs.declared.store.Store.TheInside.{Inside}
use Rattle.graph_store.specs.StoreInvariant.{contents, IsStored}
use Rattle.graph_store.specs.Indexed.{IsIndexed}
use Rattle.graph_store.specs.Filed.{all_arrived, by_arrival}
use Rattle.graph_store.specs.Histories.{updates_in}
use Rattle.graph_store.specs.WithEvent.{edge_event, parts_in, with_edge_event}
use Rattle.graph_store.specs.Lawful.{AreJudged}
use Rattle.graph_store.proofs.LawfulLaws.{AreJudged-push}
use Rattle.time_history.specs.declared.updates.Kind.TheVariants.{Node as OfNode, Add, Delete}
use Rattle.time_history.specs.Telling.{event_told, fits}
use Rattle.time_history.proofs.Held.{all_from_each}
use Rattle.graph_store.specs.declared.taking.Arrival.{Arrival}
use Rattle.graph_store.specs.declared.edges.EdgeParts.{EdgeParts}
use Rattle.graph_store.specs.declared.pairs.Ends.{Ends}
use Rattle.graph_store.specs.EdgeParts.{same_parts, parts_at}
use Rattle.indexmap.specs.IndexSet.{insert_key}
use Rattle.graph_model.specs.Names.{same_name}
use Rattle.graph_store.specs.EdgeIndex.{EdgeIndex}
use Rattle.graph_store.specs.Keys.{with_keys, key_name, AreNumbered}
use Rattle.graph_store.specs.Telling.{entity_at, updates_of_number, IsStoredUpdate}
use Rattle.graph_store.specs.WithUpdate.{update_of, with_update, with_ends, with_end_histories, HasEdge, ArrivesNext, TakeUpdate}
use Rattle.graph_store.specs.TypeIndex.{types_named, IsTypeIndex}
use Rattle.graph_store.proofs.TypeLaws.{types_named-insert, IsTypeIndex-insert}
use Rattle.graph_store.specs.Contents.{Contents, AreContents, edge_name, node_entities, edge_entities}
use Rattle.graph_store.proofs.Readers.{none_found}
use Rattle.graph_store.proofs.EdgeNames.{known_edge}
use Rattle.graph_store.proofs.EdgeNumbers.{edges-has, pairs-has, length-insert_key-le}
use Rattle.graph_store.proofs.AcceptEdge.{AreContents-known_edge, AreContents-new_edge}
use Rattle.graph_store.proofs.TakeNode.{few_updates}

module _ (c : Contents) (node_updates edge_updates : List (List Update)) (h : AreContents c node_updates edge_updates) (a : Arrival) (last : a.number ≡ length c.accepted) (kind : is_node a.kind ≡ false) where
  -- each edge's history takes an event that comes next
  pub next_of_edge : (values : List (ℕ × Value)) (i : ℕ) → i < length edge_updates → ArrivesNext (update_of a values) (updates_of_number edge_updates i)
  next_of_edge values i lt =
      let lengths = h.edges_told.lengths in
      let entities = length-map c.edges (λ (p : EdgeParts). Edge (edge_name c.nodes c.layers p)) in
      let below : i < length (edge_entities c.nodes c.layers c.edges) = omega arith in
      let kept = h.edges_told.kept i below in
      let at : entity_at (edge_entities c.nodes c.layers c.edges) i ≡ Edge (edge_name c.nodes c.layers (parts_at c.edges i)) =
      get_or-map (λ (p : EdgeParts). Edge (edge_name c.nodes c.layers p)) c.edges i (record { src = 0; dst = 0; layer = 0 }) (Node []) (omega arith) in
      record {
        last = all_from_each (λ (v : Update). v.arrival < a.number) (updates_of_number edge_updates i)
            (each_weaker (IsStoredUpdate (entity_at (edge_entities c.nodes c.layers c.edges) i) (length c.edge_keys) (length c.accepted)) (λ (v : Update). v.arrival < a.number) (λ v k. let b = k.arrival in omega arith) (updates_of_number edge_updates i) kept);
        sort = inr (all_from_each (λ (v : Update). is_node v.kind ≡ false) (update_of a values ∷ updates_of_number edge_updates i)
            (kind, each_weaker (IsStoredUpdate (entity_at (edge_entities c.nodes c.layers c.edges) i) (length c.edge_keys) (length c.accepted)) (λ (v : Update). is_node v.kind ≡ false) (λ v k. not-true (is_node v.kind) (subst (λ e. fits e v.kind ≡ true) at k.kind)) (updates_of_number edge_updates i) kept));
        few = let f = few_updates (key_name c.edge_keys) (length c.edge_keys) (edge_entities c.nodes c.layers c.edges) edge_updates c.accepted h.edges_told i below in omega arith;
      }

  -- the contents with an event of an edge, and with these edges and histories
  abbrev pub WithEdge : Event → EdgeName → List (List ℕ × Value) → List EdgeParts → List (List Update) → Type 0
  WithEdge x edge props edges updates =
      AreContents (record c { accepted = c.accepted ++ x ∷ []; nodes = with_ends c.nodes edge; layers = insert_key same_name c.layers edge.layer; edge_keys = with_keys c.edge_keys props; edges = edges }) (with_end_histories c.nodes edge node_updates) updates

  -- the histories that took it go with the contents that have it
  pub AreContents-taken_edge : (x : Event) (edge : EdgeName) (props : List (List ℕ × Value)) → entity_of x ≡ Edge edge → props_of x ≡ props
      → ((values : List (ℕ × Value)) → AreNumbered (with_keys c.edge_keys props) props values → event_told (entity_of x) (key_name (with_keys c.edge_keys props)) (update_of a values) ≡ x)
      → (before after : EdgeIndex) → before.edges ≡ c.edges → HasEdge (position (same_entity (Edge edge)) (edge_entities c.nodes c.layers c.edges)) (with_ends c.nodes edge) (insert_key same_name c.layers edge.layer) edge before after
      → (updates : List (List Update)) → TakeUpdate (with_keys c.edge_keys props) props a (position (same_entity (Edge edge)) (edge_entities c.nodes c.layers c.edges)) edge_updates updates
      → WithEdge x edge props after.edges updates
  AreContents-taken_edge x edge props own set tells before after edges has updates t = go (position (same_entity (Edge edge)) (edge_entities c.nodes c.layers c.edges)) refl has t.filed
    where
      u : Update
      u = update_of a t.values

      told : event_told (entity_of x) (key_name (with_keys c.edge_keys props)) u ≡ x
      told = tells t.values t.numbered

      new : IsStoredUpdate (entity_of x) (length (with_keys c.edge_keys props)) (length (c.accepted ++ x ∷ [])) u
      new = let more = length_push c.accepted x in record { keys = t.numbered.below; arrival = omega arith; kind = subst (λ e. fits e a.kind ≡ true) (sym own) (ap not kind) }

      go : (o : Option ℕ) → position (same_entity (Edge edge)) (edge_entities c.nodes c.layers c.edges) ≡ o → HasEdge o (with_ends c.nodes edge) (insert_key same_name c.layers edge.layer) edge before after → updates ≡ with_update o u edge_updates
          → WithEdge x edge props after.edges updates
      go (Some i) e had filed =
          let k = known_edge c.nodes c.layers edge c.edges h.within i e in
          let known : WithEdge x edge props c.edges (with_update (Some i) u edge_updates) = AreContents-known_edge c node_updates edge_updates h x edge props own set u told new last i k.0 (sym k.1) in
          subst (WithEdge x edge props after.edges) (sym filed) (subst (λ es. WithEdge x edge props es (with_update (Some i) u edge_updates)) (sym (had.0 ∙ edges)) known)
      go None e added filed =
          let begun : WithEdge x edge props (c.edges ++ added.parts ∷ []) (with_update None u edge_updates) =
          AreContents-new_edge c node_updates edge_updates h x edge props own set u told new last added.parts added.is_named added.src added.dst added.layer (none_found (same_entity (Edge edge)) (edge_entities c.nodes c.layers c.edges) e) in
          subst (WithEdge x edge props after.edges) (sym filed) (subst (λ es. WithEdge x edge props es (with_update None u edge_updates)) (sym (added.edges ∙ ap (λ es. es ++ added.parts ∷ []) edges)) begun)

-- an event of an edge sets its properties; a deletion has none
pub props_of-edge_event : (time : ℤ) (order : ℕ) (kind : Kind) (edge : EdgeName) (props : List (List ℕ × Value)) → (is_delete kind ≡ true → props ≡ []) → props_of (edge_event time order kind edge props) ≡ props
props_of-edge_event time order OfNode edge props none = refl
props_of-edge_event time order Add edge props none = refl
props_of-edge_event time order Delete edge props none = sym (none refl)

pub entity_of-edge_event : (time : ℤ) (order : ℕ) (kind : Kind) (edge : EdgeName) (props : List (List ℕ × Value)) → entity_of (edge_event time order kind edge props) ≡ Edge edge
entity_of-edge_event time order OfNode edge props = refl
entity_of-edge_event time order Add edge props = refl
entity_of-edge_event time order Delete edge props = refl

-- what is true of contents does not speak of their pairs
AreContents-pairs : (c : Contents) (pairs : List Ends) (node_updates edge_updates : List (List Update)) → AreContents c node_updates edge_updates → AreContents (record c { pairs = pairs }) node_updates edge_updates
AreContents-pairs c pairs node_updates edge_updates h = record {
  arrived = h.arrived;
  nodes_told = h.nodes_told;
  edges_told = h.edges_told;
  known_nodes = h.known_nodes;
  known_layers = h.known_layers;
  known_kinds = h.known_kinds;
  known_edges = h.known_edges;
  node_types = h.node_types;
  edge_types = h.edge_types;
  within = h.within;
}

-- when an event of an edge arrives, after so many events
abbrev pub edge_arrival : ℤ → ℕ → Kind → ℕ → Arrival
edge_arrival time order kind n = record { time = time; order = order; number = n; kind = kind }

told_as : (time : ℤ) (order n : ℕ) (kind : Kind) (edge : EdgeName) (keys : List (List ℕ × ValueType)) (props : List (List ℕ × Value)) (values : List (ℕ × Value)) → AreNumbered keys props values
    → event_told (entity_of (edge_event time order kind edge props)) (key_name keys) (update_of (edge_arrival time order kind n) values) ≡ edge_event time order kind edge props
told_as time order n kind edge keys props values numbered =
    ap (λ e. event_told e (key_name keys) (update_of (edge_arrival time order kind n) values)) (entity_of-edge_event time order kind edge props)
    ∙ ap (edge_event time order kind edge) numbered.names

-- the fields of a store that took the event
module _ (s : Inside) (h : IsStored s) (indexed : IsIndexed (contents s)) (time : ℤ) (order : ℕ) (kind : Kind) (edge : EdgeName) (props : List (List ℕ × Value)) (nodes layers : NameIndex) (keys : List (List ℕ × ValueType)) (links : EdgeIndex) (node_histories edge_histories : Vec UpdateList) where
  abbrev pub edge_taken : Inside
  edge_taken = record s { events = s.events + 1; nodes = nodes; layers = layers; edge_keys = keys; links = links; node_histories = node_histories; edge_histories = edge_histories }

  module _ (names : nodes.names ≡ with_ends s.nodes.names edge) (limit : nodes.limit ≡ s.nodes.limit) (in_layers : layers.names ≡ insert_key same_name s.layers.names edge.layer) (layer_limit : layers.limit ≡ s.layers.limit)
      (numbered : keys ≡ with_keys s.edge_keys props) (linked : links.nodes ≡ length nodes.names) (filed : updates_in node_histories.items ≡ with_end_histories s.nodes.names edge (updates_in s.node_histories.items))
      (has : HasEdge (position (same_entity (Edge edge)) (edge_entities s.nodes.names s.layers.names s.links.edges)) nodes.names layers.names edge s.links links)
      (taken : TakeUpdate (with_keys s.edge_keys props) props (edge_arrival time order kind s.events) (position (same_entity (Edge edge)) (edge_entities s.nodes.names s.layers.names s.links.edges)) (updates_in s.edge_histories.items) (updates_in edge_histories.items))
      (of_edge : is_node kind ≡ false) (none : is_delete kind ≡ true → props ≡ []) where
    x : Event
    x = edge_event time order kind edge props

    has_named : HasEdge (position (same_entity (Edge edge)) (edge_entities s.nodes.names s.layers.names s.links.edges)) (with_ends s.nodes.names edge) (insert_key same_name s.layers.names edge.layer) edge s.links links
    has_named =
        subst (λ ns. HasEdge (position (same_entity (Edge edge)) (edge_entities s.nodes.names s.layers.names s.links.edges)) ns (insert_key same_name s.layers.names edge.layer) edge s.links links) names
        (subst (λ ls. HasEdge (position (same_entity (Edge edge)) (edge_entities s.nodes.names s.layers.names s.links.edges)) nodes.names ls edge s.links links) in_layers has)

    after : AreContents (record (contents s) { accepted = (contents s).accepted ++ edge_event time order kind edge props ∷ []; nodes = with_ends s.nodes.names edge; layers = insert_key same_name s.layers.names edge.layer; edge_keys = with_keys s.edge_keys props; edges = links.edges }) (with_end_histories s.nodes.names edge (updates_in s.node_histories.items)) (updates_in edge_histories.items)
    after =
        AreContents-taken_edge (contents s) (updates_in s.node_histories.items) (updates_in s.edge_histories.items) h.contents_are (edge_arrival time order kind s.events) (sym h.events) of_edge
        (edge_event time order kind edge props) edge props (entity_of-edge_event time order kind edge props) (props_of-edge_event time order kind edge props none)
        (told_as time order s.events kind edge (with_keys s.edge_keys props) props) s.links links refl has_named (updates_in edge_histories.items) taken

    arrived : (contents edge_taken).accepted ≡ (contents s).accepted ++ edge_event time order kind edge props ∷ []
    arrived =
        (λ k. by_arrival (all_arrived (key_name s.node_keys) (node_entities (names k)) (filed k) ++ all_arrived (key_name (numbered k)) (edge_entities (names k) (in_layers k) links.edges) (updates_in edge_histories.items)))
        ∙ after.arrived

    types : types_named nodes.names s.kinds.names s.types.numbers ≡ types_named s.nodes.names s.kinds.names s.types.numbers
    types =
        ap (λ ns. types_named ns s.kinds.names s.types.numbers) names
        ∙ (types_named-insert (insert_key same_name s.nodes.names edge.src) s.kinds.names edge.dst s.types.numbers (IsTypeIndex-insert s.nodes.names s.kinds.names edge.src s.types.numbers h.typed_within)
        ∙ types_named-insert s.nodes.names s.kinds.names edge.src s.types.numbers h.typed_within)

    pub contents-edge_taken : contents edge_taken ≡ with_edge_event (contents s) (edge_event time order kind edge props) edge props
    contents-edge_taken =
        let edges = edges-has s.nodes.names s.layers.names edge s.links links indexed.node_names indexed.layer_names h.contents_are.within indexed.known_pairs has_named in
        let pairs = pairs-has s.nodes.names s.layers.names edge s.links links indexed.node_names indexed.layer_names h.contents_are.within indexed.known_pairs has_named in
        λ k. record (contents s) {
          accepted = arrived k;
          types = types k;
          nodes = names k;
          layers = in_layers k;
          edge_keys = numbered k;
          edges = edges k;
          pairs = pairs k;
        }

    are : AreContents (contents edge_taken) (updates_in node_histories.items) (updates_in edge_histories.items)
    are =
        let same : contents edge_taken ≡ record (contents s) { accepted = (contents s).accepted ++ edge_event time order kind edge props ∷ []; nodes = with_ends s.nodes.names edge; layers = insert_key same_name s.layers.names edge.layer; edge_keys = with_keys s.edge_keys props; edges = links.edges; pairs = links.pairs } =
        λ k. record (contents s) { accepted = arrived k; types = types k; nodes = names k; layers = in_layers k; edge_keys = numbered k; edges = links.edges; pairs = links.pairs } in
        subst (λ us. AreContents (contents edge_taken) us (updates_in edge_histories.items)) (sym filed)
        (subst (λ v. AreContents v (with_end_histories s.nodes.names edge (updates_in s.node_histories.items)) (updates_in edge_histories.items)) (sym same) (AreContents-pairs _ links.pairs _ _ after))

    pub IsStored-edge_taken : s.events < most_events → length (insert_key same_name s.layers.names edge.layer) ≤ most_layers → length (with_keys s.edge_keys props) ≤ most_keys
        → is_inside s.bounds time ≡ true → allows s.model (edge_event time order kind edge props) ≡ true → KeysRise props → mistyped (contents s).accepted (edge_event time order kind edge props) ≡ None → IsStored edge_taken
    IsStored-edge_taken few_events few_layers few_keys inside allowed rise typed = record {
      contents_are = are;
      judged = subst (AreJudged s.model s.bounds) (sym (ap (λ (v : Contents). v.accepted) contents-edge_taken))
          (AreJudged-push s.model s.bounds (contents s).accepted (edge_event time order kind edge props) h.judged inside allowed (subst KeysRise (sym (props_of-edge_event time order kind edge props none)) rise) typed);
      linked = linked;
      events = ap (λ (v : Contents). length v.accepted) contents-edge_taken ∙ (length_push (contents s).accepted (edge_event time order kind edge props) ∙ ap (λ n. n + 1) h.events);
      few_events = omega arith;
      node_limit = limit ∙ h.node_limit;
      layer_limit = layer_limit ∙ h.layer_limit;
      kind_limit = h.kind_limit;
      few_edges = let few = h.few_edges in
          let more = length-insert_key-le same_parts s.links.edges (parts_in (with_ends s.nodes.names edge) (insert_key same_name s.layers.names edge.layer) edge) in
          let same = ap length (edges-has s.nodes.names s.layers.names edge s.links links indexed.node_names indexed.layer_names h.contents_are.within indexed.known_pairs has_named) in
          omega arith;
      few_layers = subst (λ (ls : List (List ℕ)). length ls ≤ most_layers) (sym in_layers) few_layers;
      few_node_keys = h.few_node_keys;
      few_edge_keys = subst (λ (ks : List (List ℕ × ValueType)). length ks ≤ most_keys) (sym numbered) few_keys;
      typed_within = subst (λ ns. IsTypeIndex ns s.kinds.names s.types.numbers) (sym names)
          (IsTypeIndex-insert (insert_key same_name s.nodes.names edge.src) s.kinds.names edge.dst s.types.numbers (IsTypeIndex-insert s.nodes.names s.kinds.names edge.src s.types.numbers h.typed_within));
    }
