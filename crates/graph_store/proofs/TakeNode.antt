-- A store that takes an update of a node.
use Rattle.std.proofs.Common.{◌≡◌, ℕ, ℤ, ◌+◌, ◌<◌, ◌≤◌, List, [], ◌∷◌, ◌++◌, true, cond, Option, Some, None, length, refl, sym, ap, ◌∙◌, arith, subst, inl}
use Rattle.std.specs.Prelude.{position}
use Rattle.std.proofs.lemmas.List.{length-map, length_push, get_or-map}
use Rattle.std.proofs.lemmas.List.Quantifiers.{position-Some}
use Rattle.indexmap.specs.IndexSet.{insert_key}
use Rattle.graph_model.specs.Limits.{most_events, most_keys}
use Rattle.graph_model.specs.declared.properties.Value.{Value}
use Rattle.graph_model.specs.declared.properties.ValueType.{ValueType}
use Rattle.graph_model.specs.declared.events.Entity.{Entity}
use Rattle.graph_model.specs.declared.events.Entity.TheVariants.{Node}
use Rattle.graph_model.specs.declared.events.Event.{Event}
use Rattle.graph_model.specs.Names.{same_name}
use Rattle.graph_model.specs.Entity.{is_about}
use Rattle.graph_model.specs.Interval.{is_inside}
use Rattle.graph_model.specs.Props.{KeysRise}
use Rattle.graph_model.specs.Accepting.{mistyped}
use Rattle.graph_model.specs.World.{arrange, event_cmp}
use Rattle.world_laws.proofs.Order.{same_name-exact}
use Rattle.world_laws.proofs.Counts.{length_in_order, length_filter_le}
use Rattle.world_laws.proofs.Filters.{each_weaker}
use Rattle.name_intern.specs.NameIndex.{NameIndex}
use Rattle.time_history.specs.declared.updates.Kind.TheVariants.{Node as OfNode}
use Rattle.time_history.specs.declared.updates.Update.{Update}
use Rattle.time_history.specs.Kinds.{is_node}
use Rattle.time_history.specs.History.{UpdateList}
use Rattle.time_history.specs.Telling.{event_told, fits}
use Rattle.time_history.proofs.Held.{all_from_each}
use Rattle.graph_store.specs.declared.taking.Arrival.{Arrival}
use Rattle.std.specs.Global.{Vec}
use Rattle.graph_store.specs.declared.store.Store.TheInside.{Inside}
use Rattle.graph_store.specs.StoreInvariant.{contents, IsStored}
use Rattle.graph_store.specs.Lawful.{AreJudged}
use Rattle.graph_store.specs.Keys.{with_keys, key_name}
use Rattle.graph_store.specs.EdgeIndex.{EdgeIndex}
use Rattle.graph_store.specs.Filed.{all_arrived, by_arrival}
use Rattle.graph_store.specs.Telling.{entity_at, updates_of_number, IsStoredUpdate, TellEvents}
use Rattle.graph_store.specs.Histories.{updates_in}
use Rattle.graph_store.specs.WithUpdate.{update_of, with_update, ArrivesNext, TakeUpdate}
use Rattle.graph_store.specs.TypeIndex.{types_named, IsTypeIndex}
use Rattle.graph_store.proofs.TypeLaws.{types_named-insert, IsTypeIndex-insert}
use Rattle.graph_store.specs.Contents.{Contents, AreContents, name_at, node_entities, edge_entities}
use Rattle.graph_store.specs.WithEvent.{node_event, with_node_event}
use Rattle.graph_store.proofs.Readers.{none_found, one_found}
use Rattle.graph_store.proofs.Results.{insert_key-new}
use Rattle.graph_store.proofs.LawfulLaws.{AreJudged-push, allows-node}
use Rattle.graph_store.proofs.AcceptNode.{AreContents-known_node, AreContents-new_node}

-- when an update of a node arrives, after so many events
abbrev pub node_arrival : ℤ → ℕ → ℕ → Arrival
node_arrival time order n = record { time = time; order = order; number = n; kind = OfNode }

-- an entity's history is no longer than the list of accepted events
pub few_updates : (names : ℕ → List ℕ) (n : ℕ) (es : List Entity) (hs : List (List Update)) (accepted : List Event) → TellEvents names n es hs accepted → (i : ℕ) → i < length es → length (updates_of_number hs i) ≤ length accepted
few_updates names n es hs accepted h i lt =
    let told = sym (length-map (updates_of_number hs i) (event_told (entity_at es i) names)) ∙ ap length (h.told i lt) in
    let le = length_filter_le (is_about (entity_at es i)) (arrange accepted) in
    let all = length_in_order event_cmp accepted in
    omega arith

module _ (c : Contents) (node_updates edge_updates : List (List Update)) (h : AreContents c node_updates edge_updates) (time : ℤ) (order n : ℕ) (last : n ≡ length c.accepted) where
  -- each node's history takes an update that comes next
  pub next_of_node : (values : List (ℕ × Value)) (i : ℕ) → i < length node_updates → ArrivesNext (update_of (node_arrival time order n) values) (updates_of_number node_updates i)
  next_of_node values i lt =
      let lengths = h.nodes_told.lengths in
      let entities = length-map c.nodes Node in
      let below : i < length (node_entities c.nodes) = omega arith in
      let kept = h.nodes_told.kept i below in
      let at : entity_at (node_entities c.nodes) i ≡ Node (name_at c.nodes i) = get_or-map Node c.nodes i [] (Node []) (omega arith) in
      record {
        last = all_from_each (λ (v : Update). v.arrival < n) (updates_of_number node_updates i)
            (each_weaker (IsStoredUpdate (entity_at (node_entities c.nodes) i) (length c.node_keys) (length c.accepted)) (λ (v : Update). v.arrival < n) (λ v k. let a = k.arrival in omega arith) (updates_of_number node_updates i) kept);
        sort = inl (all_from_each (λ (v : Update). is_node v.kind ≡ true) (update_of (node_arrival time order n) values ∷ updates_of_number node_updates i)
            (refl, each_weaker (IsStoredUpdate (entity_at (node_entities c.nodes) i) (length c.node_keys) (length c.accepted)) (λ (v : Update). is_node v.kind ≡ true) (λ v k. subst (λ e. fits e v.kind ≡ true) at k.kind) (updates_of_number node_updates i) kept));
        few = let f = few_updates (key_name c.node_keys) (length c.node_keys) (node_entities c.nodes) node_updates c.accepted h.nodes_told i below in omega arith;
      }

  -- the histories that took it go with the contents that have it
  pub AreContents-taken : (name : List ℕ) (props : List (List ℕ × Value)) (updates : List (List Update)) → TakeUpdate (with_keys c.node_keys props) props (node_arrival time order n) (position (same_name name) c.nodes) node_updates updates
      → AreContents (with_node_event c time order name props) updates edge_updates
  AreContents-taken name props updates t = go (position (same_name name) c.nodes) refl t.filed
    where
      u : Update
      u = update_of (node_arrival time order n) t.values

      told : event_told (Node name) (key_name (with_keys c.node_keys props)) u ≡ node_event time order name props
      told = ap (node_event time order name) t.numbered.names

      new : IsStoredUpdate (Node name) (length (with_keys c.node_keys props)) (length (c.accepted ++ node_event time order name props ∷ [])) u
      new = let more = length_push c.accepted (node_event time order name props) in record { keys = t.numbered.below; arrival = omega arith; kind = refl }

      go : (o : Option ℕ) → position (same_name name) c.nodes ≡ o → updates ≡ with_update o u node_updates → AreContents (with_node_event c time order name props) updates edge_updates
      go (Some i) e f =
          let found = position-Some (same_name name) c.nodes i [] e in
          let nodes : c.nodes ≡ insert_key same_name c.nodes name = sym (ap (λ t. cond t c.nodes (c.nodes ++ name ∷ [])) (one_found (same_name name) c.nodes i [] e)) in
          let known = AreContents-known_node c node_updates edge_updates h time order name props u told new last i found.0 (sym (same_name-exact name (name_at c.nodes i) found.1)) in
          subst (λ us. AreContents (with_node_event c time order name props) us edge_updates) (sym f)
          (subst (λ ns. AreContents (record c { accepted = c.accepted ++ node_event time order name props ∷ []; nodes = ns; node_keys = with_keys c.node_keys props }) (with_update (Some i) u node_updates) edge_updates) nodes known)
      go None e f =
          let absent = none_found (same_name name) c.nodes e in
          let begun = AreContents-new_node c node_updates edge_updates h time order name props u told new last absent in
          subst (λ us. AreContents (with_node_event c time order name props) us edge_updates) (sym f)
          (subst (λ ns. AreContents (record c { accepted = c.accepted ++ node_event time order name props ∷ []; nodes = ns; node_keys = with_keys c.node_keys props }) (with_update None u node_updates) edge_updates) (sym (insert_key-new same_name c.nodes name absent)) begun)

-- the fields of a store that took the update
module _ (s : Inside) (h : IsStored s) (time : ℤ) (order : ℕ) (name : List ℕ) (props : List (List ℕ × Value)) (nodes : NameIndex) (keys : List (List ℕ × ValueType)) (links : EdgeIndex) (histories : Vec UpdateList) where
  abbrev pub node_taken : Inside
  node_taken = record s { events = s.events + 1; nodes = nodes; node_keys = keys; links = links; node_histories = histories }

  module _ (names : nodes.names ≡ insert_key same_name s.nodes.names name) (limit : nodes.limit ≡ s.nodes.limit) (numbered : keys ≡ with_keys s.node_keys props) (linked : links.nodes ≡ length nodes.names) (edges : links.edges ≡ s.links.edges) (pairs : links.pairs ≡ s.links.pairs)
      (taken : TakeUpdate (with_keys s.node_keys props) props (node_arrival time order s.events) (position (same_name name) s.nodes.names) (updates_in s.node_histories.items) (updates_in histories.items)) where
    after : AreContents (with_node_event (contents s) time order name props) (updates_in histories.items) (updates_in s.edge_histories.items)
    after = AreContents-taken (contents s) (updates_in s.node_histories.items) (updates_in s.edge_histories.items) h.contents_are time order s.events (sym h.events) name props (updates_in histories.items) taken

    pub contents-taken : contents node_taken ≡ with_node_event (contents s) time order name props
    contents-taken =
        let arrived : (contents node_taken).accepted ≡ (contents s).accepted ++ node_event time order name props ∷ [] =
        (λ k. by_arrival (all_arrived (key_name (numbered k)) (node_entities (names k)) (updates_in histories.items) ++ all_arrived (key_name s.edge_keys) (edge_entities (names k) s.layers.names (edges k)) (updates_in s.edge_histories.items))) ∙ after.arrived in
        let types : types_named nodes.names s.kinds.names s.types.numbers ≡ types_named s.nodes.names s.kinds.names s.types.numbers =
        ap (λ ns. types_named ns s.kinds.names s.types.numbers) names ∙ types_named-insert s.nodes.names s.kinds.names name s.types.numbers h.typed_within in
        λ k. record {
          model = s.model;
          bounds = s.bounds;
          accepted = arrived k;
          types = types k;
          nodes = names k;
          layers = s.layers.names;
          kinds = s.kinds.names;
          node_keys = numbered k;
          edge_keys = s.edge_keys;
          edges = edges k;
          pairs = pairs k;
        }

    pub IsStored-taken : s.events < most_events → length (with_keys s.node_keys props) ≤ most_keys → is_inside s.bounds time ≡ true → KeysRise props → mistyped (contents s).accepted (node_event time order name props) ≡ None → IsStored node_taken
    IsStored-taken few_events few_keys inside rise typed = record {
      contents_are = subst (λ v. AreContents v (updates_in histories.items) (updates_in s.edge_histories.items)) (sym contents-taken) after;
      judged = subst (AreJudged s.model s.bounds) (sym (ap (λ (v : Contents). v.accepted) contents-taken))
          (AreJudged-push s.model s.bounds (contents s).accepted (node_event time order name props) h.judged inside (allows-node s.model time order name props) rise typed);
      linked = linked;
      events = ap (λ (v : Contents). length v.accepted) contents-taken ∙ (length_push (contents s).accepted (node_event time order name props) ∙ ap (λ n. n + 1) h.events);
      few_events = omega arith;
      node_limit = limit ∙ h.node_limit;
      layer_limit = h.layer_limit;
      few_edges = let few = h.few_edges in let same = ap length edges in omega arith;
      kind_limit = h.kind_limit;
      few_layers = h.few_layers;
      few_node_keys = subst (λ (ks : List (List ℕ × ValueType)). length ks ≤ most_keys) (sym numbered) few_keys;
      few_edge_keys = h.few_edge_keys;
      typed_within = subst (λ ns. IsTypeIndex ns s.kinds.names s.types.numbers) (sym names) (IsTypeIndex-insert s.nodes.names s.kinds.names name s.types.numbers h.typed_within);
    }
