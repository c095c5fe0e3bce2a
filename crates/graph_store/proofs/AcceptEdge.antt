-- A store that accepts an event of an edge.
use Rattle.std.proofs.Common.{◌≡◌, ℕ, ◌<◌, ◌≤◌, List, [], ◌∷◌, ◌++◌, Bool, true, false, cond, not, ◌||◌, length, refl, sym, ap, ◌∙◌, arith, subst, append-nil, ⊎_elim}
use Rattle.std.specs.Prelude.{is_some, option_map, slice_set}
use Rattle.std.specs.Option.{option_or}
use Rattle.std.specs.List.{list_any, AllByRecursion}
use Rattle.std.proofs.lemmas.List.{get_or-map, length-map, map-append, length_push}
use Rattle.std.proofs.lemmas.List.Folds.{list_any-append}
use Rattle.std.proofs.lemmas.List.Elements.{filter-append}
use Rattle.std.proofs.lemmas.Bool.{true≢false, or_parts, cases_lt}
use Rattle.std.proofs.Math.ListN.{get_or-append}
use Rattle.std.proofs.Math.Seq.{get_or-append_seam}
use Rattle.world_laws.proofs.Order.{same_entity-refl}
use Rattle.world_laws.proofs.Listed.{about-arrange}
use Rattle.world_laws.proofs.Filters.{each_append, filter_none}
use Rattle.world_laws.proofs.Named.{each_fails}
use Rattle.indexmap.specs.IndexSet.{insert_key}
use Rattle.graph_model.specs.declared.properties.Value.{Value}
use Rattle.graph_model.specs.declared.events.EdgeName.{EdgeName}
use Rattle.graph_model.specs.declared.events.Entity.{Entity}
use Rattle.graph_model.specs.declared.events.Entity.TheVariants.{Node, Edge}
use Rattle.graph_model.specs.declared.events.Event.{Event}
use Rattle.graph_model.specs.Names.{same_name}
use Rattle.graph_model.specs.ValueKind.{value_type}
use Rattle.graph_model.specs.Props.{prop_value}
use Rattle.graph_model.specs.Entity.{entity_of, is_node, is_about, about, same_entity, props_of, involves}
use Rattle.graph_model.specs.World.{names_node, type_of, arrange}
use Rattle.graph_model.specs.Accepting.{kept_type, node_events, edge_events, properties_of, layer_names, layers_in}
use Rattle.time_history.specs.declared.updates.Update.{Update}
use Rattle.time_history.specs.Updates.{placed, update_cmp}
use Rattle.time_history.specs.Telling.{event_told}
use Rattle.graph_store.specs.declared.edges.EdgeParts.{EdgeParts}
use Rattle.graph_store.specs.EdgeParts.{parts_at}
use Rattle.graph_store.proofs.Listed.{list_any-place}
use Rattle.graph_store.specs.Filed.{arrived, all_arrived, by_arrival}
use Rattle.graph_store.specs.Keys.{type_in, with_keys, key_name}
use Rattle.graph_store.specs.Telling.{entity_at, updates_of_number, IsStoredUpdate, TellEvents}
use Rattle.graph_store.specs.WithUpdate.{with_history}
use Rattle.graph_store.specs.Contents.{Contents, AreContents, name_at, edge_name, node_entities, edge_entities}
use Rattle.graph_store.proofs.KeyLaws.{type_in-with_keys, first_type, key_name-with_keys, length-with_keys}
use Rattle.graph_store.proofs.FiledLaws.{HasOneMore, one_more-put, one_more-map, one_more-behind, all_arrived-set, all_arrived-push, all_arrived-below, arrived_more}
use Rattle.graph_store.proofs.StoreLaws.{TellEvents-other, TellEvents-empty, TellEvents-keys, TellEvents-known, TellEvents-new, all_arrived-same}
use Rattle.graph_store.proofs.AcceptNode.{unnamed, flat_map-last, prop_value-append, insert_key-has, name_at-insert, edge_entities-same, new_apart, about_none}
use Rattle.graph_store.proofs.Joined.{or-nothing, or-absorbed, or-swap}

pub length-insert_key : (names : List (List ℕ)) (name : List ℕ) → length names ≤ length (insert_key same_name names name)
length-insert_key names name = go (list_any (same_name name) names)
  where
    go : (t : Bool) → length names ≤ length (cond t names (names ++ name ∷ []))
    go true = omega arith
    go false = omega (arith, length_push names name)

-- a node that is named leaves what is told
pub TellEvents-names_node : (names : ℕ → List ℕ) (n : ℕ) (nodes : List (List ℕ)) (updates : List (List Update)) (accepted : List Event) (name : List ℕ) → (list_any (same_name name) nodes ≡ false → names_node accepted name ≡ false)
    → TellEvents names n (node_entities nodes) updates accepted → TellEvents names n (node_entities (insert_key same_name nodes name)) (with_history nodes name updates) accepted
TellEvents-names_node names n nodes updates accepted name fresh h = go (list_any (same_name name) nodes) refl
  where
    go : (t : Bool) → list_any (same_name name) nodes ≡ t → TellEvents names n (node_entities (cond t nodes (nodes ++ name ∷ []))) (cond t updates (updates ++ [] ∷ [])) accepted
    go true e = h
    go false e =
        subst (λ es. TellEvents names n es (updates ++ [] ∷ []) accepted) (sym (map-append Node nodes (name ∷ [])))
        (TellEvents-empty names n (node_entities nodes) updates accepted (Node name) (new_apart nodes name e) (about_none name accepted (fresh e)) h)

pub all_arrived-names_node : (names : ℕ → List ℕ) (nodes : List (List ℕ)) (updates : List (List Update)) (name : List ℕ) → length (node_entities nodes) ≡ length updates
    → all_arrived names (node_entities (insert_key same_name nodes name)) (with_history nodes name updates) ≡ all_arrived names (node_entities nodes) updates
all_arrived-names_node names nodes updates name len = go (list_any (same_name name) nodes)
  where
    go : (t : Bool) → all_arrived names (node_entities (cond t nodes (nodes ++ name ∷ []))) (cond t updates (updates ++ [] ∷ [])) ≡ all_arrived names (node_entities nodes) updates
    go true = refl
    go false =
        ap (λ es. all_arrived names es (updates ++ [] ∷ [])) (map-append Node nodes (name ∷ []))
        ∙ (all_arrived-push names (node_entities nodes) updates (Node name) [] len ∙ append-nil (all_arrived names (node_entities nodes) updates))

module _ (c : Contents) (node_updates edge_updates : List (List Update)) (h : AreContents c node_updates edge_updates) (x : Event) (edge : EdgeName) (props : List (List ℕ × Value)) (own : entity_of x ≡ Edge edge) (set : props_of x ≡ props) where
  -- the nodes with the ends of the edge, and the histories of nodes
  abbrev pub nodes_after : List (List ℕ)
  nodes_after = insert_key same_name (insert_key same_name c.nodes edge.src) edge.dst

  abbrev pub updates_after : List (List Update)
  updates_after = with_history (insert_key same_name c.nodes edge.src) edge.dst (with_history c.nodes edge.src node_updates)

  pub known_nodes-edge : (n : List ℕ) → list_any (same_name n) nodes_after ≡ (names_node (c.accepted ++ x ∷ []) n || is_some (type_of c.types n))
  known_nodes-edge n =
      insert_key-has (insert_key same_name c.nodes edge.src) edge.dst n
      ∙ (ap (λ t. t || same_name n edge.dst) (insert_key-has c.nodes edge.src n ∙ (ap (λ t. t || same_name n edge.src) (h.known_nodes n) ∙ or-swap (names_node c.accepted n) (is_some (type_of c.types n)) (same_name n edge.src)))
      ∙ (or-swap (names_node c.accepted n || same_name n edge.src) (is_some (type_of c.types n)) (same_name n edge.dst)
      ∙ sym (ap (λ t. t || is_some (type_of c.types n)) (list_any-append (λ y. involves n (entity_of y)) c.accepted (x ∷ []) ∙ (ap (λ e. names_node c.accepted n || (involves n e || false)) own ∙ regroup (names_node c.accepted n) (same_name n edge.src) (same_name n edge.dst))))))
    where
      regroup : (a b d : Bool) → (a || ((b || (d || false)) || false)) ≡ ((a || b) || d)
      regroup true b d = refl
      regroup false true d = refl
      regroup false false d = or-nothing (d || false) ∙ or-nothing d

  pub known_layers-edge : (n : List ℕ) → list_any (same_name n) (insert_key same_name c.layers edge.layer) ≡ list_any (same_name n) (layer_names (c.accepted ++ x ∷ []))
  known_layers-edge n =
      insert_key-has c.layers edge.layer n
      ∙ (ap (λ t. t || same_name n edge.layer) (h.known_layers n)
      ∙ sym (ap (list_any (same_name n)) (flat_map-last (λ y. layers_in (entity_of y)) c.accepted x ∙ ap (λ e. layer_names c.accepted ++ layers_in e) own)
      ∙ (list_any-append (same_name n) (layer_names c.accepted) (edge.layer ∷ []) ∙ ap (λ t. list_any (same_name n) (layer_names c.accepted) || t) (or-nothing (same_name n edge.layer)))))

  node_events-same : node_events (c.accepted ++ x ∷ []) ≡ node_events c.accepted
  node_events-same = filter-append (λ y. is_node (entity_of y)) c.accepted (x ∷ []) ∙ (ap (λ e. node_events c.accepted ++ cond (is_node e) (x ∷ []) []) own ∙ append-nil (node_events c.accepted))

  edge_events-more : edge_events (c.accepted ++ x ∷ []) ≡ edge_events c.accepted ++ x ∷ []
  edge_events-more = filter-append (λ y. not (is_node (entity_of y))) c.accepted (x ∷ []) ∙ ap (λ e. edge_events c.accepted ++ cond (not (is_node e)) (x ∷ []) []) own

  pub node_types-edge : (key : List ℕ) → type_in c.node_keys key ≡ kept_type (node_events (c.accepted ++ x ∷ [])) key
  node_types-edge key = h.node_types key ∙ sym (ap (λ ys. kept_type ys key) node_events-same)

  pub edge_types-edge : (key : List ℕ) → type_in (with_keys c.edge_keys props) key ≡ kept_type (edge_events (c.accepted ++ x ∷ [])) key
  edge_types-edge key =
      type_in-with_keys c.edge_keys props key
      ∙ (ap (λ o. option_or o (first_type key props)) (h.edge_types key)
      ∙ sym (ap (λ ys. kept_type ys key) edge_events-more
      ∙ (ap (λ ps. option_map value_type (prop_value key ps)) (flat_map-last props_of (edge_events c.accepted) x)
      ∙ (prop_value-append key (properties_of (edge_events c.accepted)) (props_of x)
      ∙ ap (λ ps. option_or (kept_type (edge_events c.accepted) key) (first_type key ps)) set))))

  pub nodes_told-edge : TellEvents (key_name c.node_keys) (length c.node_keys) (node_entities nodes_after) updates_after (c.accepted ++ x ∷ [])
  nodes_told-edge =
      TellEvents-other (key_name c.node_keys) (length c.node_keys) (node_entities nodes_after) updates_after c.accepted x
      (λ i lt e. let k : entity_at (node_entities nodes_after) i ≡ Node (name_at nodes_after i) = get_or-map Node nodes_after i [] (Node []) (rw length-map at lt) in cc)
      (TellEvents-names_node (key_name c.node_keys) (length c.node_keys) (insert_key same_name c.nodes edge.src) (with_history c.nodes edge.src node_updates) c.accepted edge.dst
      (λ e. unnamed c node_updates edge_updates h edge.dst (or_parts (list_any (same_name edge.dst) c.nodes) (same_name edge.dst edge.src) (sym (insert_key-has c.nodes edge.src edge.dst) ∙ e)).0)
      (TellEvents-names_node (key_name c.node_keys) (length c.node_keys) c.nodes node_updates c.accepted edge.src (unnamed c node_updates edge_updates h edge.src) h.nodes_told))

  pub nodes_arrived-edge : all_arrived (key_name c.node_keys) (node_entities nodes_after) updates_after ≡ all_arrived (key_name c.node_keys) (node_entities c.nodes) node_updates
  nodes_arrived-edge =
      all_arrived-names_node (key_name c.node_keys) (insert_key same_name c.nodes edge.src) (with_history c.nodes edge.src node_updates) edge.dst
      (TellEvents-names_node (key_name c.node_keys) (length c.node_keys) c.nodes node_updates c.accepted edge.src (unnamed c node_updates edge_updates h edge.src) h.nodes_told).lengths
      ∙ all_arrived-names_node (key_name c.node_keys) c.nodes node_updates edge.src h.nodes_told.lengths

  abbrev pub layers_after : List (List ℕ)
  layers_after = insert_key same_name c.layers edge.layer

  -- numbers keep their names
  pub more_nodes : length c.nodes ≤ length nodes_after
  more_nodes = let a = length-insert_key c.nodes edge.src in let b = length-insert_key (insert_key same_name c.nodes edge.src) edge.dst in omega (arith, a, b)

  pub name_at-after : (i : ℕ) → i < length c.nodes → name_at nodes_after i ≡ name_at c.nodes i
  name_at-after i lt =
      let a = length-insert_key c.nodes edge.src in
      name_at-insert (insert_key same_name c.nodes edge.src) edge.dst i (omega (arith, a)) ∙ name_at-insert c.nodes edge.src i lt

  edges-same : edge_entities nodes_after layers_after c.edges ≡ edge_entities c.nodes c.layers c.edges
  edges-same = edge_entities-same c.nodes nodes_after c.layers layers_after c.edges name_at-after (name_at-insert c.layers edge.layer) h.within

  within-old : (e : ℕ) → e < length c.edges → ((parts_at c.edges e).src < length nodes_after) × ((parts_at c.edges e).dst < length nodes_after) × ((parts_at c.edges e).layer < length layers_after)
  within-old e lt =
      let w = h.within e lt in
      let src = w.0 in let dst = w.1 in let layer = w.2 in let nodes = more_nodes in let layers = length-insert_key c.layers edge.layer in
      (omega arith, omega arith, omega arith)

  -- the edges' histories, by the names of more keys
  edges_before : TellEvents (key_name (with_keys c.edge_keys props)) (length (with_keys c.edge_keys props)) (edge_entities c.nodes c.layers c.edges) edge_updates c.accepted
  edges_before =
      TellEvents-keys (key_name c.edge_keys) (key_name (with_keys c.edge_keys props)) (length c.edge_keys) (length (with_keys c.edge_keys props)) (key_name-with_keys c.edge_keys props) (length-with_keys c.edge_keys props)
      (edge_entities c.nodes c.layers c.edges) edge_updates c.accepted h.edges_told

  -- what had arrived
  before_is : by_arrival (all_arrived (key_name c.node_keys) (node_entities nodes_after) updates_after ++ all_arrived (key_name (with_keys c.edge_keys props)) (edge_entities c.nodes c.layers c.edges) edge_updates) ≡ c.accepted
  before_is =
      ap (λ xs. by_arrival (xs ++ all_arrived (key_name (with_keys c.edge_keys props)) (edge_entities c.nodes c.layers c.edges) edge_updates)) nodes_arrived-edge
      ∙ (ap (λ xs. by_arrival (all_arrived (key_name c.node_keys) (node_entities c.nodes) node_updates ++ xs))
      (all_arrived-same (key_name c.edge_keys) (key_name (with_keys c.edge_keys props)) (length c.edge_keys) (length (with_keys c.edge_keys props)) (key_name-with_keys c.edge_keys props) (length-with_keys c.edge_keys props) (length c.accepted) (edge_entities c.nodes c.layers c.edges) edge_updates h.edges_told.kept)
      ∙ h.arrived)

  before_below : AllByRecursion (λ (q : ℕ × Event). q.0 < length c.accepted) (all_arrived (key_name c.node_keys) (node_entities nodes_after) updates_after ++ all_arrived (key_name (with_keys c.edge_keys props)) (edge_entities c.nodes c.layers c.edges) edge_updates)
  before_below =
      each_append (λ (q : ℕ × Event). q.0 < length c.accepted) (all_arrived (key_name c.node_keys) (node_entities nodes_after) updates_after) (all_arrived (key_name (with_keys c.edge_keys props)) (edge_entities c.nodes c.layers c.edges) edge_updates)
      (subst (AllByRecursion (λ (q : ℕ × Event). q.0 < length c.accepted)) (sym nodes_arrived-edge) (all_arrived-below (key_name c.node_keys) (length c.node_keys) (length c.accepted) (node_entities c.nodes) node_updates h.nodes_told.kept))
      (all_arrived-below (key_name (with_keys c.edge_keys props)) (length (with_keys c.edge_keys props)) (length c.accepted) (edge_entities c.nodes c.layers c.edges) edge_updates edges_before.kept)

  -- all parts but the edges and their histories
  after : (edges : List EdgeParts) (updates : List (List Update)) (entities : List Entity) → edge_entities nodes_after layers_after edges ≡ entities
      → HasOneMore (length c.accepted, x) (all_arrived (key_name (with_keys c.edge_keys props)) (edge_entities c.nodes c.layers c.edges) edge_updates) (all_arrived (key_name (with_keys c.edge_keys props)) entities updates)
      → TellEvents (key_name (with_keys c.edge_keys props)) (length (with_keys c.edge_keys props)) entities updates (c.accepted ++ x ∷ [])
      → ((e : EdgeName) → list_any (same_entity (Edge e)) entities ≡ list_any (is_about (Edge e)) (c.accepted ++ x ∷ []))
      → ((e : ℕ) → e < length edges → ((parts_at edges e).src < length nodes_after) × ((parts_at edges e).dst < length nodes_after) × ((parts_at edges e).layer < length layers_after))
      → AreContents (record c { accepted = c.accepted ++ x ∷ []; nodes = nodes_after; layers = layers_after; edge_keys = with_keys c.edge_keys props; edges = edges }) updates_after updates
  after edges updates entities are one tells known within = record {
    arrived = subst (λ es. by_arrival (all_arrived (key_name c.node_keys) (node_entities nodes_after) updates_after ++ all_arrived (key_name (with_keys c.edge_keys props)) es updates) ≡ c.accepted ++ x ∷ []) (sym are)
        (arrived_more c.accepted x _ _ (one_more-behind (length c.accepted, x) _ _ (all_arrived (key_name c.node_keys) (node_entities nodes_after) updates_after) one) before_below before_is);
    nodes_told = nodes_told-edge;
    edges_told = subst (λ es. TellEvents (key_name (with_keys c.edge_keys props)) (length (with_keys c.edge_keys props)) es updates (c.accepted ++ x ∷ [])) (sym are) tells;
    known_nodes = known_nodes-edge;
    known_layers = known_layers-edge;
    known_kinds = h.known_kinds;
    known_edges = λ e. ap (list_any (same_entity (Edge e))) are ∙ known e;
    node_types = node_types-edge;
    edge_types = edge_types-edge;
    within = within;
  }

  module _ (u : Update) (told : event_told (entity_of x) (key_name (with_keys c.edge_keys props)) u ≡ x)
      (new : IsStoredUpdate (entity_of x) (length (with_keys c.edge_keys props)) (length (c.accepted ++ x ∷ [])) u) (last : u.arrival ≡ length c.accepted) where
    at_last : ◌≡◌ {A = ℕ × Event} (u.arrival, event_told (entity_of x) (key_name (with_keys c.edge_keys props)) u) (length c.accepted, x)
    at_last = λ k. (last k, told k)

    -- a known edge takes the event into its history
    pub AreContents-known_edge : (i : ℕ) → i < length c.edges → edge_name c.nodes c.layers (parts_at c.edges i) ≡ edge
        → AreContents (record c { accepted = c.accepted ++ x ∷ []; nodes = nodes_after; layers = layers_after; edge_keys = with_keys c.edge_keys props }) updates_after (slice_set edge_updates i (placed u (updates_of_number edge_updates i)))
    AreContents-known_edge i lt named_so =
        let in_entities : i < length (edge_entities c.nodes c.layers c.edges) = rw length-map lt in
        let at = λ (d : Entity). get_or-map (λ (p : EdgeParts). Edge (edge_name c.nodes c.layers p)) c.edges i (record { src = 0; dst = 0; layer = 0 }) d lt ∙ (ap Edge named_so ∙ sym own) in
        let one : HasOneMore (u.arrival, event_told (entity_of x) (key_name (with_keys c.edge_keys props)) u) (arrived (entity_of x) (key_name (with_keys c.edge_keys props)) (updates_of_number edge_updates i)) (arrived (entity_of x) (key_name (with_keys c.edge_keys props)) (placed u (updates_of_number edge_updates i))) =
        one_more-map (λ (v : Update). (v.arrival, event_told (entity_of x) (key_name (with_keys c.edge_keys props)) v)) u (updates_of_number edge_updates i) (placed u (updates_of_number edge_updates i)) (one_more-put update_cmp u (updates_of_number edge_updates i)) in
        after c.edges (slice_set edge_updates i (placed u (updates_of_number edge_updates i))) (edge_entities c.nodes c.layers c.edges) edges-same
        (subst (λ q. HasOneMore q (all_arrived (key_name (with_keys c.edge_keys props)) (edge_entities c.nodes c.layers c.edges) edge_updates) (all_arrived (key_name (with_keys c.edge_keys props)) (edge_entities c.nodes c.layers c.edges) (slice_set edge_updates i (placed u (updates_of_number edge_updates i))))) at_last
        (all_arrived-set (key_name (with_keys c.edge_keys props)) (edge_entities c.nodes c.layers c.edges) edge_updates i (placed u (updates_of_number edge_updates i)) (entity_of x) (u.arrival, event_told (entity_of x) (key_name (with_keys c.edge_keys props)) u) edges_before.lengths (subst (λ k. i < k) edges_before.lengths in_entities) (at (entity_of x)) one))
        (TellEvents-known (key_name (with_keys c.edge_keys props)) (length (with_keys c.edge_keys props)) (edge_entities c.nodes c.layers c.edges) edge_updates c.accepted x i u in_entities (at (Node [])) told new edges_before)
        (λ e. or-absorbed (list_any (same_entity (Edge e)) (edge_entities c.nodes c.layers c.edges)) (is_about (Edge e) x)
        (λ s. list_any-place (same_entity (Edge e)) (edge_entities c.nodes c.layers c.edges) i (Node []) in_entities (ap (same_entity (Edge e)) (at (Node [])) ∙ s))
        ∙ (ap (λ t. t || is_about (Edge e) x) (h.known_edges e)
        ∙ sym (list_any-append (is_about (Edge e)) c.accepted (x ∷ []) ∙ ap (λ t. list_any (is_about (Edge e)) c.accepted || t) (or-nothing (is_about (Edge e) x)))))
        within-old

    -- a new edge begins its history with the event
    pub AreContents-new_edge : (parts : EdgeParts) → edge_name nodes_after layers_after parts ≡ edge → parts.src < length nodes_after → parts.dst < length nodes_after → parts.layer < length layers_after
        → list_any (same_entity (Edge edge)) (edge_entities c.nodes c.layers c.edges) ≡ false
        → AreContents (record c { accepted = c.accepted ++ x ∷ []; nodes = nodes_after; layers = layers_after; edge_keys = with_keys c.edge_keys props; edges = c.edges ++ parts ∷ [] }) updates_after (edge_updates ++ (u ∷ []) ∷ [])
    AreContents-new_edge parts named_so src dst layer absent =
        let entities : edge_entities nodes_after layers_after (c.edges ++ parts ∷ []) ≡ edge_entities c.nodes c.layers c.edges ++ entity_of x ∷ [] =
        map-append (λ (p : EdgeParts). Edge (edge_name nodes_after layers_after p)) c.edges (parts ∷ [])
        ∙ (ap (λ es. es ++ Edge (edge_name nodes_after layers_after parts) ∷ []) edges-same
        ∙ ap (λ w. edge_entities c.nodes c.layers c.edges ++ w ∷ []) (ap Edge named_so ∙ sym own)) in
        after (c.edges ++ parts ∷ []) (edge_updates ++ (u ∷ []) ∷ []) (edge_entities c.nodes c.layers c.edges ++ entity_of x ∷ []) entities
        (subst (λ q. HasOneMore q (all_arrived (key_name (with_keys c.edge_keys props)) (edge_entities c.nodes c.layers c.edges) edge_updates) (all_arrived (key_name (with_keys c.edge_keys props)) (edge_entities c.nodes c.layers c.edges ++ entity_of x ∷ []) (edge_updates ++ (u ∷ []) ∷ []))) at_last
        (record {
          front = all_arrived (key_name (with_keys c.edge_keys props)) (edge_entities c.nodes c.layers c.edges) edge_updates;
          back = [];
          was = sym (append-nil (all_arrived (key_name (with_keys c.edge_keys props)) (edge_entities c.nodes c.layers c.edges) edge_updates));
          is = all_arrived-push (key_name (with_keys c.edge_keys props)) (edge_entities c.nodes c.layers c.edges) edge_updates (entity_of x) (u ∷ []) edges_before.lengths;
        }))
        (TellEvents-new (key_name (with_keys c.edge_keys props)) (length (with_keys c.edge_keys props)) (edge_entities c.nodes c.layers c.edges) edge_updates c.accepted x u
        (λ i lt e. true≢false (sym (list_any-place (same_entity (Edge edge)) (edge_entities c.nodes c.layers c.edges) i (Node []) lt (ap (same_entity (Edge edge)) (e ∙ own) ∙ same_entity-refl (Edge edge))) ∙ absent))
        (ap (λ w. about w (arrange c.accepted)) own ∙ (about-arrange (Edge edge) c.accepted ∙ ap arrange (filter_none (is_about (Edge edge)) c.accepted (each_fails (is_about (Edge edge)) c.accepted (sym (h.known_edges edge) ∙ absent)))))
        told new edges_before)
        (λ e.
        list_any-append (same_entity (Edge e)) (edge_entities c.nodes c.layers c.edges) (entity_of x ∷ [])
        ∙ (ap (λ t. t || (same_entity (Edge e) (entity_of x) || false)) (h.known_edges e)
        ∙ sym (list_any-append (is_about (Edge e)) c.accepted (x ∷ []))))
        (λ e lt. ⊎_elim
        (λ (old : e < length c.edges). subst (λ (p : EdgeParts). (p.src < length nodes_after) × (p.dst < length nodes_after) × (p.layer < length layers_after)) (sym (get_or-append c.edges (parts ∷ []) (record { src = 0; dst = 0; layer = 0 }) e old)) (within-old e old))
        (λ (high : length c.edges ≤ e).
        let at_end : e ≡ length c.edges = let more = length_push c.edges parts in omega arith in
        subst (λ k. ((parts_at (c.edges ++ parts ∷ []) k).src < length nodes_after) × ((parts_at (c.edges ++ parts ∷ []) k).dst < length nodes_after) × ((parts_at (c.edges ++ parts ∷ []) k).layer < length layers_after)) (sym at_end)
        (subst (λ (p : EdgeParts). (p.src < length nodes_after) × (p.dst < length nodes_after) × (p.layer < length layers_after)) (sym (get_or-append_seam c.edges parts [] (record { src = 0; dst = 0; layer = 0 }))) (src, dst, layer)))
        (cases_lt e (length c.edges)))
