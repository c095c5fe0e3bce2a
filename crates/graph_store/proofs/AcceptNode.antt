-- A store that accepts an update of a node.
use Rattle.std.proofs.Common.{not, append_assoc, ◌≡◌, ℕ, suc, ℤ, ◌<◌, ◌≤◌, List, [], ◌∷◌, ◌++◌, Bool, true, false, cond, ◌||◌, Some, length, refl, sym, ap, ◌∙◌, arith, subst, append-nil}
use Rattle.std.specs.Prelude.{is_some, option_map}
use Rattle.std.specs.Option.{option_or}
use Rattle.std.specs.List.{list_any, filter, flat_map, find, AllByRecursion}
use Rattle.std.proofs.lemmas.List.{get_or-map, length-map, map-append, length_push}
use Rattle.std.proofs.lemmas.Bool.{true≢false, or_parts, or_left, false_from_ne_true}
use Rattle.world_laws.proofs.Listed.{about-arrange}
use Rattle.std.specs.Prelude.{slice_set}
use Rattle.std.proofs.lemmas.List.Folds.{list_any-append}
use Rattle.std.proofs.lemmas.List.Elements.{filter-append}
use Rattle.std.proofs.Math.ListN.{get_or-append}
use Rattle.indexmap.specs.IndexSet.{insert_key}
use Rattle.graph_model.specs.declared.properties.Value.{Value}
use Rattle.graph_model.specs.declared.events.EdgeName.{EdgeName}
use Rattle.graph_model.specs.declared.events.Entity.TheVariants.{Node, Edge}
use Rattle.graph_model.specs.declared.events.Event.{Event}
use Rattle.graph_model.specs.Names.{same_name}
use Rattle.graph_model.specs.ValueKind.{value_type}
use Rattle.graph_model.specs.Props.{prop_value}
use Rattle.graph_model.specs.Entity.{entity_of, is_node, is_about, about, same_entity, props_of, involves}
use Rattle.graph_model.specs.World.{names_node, type_of, arrange}
use Rattle.graph_model.specs.Accepting.{kept_type, node_events, edge_events, properties_of, layer_names, layers_in}
use Rattle.world_laws.proofs.Order.{same_name-refl, same_name-exact, same_entity-exact}
use Rattle.world_laws.proofs.Filters.{each_append}
use Rattle.time_history.specs.declared.updates.Update.{Update}
use Rattle.time_history.specs.Updates.{placed, update_cmp}
use Rattle.time_history.specs.Telling.{event_told}
use Rattle.graph_store.specs.Filed.{arrived, all_arrived, by_arrival}
use Rattle.graph_store.proofs.Listed.{list_any-place}
use Rattle.graph_store.proofs.FiledLaws.{HasOneMore, one_more-put, one_more-map, one_more-append, all_arrived-set, all_arrived-push, all_arrived-below, arrived_more}
use Rattle.graph_store.specs.declared.edges.EdgeParts.{EdgeParts}
use Rattle.graph_store.specs.EdgeParts.{parts_at}
use Rattle.graph_store.specs.Keys.{type_in, with_keys, key_name}
use Rattle.graph_store.specs.Telling.{entity_at, updates_of_number, IsStoredUpdate, TellEvents}
use Rattle.graph_store.specs.Contents.{Contents, AreContents, name_at, edge_name, node_entities, edge_entities}
use Rattle.graph_store.specs.WithEvent.{node_event}
use Rattle.graph_store.proofs.KeyLaws.{type_in-with_keys, first_type, key_name-with_keys, length-with_keys}
use Rattle.graph_store.proofs.StoreLaws.{TellEvents-other, TellEvents-keys, TellEvents-known, TellEvents-new, all_arrived-same}
use Rattle.graph_store.proofs.Joined.{or-nothing, or-absorbed, or-swap}

pub flat_map-last : {X A : Type 0} (f : X → List A) (xs : List X) (x : X) → flat_map f (xs ++ x ∷ []) ≡ flat_map f xs ++ f x
flat_map-last f [] x = append-nil (f x)
flat_map-last f (y ∷ xs) x = ap (λ zs. f y ++ zs) (flat_map-last f xs x) ∙ sym (append_assoc (f y) (flat_map f xs) (f x))

pub prop_value-append : (key : List ℕ) (ps qs : List (List ℕ × Value)) → option_map value_type (prop_value key (ps ++ qs)) ≡ option_or (option_map value_type (prop_value key ps)) (option_map value_type (prop_value key qs))
prop_value-append key [] qs = refl
prop_value-append key (p ∷ ps) qs = elim (same_name key p.0) as (λ t. option_map value_type (option_map (λ (q : List ℕ × Value). q.1) (cond t (Some p) (find (λ (q : List ℕ × Value). same_name key q.0) (ps ++ qs)))) ≡ option_or (option_map value_type (option_map (λ (q : List ℕ × Value). q.1) (cond t (Some p) (find (λ (q : List ℕ × Value). same_name key q.0) ps)))) (option_map value_type (prop_value key qs))) [ true ↦ refl | false ↦ prop_value-append key ps qs ]

-- a table with a name, which is new or known, has the names that it had and this one
pub insert_key-has : (names : List (List ℕ)) (name n : List ℕ) → list_any (same_name n) (insert_key same_name names name) ≡ (list_any (same_name n) names || same_name n name)
insert_key-has names name n = known (list_any (same_name name) names) refl
  where
    known : (t : Bool) → list_any (same_name name) names ≡ t → list_any (same_name n) (cond t names (names ++ name ∷ [])) ≡ (list_any (same_name n) names || same_name n name)
    known true e = or-absorbed (list_any (same_name n) names) (same_name n name) (λ s. ap (λ x. list_any (same_name x) names) (same_name-exact n name s) ∙ e)
    known false e = list_any-append (same_name n) names (name ∷ []) ∙ ap (λ t. list_any (same_name n) names || t) (or-nothing (same_name n name))

-- numbers keep their names
pub name_at-insert : (names : List (List ℕ)) (name : List ℕ) (i : ℕ) → i < length names → name_at (insert_key same_name names name) i ≡ name_at names i
name_at-insert names name i lt = elim (list_any (same_name name) names) as (λ t. name_at (cond t names (names ++ name ∷ [])) i ≡ name_at names i) [ true ↦ refl | false ↦ get_or-append names (name ∷ []) [] i lt ]

-- edges keep their names
pub edge_entities-same : (nodes nodes' layers layers' : List (List ℕ)) (edges : List EdgeParts) → ((i : ℕ) → i < length nodes → name_at nodes' i ≡ name_at nodes i) → ((i : ℕ) → i < length layers → name_at layers' i ≡ name_at layers i)
    → ((e : ℕ) → e < length edges → ((parts_at edges e).src < length nodes) × ((parts_at edges e).dst < length nodes) × ((parts_at edges e).layer < length layers))
    → edge_entities nodes' layers' edges ≡ edge_entities nodes layers edges
edge_entities-same nodes nodes' layers layers' [] same_nodes same_layers within = refl
edge_entities-same nodes nodes' layers layers' (p ∷ edges) same_nodes same_layers within =
    let w = within 0 (omega arith) in
    let s = same_nodes p.src w.0 in
    let d = same_nodes p.dst w.1 in
    let l = same_layers p.layer w.2 in
    let first : Edge (edge_name nodes' layers' p) ≡ Edge (edge_name nodes layers p) = λ k. Edge (record { src = s k; dst = d k; layer = l k }) in
    ap (λ e. e ∷ edge_entities nodes' layers' edges) first
    ∙ ap (λ es. Edge (edge_name nodes layers p) ∷ es) (edge_entities-same nodes nodes' layers layers' edges same_nodes same_layers (λ e lt. within (suc e) (omega arith)))

-- a node's entity has the node's name
pub node_named : (nodes : List (List ℕ)) (i : ℕ) (name : List ℕ) → i < length nodes → entity_at (node_entities nodes) i ≡ Node name → name_at nodes i ≡ name
node_named nodes i name lt e = let k : entity_at (node_entities nodes) i ≡ Node (name_at nodes i) = get_or-map Node nodes i [] (Node []) lt in cc

filter_none : (name : List ℕ) (ys : List Event) → names_node ys name ≡ false → filter (is_about (Node name)) ys ≡ []
filter_none name [] e = refl
filter_none name (y ∷ ys) e =
    let parts = or_parts (involves name (entity_of y)) (names_node ys name) e in
    ap (λ t. cond t (y ∷ filter (is_about (Node name)) ys) (filter (is_about (Node name)) ys)) (false_from_ne_true (is_about (Node name) y) (λ s. true≢false (sym (ap (involves name) (sym (same_entity-exact (Node name) (entity_of y) s)) ∙ or_left (same_name name name) false (same_name-refl name)) ∙ parts.0)))
    ∙ filter_none name ys parts.1

-- a node that no event names has no event
pub about_none : (name : List ℕ) (ys : List Event) → names_node ys name ≡ false → about (Node name) (arrange ys) ≡ []
about_none name ys e = about-arrange (Node name) ys ∙ ap arrange (filter_none name ys e)

-- a new node is none of those that are there
pub new_apart : (nodes : List (List ℕ)) (name : List ℕ) → list_any (same_name name) nodes ≡ false → (i : ℕ) → i < length (node_entities nodes) → entity_at (node_entities nodes) i ≡ Node name → ⊥
new_apart nodes name absent i lt e = true≢false (sym (list_any-place (same_name name) nodes i [] (rw length-map at lt) (subst (λ m. same_name name m ≡ true) (sym (node_named nodes i name (rw length-map at lt) e)) (same_name-refl name))) ∙ absent)

-- a node that has no number is in no event
pub unnamed : (c : Contents) (node_updates edge_updates : List (List Update)) → AreContents c node_updates edge_updates → (name : List ℕ) → list_any (same_name name) c.nodes ≡ false → names_node c.accepted name ≡ false
unnamed c node_updates edge_updates h name e = (or_parts (names_node c.accepted name) (is_some (type_of c.types name)) (sym (h.known_nodes name) ∙ e)).0

module _ (c : Contents) (node_updates edge_updates : List (List Update)) (h : AreContents c node_updates edge_updates) (time : ℤ) (order : ℕ) (name : List ℕ) (props : List (List ℕ × Value)) where
  pub known_nodes-node : (n : List ℕ) → list_any (same_name n) (insert_key same_name c.nodes name) ≡ (names_node (c.accepted ++ node_event time order name props ∷ []) n || is_some (type_of c.types n))
  known_nodes-node n =
      insert_key-has c.nodes name n
      ∙ (ap (λ t. t || same_name n name) (h.known_nodes n)
      ∙ (or-swap (names_node c.accepted n) (is_some (type_of c.types n)) (same_name n name)
      ∙ sym (ap (λ t. t || is_some (type_of c.types n)) (list_any-append (λ y. involves n (entity_of y)) c.accepted (node_event time order name props ∷ []) ∙ ap (λ t. names_node c.accepted n || t) (or-nothing (same_name n name || false) ∙ or-nothing (same_name n name))))))

  pub known_layers-node : (n : List ℕ) → list_any (same_name n) c.layers ≡ list_any (same_name n) (layer_names (c.accepted ++ node_event time order name props ∷ []))
  known_layers-node n = h.known_layers n ∙ sym (ap (list_any (same_name n)) (flat_map-last (λ y. layers_in (entity_of y)) c.accepted (node_event time order name props) ∙ append-nil (layer_names c.accepted)))

  pub node_types-node : (key : List ℕ) → type_in (with_keys c.node_keys props) key ≡ kept_type (node_events (c.accepted ++ node_event time order name props ∷ [])) key
  node_types-node key =
      type_in-with_keys c.node_keys props key
      ∙ (ap (λ o. option_or o (first_type key props)) (h.node_types key)
      ∙ sym (ap (λ ys. option_map value_type (prop_value key (properties_of ys))) (filter-append (λ y. is_node (entity_of y)) c.accepted (node_event time order name props ∷ []))
      ∙ (ap (λ ps. option_map value_type (prop_value key ps)) (flat_map-last props_of (node_events c.accepted) (node_event time order name props))
      ∙ prop_value-append key (properties_of (node_events c.accepted)) props)))

  pub edge_types-node : (key : List ℕ) → type_in c.edge_keys key ≡ kept_type (edge_events (c.accepted ++ node_event time order name props ∷ [])) key
  edge_types-node key = h.edge_types key ∙ sym (ap (λ ys. kept_type ys key) (filter-append (λ y. not (is_node (entity_of y))) c.accepted (node_event time order name props ∷ []) ∙ append-nil (edge_events c.accepted)))

  edges-same : edge_entities (insert_key same_name c.nodes name) c.layers c.edges ≡ edge_entities c.nodes c.layers c.edges
  edges-same = edge_entities-same c.nodes (insert_key same_name c.nodes name) c.layers c.layers c.edges (name_at-insert c.nodes name) (λ i lt. refl) h.within

  pub known_edges-node : (edge : EdgeName) → list_any (same_entity (Edge edge)) (edge_entities (insert_key same_name c.nodes name) c.layers c.edges) ≡ list_any (is_about (Edge edge)) (c.accepted ++ node_event time order name props ∷ [])
  known_edges-node edge =
      ap (list_any (same_entity (Edge edge))) edges-same
      ∙ (h.known_edges edge
      ∙ sym (list_any-append (is_about (Edge edge)) c.accepted (node_event time order name props ∷ []) ∙ or-nothing (list_any (is_about (Edge edge)) c.accepted)))

  pub edges_told-node : TellEvents (key_name c.edge_keys) (length c.edge_keys) (edge_entities (insert_key same_name c.nodes name) c.layers c.edges) edge_updates (c.accepted ++ node_event time order name props ∷ [])
  edges_told-node =
      subst (λ es. TellEvents (key_name c.edge_keys) (length c.edge_keys) es edge_updates (c.accepted ++ node_event time order name props ∷ [])) (sym edges-same)
      (TellEvents-other (key_name c.edge_keys) (length c.edge_keys) (edge_entities c.nodes c.layers c.edges) edge_updates c.accepted (node_event time order name props) no_node h.edges_told)
    where
      no_node : (i : ℕ) → i < length (edge_entities c.nodes c.layers c.edges) → entity_at (edge_entities c.nodes c.layers c.edges) i ≡ Node name → ⊥
      no_node i lt e =
          let k : entity_at (edge_entities c.nodes c.layers c.edges) i ≡ Edge (edge_name c.nodes c.layers (parts_at c.edges i)) = get_or-map (λ (p : EdgeParts). Edge (edge_name c.nodes c.layers p)) c.edges i (record { src = 0; dst = 0; layer = 0 }) (Node []) (rw length-map at lt) in
          cc

  module _ (u : Update) (told : event_told (Node name) (key_name (with_keys c.node_keys props)) u ≡ node_event time order name props)
      (new : IsStoredUpdate (Node name) (length (with_keys c.node_keys props)) (length (c.accepted ++ node_event time order name props ∷ [])) u) (last : u.arrival ≡ length c.accepted) where
    names : ℕ → List ℕ
    names = key_name (with_keys c.node_keys props)

    -- the nodes' histories, by the names of more keys
    nodes_before : TellEvents (key_name (with_keys c.node_keys props)) (length (with_keys c.node_keys props)) (node_entities c.nodes) node_updates c.accepted
    nodes_before =
        TellEvents-keys (key_name c.node_keys) (key_name (with_keys c.node_keys props)) (length c.node_keys) (length (with_keys c.node_keys props)) (key_name-with_keys c.node_keys props) (length-with_keys c.node_keys props)
        (node_entities c.nodes) node_updates c.accepted h.nodes_told

    -- what had arrived
    before_is : by_arrival (all_arrived (key_name (with_keys c.node_keys props)) (node_entities c.nodes) node_updates ++ all_arrived (key_name c.edge_keys) (edge_entities c.nodes c.layers c.edges) edge_updates) ≡ c.accepted
    before_is =
        ap (λ xs. by_arrival (xs ++ all_arrived (key_name c.edge_keys) (edge_entities c.nodes c.layers c.edges) edge_updates))
        (all_arrived-same (key_name c.node_keys) (key_name (with_keys c.node_keys props)) (length c.node_keys) (length (with_keys c.node_keys props)) (key_name-with_keys c.node_keys props) (length-with_keys c.node_keys props) (length c.accepted) (node_entities c.nodes) node_updates h.nodes_told.kept)
        ∙ h.arrived

    before_below : AllByRecursion (λ (q : ℕ × Event). q.0 < length c.accepted) (all_arrived (key_name (with_keys c.node_keys props)) (node_entities c.nodes) node_updates ++ all_arrived (key_name c.edge_keys) (edge_entities c.nodes c.layers c.edges) edge_updates)
    before_below =
        each_append (λ (q : ℕ × Event). q.0 < length c.accepted) (all_arrived (key_name (with_keys c.node_keys props)) (node_entities c.nodes) node_updates) (all_arrived (key_name c.edge_keys) (edge_entities c.nodes c.layers c.edges) edge_updates)
        (all_arrived-below (key_name (with_keys c.node_keys props)) (length (with_keys c.node_keys props)) (length c.accepted) (node_entities c.nodes) node_updates nodes_before.kept)
        (all_arrived-below (key_name c.edge_keys) (length c.edge_keys) (length c.accepted) (edge_entities c.nodes c.layers c.edges) edge_updates h.edges_told.kept)

    at_last : ◌≡◌ {A = ℕ × Event} (u.arrival, event_told (Node name) (key_name (with_keys c.node_keys props)) u) (length c.accepted, node_event time order name props)
    at_last = λ k. (last k, told k)

    -- all parts but the nodes and their histories
    after : (nodes : List (List ℕ)) (updates : List (List Update)) → insert_key same_name c.nodes name ≡ nodes
        → by_arrival (all_arrived (key_name (with_keys c.node_keys props)) (node_entities nodes) updates ++ all_arrived (key_name c.edge_keys) (edge_entities c.nodes c.layers c.edges) edge_updates) ≡ c.accepted ++ node_event time order name props ∷ []
        → TellEvents (key_name (with_keys c.node_keys props)) (length (with_keys c.node_keys props)) (node_entities nodes) updates (c.accepted ++ node_event time order name props ∷ [])
        → length c.nodes ≤ length nodes
        → AreContents (record c { accepted = c.accepted ++ node_event time order name props ∷ []; nodes = nodes; node_keys = with_keys c.node_keys props }) updates edge_updates
    after nodes updates is arrives tells more = record {
      arrived = subst (λ es. by_arrival (all_arrived (key_name (with_keys c.node_keys props)) (node_entities nodes) updates ++ all_arrived (key_name c.edge_keys) es edge_updates) ≡ c.accepted ++ node_event time order name props ∷ []) (sym (subst (λ ns. edge_entities ns c.layers c.edges ≡ edge_entities c.nodes c.layers c.edges) is edges-same)) arrives;
      nodes_told = tells;
      edges_told = subst (λ ns. TellEvents (key_name c.edge_keys) (length c.edge_keys) (edge_entities ns c.layers c.edges) edge_updates (c.accepted ++ node_event time order name props ∷ [])) is edges_told-node;
      known_nodes = λ n. subst (λ ns. list_any (same_name n) ns ≡ (names_node (c.accepted ++ node_event time order name props ∷ []) n || is_some (type_of c.types n))) is (known_nodes-node n);
      known_layers = known_layers-node;
      known_kinds = h.known_kinds;
      known_edges = λ edge. subst (λ ns. list_any (same_entity (Edge edge)) (edge_entities ns c.layers c.edges) ≡ list_any (is_about (Edge edge)) (c.accepted ++ node_event time order name props ∷ [])) is (known_edges-node edge);
      node_types = node_types-node;
      edge_types = edge_types-node;
      within = λ e lt. let w = h.within e lt in let src = w.0 in let dst = w.1 in (omega arith, omega arith, w.2);
    }

    -- a known node takes the update into its history
    pub AreContents-known_node : (i : ℕ) → i < length c.nodes → name_at c.nodes i ≡ name
        → AreContents (record c { accepted = c.accepted ++ node_event time order name props ∷ []; node_keys = with_keys c.node_keys props }) (slice_set node_updates i (placed u (updates_of_number node_updates i))) edge_updates
    AreContents-known_node i lt here =
        let in_entities : i < length (node_entities c.nodes) = rw length-map lt in
        let at : entity_at (node_entities c.nodes) i ≡ Node name = get_or-map Node c.nodes i [] (Node []) lt ∙ ap Node here in
        let one : HasOneMore (u.arrival, event_told (Node name) (key_name (with_keys c.node_keys props)) u) (arrived (Node name) (key_name (with_keys c.node_keys props)) (updates_of_number node_updates i)) (arrived (Node name) (key_name (with_keys c.node_keys props)) (placed u (updates_of_number node_updates i))) =
        one_more-map (λ (v : Update). (v.arrival, event_told (Node name) (key_name (with_keys c.node_keys props)) v)) u (updates_of_number node_updates i) (placed u (updates_of_number node_updates i)) (one_more-put update_cmp u (updates_of_number node_updates i)) in
        after c.nodes (slice_set node_updates i (placed u (updates_of_number node_updates i)))
        (ap (λ t. cond t c.nodes (c.nodes ++ name ∷ [])) (list_any-place (same_name name) c.nodes i [] lt (ap (same_name name) here ∙ same_name-refl name)))
        (arrived_more c.accepted (node_event time order name props) _ _
        (one_more-append (length c.accepted, node_event time order name props) _ _ (all_arrived (key_name c.edge_keys) (edge_entities c.nodes c.layers c.edges) edge_updates)
        (subst (λ q. HasOneMore q (all_arrived (key_name (with_keys c.node_keys props)) (node_entities c.nodes) node_updates) (all_arrived (key_name (with_keys c.node_keys props)) (node_entities c.nodes) (slice_set node_updates i (placed u (updates_of_number node_updates i))))) at_last
        (all_arrived-set (key_name (with_keys c.node_keys props)) (node_entities c.nodes) node_updates i (placed u (updates_of_number node_updates i)) (Node name) (u.arrival, event_told (Node name) (key_name (with_keys c.node_keys props)) u) nodes_before.lengths (subst (λ k. i < k) nodes_before.lengths in_entities) (get_or-map Node c.nodes i [] (Node name) lt ∙ ap Node here) one)))
        before_below before_is)
        (TellEvents-known (key_name (with_keys c.node_keys props)) (length (with_keys c.node_keys props)) (node_entities c.nodes) node_updates c.accepted (node_event time order name props) i u in_entities at told new nodes_before)
        (omega arith)

    -- a new node begins its history with the update
    pub AreContents-new_node : list_any (same_name name) c.nodes ≡ false
        → AreContents (record c { accepted = c.accepted ++ node_event time order name props ∷ []; nodes = c.nodes ++ name ∷ []; node_keys = with_keys c.node_keys props }) (node_updates ++ (u ∷ []) ∷ []) edge_updates
    AreContents-new_node absent =
        let entities : node_entities (c.nodes ++ name ∷ []) ≡ node_entities c.nodes ++ Node name ∷ [] = map-append Node c.nodes (name ∷ []) in
        let more = length_push c.nodes name in
        after (c.nodes ++ name ∷ []) (node_updates ++ (u ∷ []) ∷ [])
        (ap (λ t. cond t c.nodes (c.nodes ++ name ∷ [])) absent)
        (arrived_more c.accepted (node_event time order name props) _ _
        (one_more-append (length c.accepted, node_event time order name props) _ _ (all_arrived (key_name c.edge_keys) (edge_entities c.nodes c.layers c.edges) edge_updates)
        (subst (λ q. HasOneMore q (all_arrived (key_name (with_keys c.node_keys props)) (node_entities c.nodes) node_updates) (all_arrived (key_name (with_keys c.node_keys props)) (node_entities (c.nodes ++ name ∷ [])) (node_updates ++ (u ∷ []) ∷ []))) at_last
        (record {
          front = all_arrived (key_name (with_keys c.node_keys props)) (node_entities c.nodes) node_updates;
          back = [];
          was = sym (append-nil (all_arrived (key_name (with_keys c.node_keys props)) (node_entities c.nodes) node_updates));
          is = ap (λ es. all_arrived (key_name (with_keys c.node_keys props)) es (node_updates ++ (u ∷ []) ∷ [])) entities ∙ all_arrived-push (key_name (with_keys c.node_keys props)) (node_entities c.nodes) node_updates (Node name) (u ∷ []) nodes_before.lengths;
        })))
        before_below before_is)
        (subst (λ es. TellEvents (key_name (with_keys c.node_keys props)) (length (with_keys c.node_keys props)) es (node_updates ++ (u ∷ []) ∷ []) (c.accepted ++ node_event time order name props ∷ [])) (sym entities)
        (TellEvents-new (key_name (with_keys c.node_keys props)) (length (with_keys c.node_keys props)) (node_entities c.nodes) node_updates c.accepted (node_event time order name props) u
        (new_apart c.nodes name absent)
        (about_none name c.accepted (unnamed c node_updates edge_updates h name absent)) told new nodes_before))
        (omega arith)
