-- How a store's tables judge an event.
use Rattle.std.proofs.Common.{◌≡◌, ℕ, ℤ, pos, ◌+◌, ◌<◌, ◌≤◌, List, [], ◌∷◌, ◌++◌, Bool, true, false, not, cond, ◌||◌, Option, Some, None, length, map, refl, sym, ap, ◌∙◌, arith, subst}
use Rattle.std.specs.Prelude.{is_some, option_map, nat_lt, MatchOption}
use Rattle.std.specs.Option.{option_map_or, option_or}
use Rattle.std.specs.List.{list_any, find, flat_map, IsDistinct}
use Rattle.std.specs.Ordering.{is_eq}
use Rattle.std.specs.declared.cmp.Ordering.TheVariants.{Less}
use Rattle.std.proofs.Math.Bool.{or_assoc}
use Rattle.std.proofs.lemmas.List.Folds.{list_any-append}
use Rattle.std.proofs.lemmas.List.{map-append, length-map, get_or-map, length_push}
use Rattle.std.proofs.lemmas.Bool.{or_from, or_right, false_from_ne_true, true≢false, ltb-true}
use Rattle.std.proofs.lemmas.Map.Keys.{IsDistinct-push, IsDistinct-cons, IsDistinct-from_apart}
use Rattle.std.proofs.lemmas.Map.Made.{length-from_same_keys}
use Rattle.indexmap.specs.IndexSet.{insert_key}
use Rattle.graph_model.specs.declared.properties.Value.{Value}
use Rattle.graph_model.specs.declared.properties.Value.TheVariants.{Int}
use Rattle.graph_model.specs.declared.properties.ValueType.{ValueType}
use Rattle.graph_model.specs.declared.events.EdgeName.{EdgeName}
use Rattle.graph_model.specs.declared.events.Entity.TheVariants.{Edge}
use Rattle.graph_model.specs.declared.events.Event.{Event}
use Rattle.graph_model.specs.declared.events.What.TheVariants.{Node as NodeUpdate}
use Rattle.graph_model.specs.Names.{name_cmp, same_name, name_total, name_equiv}
use Rattle.graph_model.specs.Rising.{rising, Rises}
use Rattle.graph_model.specs.ValueKind.{value_type, same_value_type}
use Rattle.graph_model.specs.Props.{prop_value}
use Rattle.graph_model.specs.declared.events.Model.{Model}
use Rattle.graph_model.specs.Entity.{entity_of, is_node, subject, props_of, names_in}
use Rattle.graph_model.specs.Refusal.{Deletion, KeyType, Retype, Limit}
use Rattle.graph_model.specs.World.{names_node, type_of, allows}
use Rattle.graph_model.specs.Accepting.{Quantity, Events, Nodes, Layers, NodeKeys, EdgeKeys, Types, count_of, distinct, kept_type, node_events, edge_events, properties_of, key_names, node_names, layer_names, type_names, is_of_other_type, is_over, alike, mistyped, all_quantities, limit_of, passed_limit, event_refusal, is_other_type, type_refusal}
use Rattle.graph_model.specs.Limits.{most_events, most_nodes, most_layers, most_keys, most_types}
use Rattle.world_laws.proofs.Order.{same_name-exact, same_name-refl, name_exact}
use Rattle.world_laws.proofs.Filters.{each_weaker}
use Rattle.world_laws.proofs.Members.{any_flat_map}
use Rattle.world_laws.proofs.RisingItems.{any_rising, Rises-rising}
use Rattle.time_history.specs.declared.updates.Update.{Update}
use Rattle.graph_store.specs.declared.judging.Count.{Count}
use Rattle.graph_store.specs.declared.judging.StoreRefusal.TheVariants.{Limit as TooMany}
use Rattle.graph_store.specs.declared.judging.Totals.{Totals}
use Rattle.graph_store.specs.Keys.{type_in, with_key, with_keys, prop_at, clashes, IsClash}
use Rattle.graph_store.specs.Refusals.{quantity_of, total_of, is_above, IsMistyped, IsRefusal, IsTypeRefusal}
use Rattle.graph_store.specs.Contents.{Contents, AreContents}
use Rattle.graph_store.proofs.Listed.{list_any-place}
use Rattle.graph_store.proofs.KeyLaws.{type_in-with_keys, first_type}
use Rattle.graph_store.specs.WithEvent.{node_event}
use Rattle.graph_store.proofs.AcceptNode.{insert_key-has, known_nodes-node, known_layers-node, node_types-node, edge_types-node}
use Rattle.graph_store.proofs.AcceptEdge.{known_nodes-edge, known_layers-edge, node_types-edge, edge_types-edge}
use Rattle.graph_store.proofs.Joined.{or-nothing}

-- names that rise strictly are distinct
pub rises_distinct : (xs : List (List ℕ)) → Rises name_cmp xs → IsDistinct same_name xs
rises_distinct [] h = IsDistinct-from_apart same_name [] (λ i j d lt in_range. absurd (omega arith))
rises_distinct (x ∷ xs) h = IsDistinct-cons same_name x xs (each_weaker (λ y. name_cmp x y ≡ Less) (λ y. same_name x y ≡ false) (λ y e. ap is_eq e) xs h.0) (rises_distinct xs h.1)

-- distinct names are as many as the distinct names of a list with the same names
pub count_is : (names others : List (List ℕ)) → IsDistinct same_name names → ((n : List ℕ) → list_any (same_name n) names ≡ list_any (same_name n) others) → length names ≡ distinct others
count_is names others once same =
    length-from_same_keys name_equiv names (rising name_cmp others) once (rises_distinct (rising name_cmp others) (Rises-rising name_cmp name_total others))
    (λ n. same n ∙ sym (any_rising name_cmp (same_name n) (λ x y e. ap (same_name n) (name_exact x y e)) others))

-- a table and events have a key where they have a type for it
pub known_key : (keys : List (List ℕ × ValueType)) (key : List ℕ) → is_some (type_in keys key) ≡ list_any (same_name key) (map (λ (p : List ℕ × ValueType). p.0) keys)
known_key [] key = refl
known_key (k ∷ keys) key = elim (same_name key k.0) as (λ t. is_some (cond t (Some k.1) (type_in keys key)) ≡ (t || list_any (same_name key) (map (λ (p : List ℕ × ValueType). p.0) keys))) [ true ↦ refl | false ↦ known_key keys key ]

given_key : (ps : List (List ℕ × Value)) (key : List ℕ) → is_some (option_map value_type (prop_value key ps)) ≡ list_any (same_name key) (map (λ (p : List ℕ × Value). p.0) ps)
given_key [] key = refl
given_key (p ∷ ps) key =
    elim (same_name key p.0) as (λ t. is_some (option_map value_type (option_map (λ (q : List ℕ × Value). q.1) (cond t (Some p) (find (λ (q : List ℕ × Value). same_name key q.0) ps)))) ≡ (t || list_any (same_name key) (map (λ (q : List ℕ × Value). q.0) ps))) [ true ↦ refl | false ↦ given_key ps key ]

-- a table that keeps the types of events has the keys that they have
pub same_keys : (keys : List (List ℕ × ValueType)) (xs : List Event) → ((key : List ℕ) → type_in keys key ≡ kept_type xs key) → (key : List ℕ) → list_any (same_name key) (map (λ (p : List ℕ × ValueType). p.0) keys) ≡ list_any (same_name key) (key_names xs)
same_keys keys xs same key = sym (known_key keys key) ∙ (ap is_some (same key) ∙ given_key (properties_of xs) key)

some_or : (o p : Option ValueType) → is_some p ≡ true → is_some (option_or o p) ≡ true
some_or None p h = h
some_or (Some x) p h = refl

-- a table with the keys of properties has each of them
pub known_after : (keys : List (List ℕ × ValueType)) (props : List (List ℕ × Value)) (i : ℕ) → i < length props → is_some (type_in (with_keys keys props) (prop_at props i).0) ≡ true
known_after keys props i lt =
    let key = (prop_at props i).0 in
    ap is_some (type_in-with_keys keys props key)
    ∙ some_or (type_in keys key) (first_type key props)
    (given_key props key
    ∙ list_any-place (same_name key) (map (λ (p : List ℕ × Value). p.0) props) i [] (rw length-map lt)
    (ap (same_name key) (get_or-map (λ (p : List ℕ × Value). p.0) props i ([], Int (pos 0)) [] lt) ∙ same_name-refl key))

-- a table that keeps the types of events has as many keys as they have
pub count_keys : (keys : List (List ℕ × ValueType)) (xs : List Event) → IsDistinct same_name (map (λ (p : List ℕ × ValueType). p.0) keys) → ((key : List ℕ) → type_in keys key ≡ kept_type xs key) → length (map (λ (p : List ℕ × ValueType). p.0) keys) ≡ distinct (key_names xs)
count_keys keys xs once same =
    count_is (map (λ (p : List ℕ × ValueType). p.0) keys) (key_names xs) once (same_keys keys xs same)

-- a table stays distinct where it takes a name or keys
pub distinct-insert : (names : List (List ℕ)) (name : List ℕ) → IsDistinct same_name names → IsDistinct same_name (insert_key same_name names name)
distinct-insert names name once = go (list_any (same_name name) names) refl
  where
    go : (t : Bool) → list_any (same_name name) names ≡ t → IsDistinct same_name (cond t names (names ++ name ∷ []))
    go true e = once
    go false e = IsDistinct-push name_equiv names name once e

distinct-with_key : (keys : List (List ℕ × ValueType)) (p : List ℕ × Value) → IsDistinct same_name (map (λ (k : List ℕ × ValueType). k.0) keys) → IsDistinct same_name (map (λ (k : List ℕ × ValueType). k.0) (with_key keys p))
distinct-with_key keys p once = go (is_some (type_in keys p.0)) refl
  where
    go : (t : Bool) → is_some (type_in keys p.0) ≡ t → IsDistinct same_name (map (λ (k : List ℕ × ValueType). k.0) (cond t keys (keys ++ (p.0, value_type p.1) ∷ [])))
    go true e = once
    go false e =
        subst (IsDistinct same_name) (sym (map-append (λ (k : List ℕ × ValueType). k.0) keys ((p.0, value_type p.1) ∷ [])))
        (IsDistinct-push name_equiv (map (λ (k : List ℕ × ValueType). k.0) keys) p.0 once (sym (known_key keys p.0) ∙ e))

pub distinct-with_keys : (keys : List (List ℕ × ValueType)) (props : List (List ℕ × Value)) → IsDistinct same_name (map (λ (k : List ℕ × ValueType). k.0) keys) → IsDistinct same_name (map (λ (k : List ℕ × ValueType). k.0) (with_keys keys props))
distinct-with_keys keys [] once = once
distinct-with_keys keys (p ∷ props) once = distinct-with_keys (with_key keys p) props (distinct-with_key keys p once)

-- a node has a type where types name it
typed_node : (types : List (List ℕ × List ℕ)) (n : List ℕ) → is_some (type_of types n) ≡ list_any (same_name n) (map (λ (t : List ℕ × List ℕ). t.0) types)
typed_node [] n = refl
typed_node (t ∷ types) n =
    elim (same_name n t.0) as (λ b. is_some (option_map (λ (q : List ℕ × List ℕ). q.1) (cond b (Some t) (find (λ (q : List ℕ × List ℕ). same_name n q.0) types))) ≡ (b || list_any (same_name n) (map (λ (q : List ℕ × List ℕ). q.0) types))) [ true ↦ refl | false ↦ typed_node types n ]

-- events and types name nodes
pub names_of : (xs : List Event) (types : List (List ℕ × List ℕ)) (n : List ℕ) → (names_node xs n || is_some (type_of types n)) ≡ list_any (same_name n) (node_names xs types)
names_of xs types n =
    sym (list_any-append (same_name n) (flat_map (λ x. names_in (entity_of x)) xs) (map (λ (t : List ℕ × List ℕ). t.0) types)
    ∙ (λ k. any_flat_map (same_name n) (λ x. names_in (entity_of x)) xs k || sym (typed_node types n) k))

-- names of types, with a type more
one_more : (f : List ℕ × List ℕ → List ℕ) (types : List (List ℕ × List ℕ)) (t : List ℕ × List ℕ) (n : List ℕ) → list_any (same_name n) (map f (types ++ t ∷ [])) ≡ (list_any (same_name n) (map f types) || same_name n (f t))
one_more f types t n =
    ap (list_any (same_name n)) (map-append f types (t ∷ []))
    ∙ (list_any-append (same_name n) (map f types) (f t ∷ []) ∙ ap (λ b. list_any (same_name n) (map f types) || b) (or-nothing (same_name n (f t))))

-- one list has the first item that passes either of two tests that agree
pub find-same : {X : Type 0} (p q : X → Bool) → ((x : X) → p x ≡ q x) → (xs : List X) → find p xs ≡ find q xs
find-same p q same [] = refl
find-same p q same (x ∷ xs) = ap (λ t. cond t (Some x) (find p xs)) (same x) ∙ ap (cond (q x) (Some x)) (find-same p q same xs)

-- a table that keeps the types of events has a clash where a value is of another type than they keep
pub clash_is : (keys : List (List ℕ × ValueType)) (xs : List Event) → ((key : List ℕ) → type_in keys key ≡ kept_type xs key) → (props : List (List ℕ × Value)) → find (clashes keys) props ≡ find (is_of_other_type xs) props
clash_is keys xs same props =
    find-same (clashes keys) (is_of_other_type xs) (λ p. ap (λ o. option_map_or (λ kept. not (same_value_type kept (value_type p.1))) o false) (same p.0)) props

-- how many names there are with one that is new or known
pub count-known : (names : List (List ℕ)) (name : List ℕ) → list_any (same_name name) names ≡ true → length (insert_key same_name names name) ≡ length names
count-known names name e = ap (λ t. length (cond t names (names ++ name ∷ []))) e

pub count-new : (names : List (List ℕ)) (name : List ℕ) → list_any (same_name name) names ≡ false → length (insert_key same_name names name) ≡ length names + 1
count-new names name e = ap (λ t. length (cond t names (names ++ name ∷ []))) e ∙ length_push names name

-- and with another
pub both-same : (names : List (List ℕ)) (first second : List ℕ) → same_name first second ≡ true → length (insert_key same_name (insert_key same_name names first) second) ≡ length (insert_key same_name names first)
both-same names first second e =
    count-known (insert_key same_name names first) second
    (insert_key-has names first second ∙ or_right (list_any (same_name second) names) (same_name second first) (ap (same_name second) (same_name-exact first second e) ∙ same_name-refl second))

pub both-known : (names : List (List ℕ)) (first second : List ℕ) → list_any (same_name second) names ≡ true → length (insert_key same_name (insert_key same_name names first) second) ≡ length (insert_key same_name names first)
both-known names first second e = count-known (insert_key same_name names first) second (insert_key-has names first second ∙ ap (λ t. t || same_name second first) e)

pub both-new : (names : List (List ℕ)) (first second : List ℕ) → same_name first second ≡ false → list_any (same_name second) names ≡ false → length (insert_key same_name (insert_key same_name names first) second) ≡ length (insert_key same_name names first) + 1
both-new names first second differ e =
    count-new (insert_key same_name names first) second
    (insert_key-has names first second
    ∙ or_from (list_any (same_name second) names) (same_name second first) e
    (false_from_ne_true (same_name second first) (λ s. true≢false (sym (same_name-refl first) ∙ (ap (same_name first) (sym (same_name-exact second first s)) ∙ differ)))))

module _ (c : Contents) (node_updates edge_updates : List (List Update)) (h : AreContents c node_updates edge_updates) (once_nodes : IsDistinct same_name c.nodes) (once_layers : IsDistinct same_name c.layers) (once_kinds : IsDistinct same_name c.kinds)
    (once_node_keys : IsDistinct same_name (map (λ (p : List ℕ × ValueType). p.0) c.node_keys)) (once_edge_keys : IsDistinct same_name (map (λ (p : List ℕ × ValueType). p.0) c.edge_keys)) where
  -- what there would be with an update of a node
  pub totals-node : (time : ℤ) (order : ℕ) (name : List ℕ) (props : List (List ℕ × Value)) (t : Totals) → t.events ≡ length c.accepted + 1 → t.nodes ≡ length (insert_key same_name c.nodes name) → t.layers ≡ length c.layers
      → t.node_keys ≡ length (with_keys c.node_keys props) → t.edge_keys ≡ length c.edge_keys → t.types ≡ length c.kinds → (k : Quantity) → total_of t k ≡ count_of k (c.accepted ++ node_event time order name props ∷ []) c.types
  totals-node time order name props t events nodes layers node_keys edge_keys types Events = events ∙ sym (length_push c.accepted (node_event time order name props))
  totals-node time order name props t events nodes layers node_keys edge_keys types Nodes =
      nodes
      ∙ count_is (insert_key same_name c.nodes name) (node_names (c.accepted ++ node_event time order name props ∷ []) c.types) (distinct-insert c.nodes name once_nodes)
      (λ n. known_nodes-node c node_updates edge_updates h time order name props n ∙ names_of (c.accepted ++ node_event time order name props ∷ []) c.types n)
  totals-node time order name props t events nodes layers node_keys edge_keys types Layers =
      layers ∙ count_is c.layers (layer_names (c.accepted ++ node_event time order name props ∷ [])) once_layers (known_layers-node c node_updates edge_updates h time order name props)
  totals-node time order name props t events nodes layers node_keys edge_keys types NodeKeys =
      node_keys
      ∙ (sym (length-map (with_keys c.node_keys props) (λ (p : List ℕ × ValueType). p.0))
      ∙ count_keys (with_keys c.node_keys props) (node_events (c.accepted ++ node_event time order name props ∷ [])) (distinct-with_keys c.node_keys props once_node_keys) (node_types-node c node_updates edge_updates h time order name props))
  totals-node time order name props t events nodes layers node_keys edge_keys types EdgeKeys =
      edge_keys
      ∙ (sym (length-map c.edge_keys (λ (p : List ℕ × ValueType). p.0))
      ∙ count_keys c.edge_keys (edge_events (c.accepted ++ node_event time order name props ∷ [])) once_edge_keys (edge_types-node c node_updates edge_updates h time order name props))
  totals-node time order name props t events nodes layers node_keys edge_keys types Types = types ∙ count_is c.kinds (type_names c.types) once_kinds h.known_kinds

  pub totals-update : (x : Event) (name : List ℕ) (props : List (List ℕ × Value)) → x.what ≡ NodeUpdate name props → (t : Totals) → t.events ≡ length c.accepted + 1 → t.nodes ≡ length (insert_key same_name c.nodes name) → t.layers ≡ length c.layers
      → t.node_keys ≡ length (with_keys c.node_keys props) → t.edge_keys ≡ length c.edge_keys → t.types ≡ length c.kinds → (k : Quantity) → total_of t k ≡ count_of k (c.accepted ++ x ∷ []) c.types
  totals-update x name props is t events nodes layers node_keys edge_keys types k =
      totals-node x.time x.order name props t events nodes layers node_keys edge_keys types k
      ∙ sym (ap (λ w. count_of k (c.accepted ++ (record { time = x.time; order = x.order; what = w }) ∷ []) c.types) is)

  -- what there would be with an event of an edge
  pub totals-edge : (x : Event) (edge : EdgeName) (props : List (List ℕ × Value)) → entity_of x ≡ Edge edge → props_of x ≡ props → (t : Totals) → t.events ≡ length c.accepted + 1 → t.nodes ≡ length (insert_key same_name (insert_key same_name c.nodes edge.src) edge.dst)
      → t.layers ≡ length (insert_key same_name c.layers edge.layer) → t.node_keys ≡ length c.node_keys → t.edge_keys ≡ length (with_keys c.edge_keys props) → t.types ≡ length c.kinds → (k : Quantity) → total_of t k ≡ count_of k (c.accepted ++ x ∷ []) c.types
  totals-edge x edge props own set t events nodes layers node_keys edge_keys types Events = events ∙ sym (length_push c.accepted x)
  totals-edge x edge props own set t events nodes layers node_keys edge_keys types Nodes =
      nodes
      ∙ count_is (insert_key same_name (insert_key same_name c.nodes edge.src) edge.dst) (node_names (c.accepted ++ x ∷ []) c.types) (distinct-insert (insert_key same_name c.nodes edge.src) edge.dst (distinct-insert c.nodes edge.src once_nodes))
      (λ n. known_nodes-edge c node_updates edge_updates h x edge props own set n ∙ names_of (c.accepted ++ x ∷ []) c.types n)
  totals-edge x edge props own set t events nodes layers node_keys edge_keys types Layers =
      layers
      ∙ count_is (insert_key same_name c.layers edge.layer) (layer_names (c.accepted ++ x ∷ [])) (distinct-insert c.layers edge.layer once_layers) (known_layers-edge c node_updates edge_updates h x edge props own set)
  totals-edge x edge props own set t events nodes layers node_keys edge_keys types NodeKeys =
      node_keys
      ∙ (sym (length-map c.node_keys (λ (p : List ℕ × ValueType). p.0))
      ∙ count_keys c.node_keys (node_events (c.accepted ++ x ∷ [])) once_node_keys (node_types-edge c node_updates edge_updates h x edge props own set))
  totals-edge x edge props own set t events nodes layers node_keys edge_keys types EdgeKeys =
      edge_keys
      ∙ (sym (length-map (with_keys c.edge_keys props) (λ (p : List ℕ × ValueType). p.0))
      ∙ count_keys (with_keys c.edge_keys props) (edge_events (c.accepted ++ x ∷ [])) (distinct-with_keys c.edge_keys props once_edge_keys) (edge_types-edge c node_updates edge_updates h x edge props own set))
  totals-edge x edge props own set t events nodes layers node_keys edge_keys types Types = types ∙ count_is c.kinds (type_names c.types) once_kinds h.known_kinds

  -- what there would be with a type
  pub totals-type : (node kind : List ℕ) (t : Totals) → t.events ≡ length c.accepted → t.nodes ≡ length (insert_key same_name c.nodes node) → t.layers ≡ length c.layers → t.node_keys ≡ length c.node_keys → t.edge_keys ≡ length c.edge_keys
      → t.types ≡ length (insert_key same_name c.kinds kind) → (k : Quantity) → total_of t k ≡ count_of k c.accepted (c.types ++ (node, kind) ∷ [])
  totals-type node kind t events nodes layers node_keys edge_keys types Events = events
  totals-type node kind t events nodes layers node_keys edge_keys types Nodes =
      nodes
      ∙ count_is (insert_key same_name c.nodes node) (node_names c.accepted (c.types ++ (node, kind) ∷ [])) (distinct-insert c.nodes node once_nodes)
      (λ n. insert_key-has c.nodes node n
      ∙ (ap (λ b. b || same_name n node) (h.known_nodes n)
      ∙ (or_assoc (names_node c.accepted n) (is_some (type_of c.types n)) (same_name n node)
      ∙ (ap (λ b. names_node c.accepted n || b) (ap (λ b. b || same_name n node) (typed_node c.types n) ∙ sym (one_more (λ (u : List ℕ × List ℕ). u.0) c.types (node, kind) n) ∙ sym (typed_node (c.types ++ (node, kind) ∷ []) n))
      ∙ names_of c.accepted (c.types ++ (node, kind) ∷ []) n))))
  totals-type node kind t events nodes layers node_keys edge_keys types Layers = layers ∙ count_is c.layers (layer_names c.accepted) once_layers h.known_layers
  totals-type node kind t events nodes layers node_keys edge_keys types NodeKeys =
      node_keys ∙ (sym (length-map c.node_keys (λ (p : List ℕ × ValueType). p.0)) ∙ count_keys c.node_keys (node_events c.accepted) once_node_keys h.node_types)
  totals-type node kind t events nodes layers node_keys edge_keys types EdgeKeys =
      edge_keys ∙ (sym (length-map c.edge_keys (λ (p : List ℕ × ValueType). p.0)) ∙ count_keys c.edge_keys (edge_events c.accepted) once_edge_keys h.edge_types)
  totals-type node kind t events nodes layers node_keys edge_keys types Types =
      types
      ∙ count_is (insert_key same_name c.kinds kind) (type_names (c.types ++ (node, kind) ∷ [])) (distinct-insert c.kinds kind once_kinds)
      (λ n. insert_key-has c.kinds kind n ∙ (ap (λ b. b || same_name n kind) (h.known_kinds n) ∙ sym (one_more (λ (u : List ℕ × List ℕ). u.1) c.types (node, kind) n)))

-- the first key of another type
pub mistyped_is : (keys : List (List ℕ × ValueType)) (accepted : List Event) (x : Event) (props : List (List ℕ × Value)) → ((key : List ℕ) → type_in keys key ≡ kept_type (alike x accepted) key) → props_of x ≡ props → (r : Option (ValueType × ValueType)) → IsClash keys props r
    → MatchOption r (mistyped accepted x ≡ None) (IsMistyped accepted x)
mistyped_is keys accepted x props same set None h = sym (clash_is keys (alike x accepted) same (props_of x)) ∙ (ap (find (clashes keys)) set ∙ h)
mistyped_is keys accepted x props same set (Some r) h =
    (h.0, sym (clash_is keys (alike x accepted) same (props_of x)) ∙ (ap (find (clashes keys)) set ∙ h.1), sym (same h.0.0) ∙ h.2, h.3)

-- the first limit that is passed is the first of which there are too many
pub first_limit : (t : Totals) (xs : List Event) (types : List (List ℕ × List ℕ)) → ((k : Quantity) → total_of t k ≡ count_of k xs types) → find (is_above t) all_quantities ≡ passed_limit xs types
first_limit t xs types same = find-same (is_above t) (is_over xs types) (λ k. ap (nat_lt (limit_of k)) (same k)) all_quantities

-- an event that the model allows and whose keys keep their types is refused for a limit alone
module _ (model : Model) (accepted : List Event) (types : List (List ℕ × List ℕ)) (x : Event) (allowed : allows model x ≡ true) where
  pub judged : mistyped accepted x ≡ None → (o : Option Quantity) → passed_limit (accepted ++ x ∷ []) types ≡ o → event_refusal model accepted types x ≡ cond (is_some o) (Some Limit) None
  judged typed o e =
      ap (λ t. cond (not t) (Some Deletion) (cond (is_some (mistyped accepted x)) (Some KeyType) (cond (is_some (passed_limit (accepted ++ x ∷ []) types)) (Some Limit) None))) allowed
      ∙ (ap (λ m. cond (is_some m) (Some KeyType) (cond (is_some (passed_limit (accepted ++ x ∷ []) types)) (Some Limit) None)) typed
      ∙ ap (λ m. cond (is_some m) (Some Limit) None) e)

-- the first limit that is passed, or none, is the refusal of an event that the model allows and whose keys keep their types
module _ (model : Model) (accepted : List Event) (types : List (List ℕ × List ℕ)) (x : Event) (allowed : allows model x ≡ true) (typed : mistyped accepted x ≡ None) (t : Totals) (same : (k : Quantity) → total_of t k ≡ count_of k (accepted ++ x ∷ []) types) where
  pub refused-limit : (count : Count) → Some (quantity_of count) ≡ find (is_above t) all_quantities → IsRefusal model accepted types x (TooMany count)
  refused-limit count h =
      let passed : passed_limit (accepted ++ x ∷ []) types ≡ Some (quantity_of count) = sym (first_limit t (accepted ++ x ∷ []) types same) ∙ sym h in
      (judged model accepted types x allowed typed (Some (quantity_of count)) passed, passed)

  pub not-refused : None ≡ find (is_above t) all_quantities → event_refusal model accepted types x ≡ None
  not-refused h = judged model accepted types x allowed typed None (sym (first_limit t (accepted ++ x ∷ []) types same) ∙ sym h)

-- the type of a node is refused where the node has another, or else for a limit
module _ (c : Contents) (node kind : List ℕ) where
  abbrev pub with_this : List (List ℕ × List ℕ)
  with_this = c.types ++ (node, kind) ∷ []

  pub retyped : is_other_type c.types node kind ≡ true → type_refusal c.accepted c.types node kind ≡ Some Retype
  retyped e = ap (λ b. cond b (Some Retype) (cond (is_some (passed_limit c.accepted with_this)) (Some Limit) None)) e

  module _ (own : is_other_type c.types node kind ≡ false) (t : Totals) (same : (k : Quantity) → total_of t k ≡ count_of k c.accepted with_this) where
    type_judged : (o : Option Quantity) → passed_limit c.accepted with_this ≡ o → type_refusal c.accepted c.types node kind ≡ cond (is_some o) (Some Limit) None
    type_judged o e =
        ap (λ b. cond b (Some Retype) (cond (is_some (passed_limit c.accepted with_this)) (Some Limit) None)) own
        ∙ ap (λ m. cond (is_some m) (Some Limit) None) e

    pub type-refused : (count : Count) → Some (quantity_of count) ≡ find (is_above t) all_quantities → IsTypeRefusal c node kind (TooMany count)
    type-refused count e =
        let passed : passed_limit c.accepted with_this ≡ Some (quantity_of count) = sym (first_limit t c.accepted with_this same) ∙ sym e in
        (type_judged (Some (quantity_of count)) passed, passed)

    pub type-not-refused : None ≡ find (is_above t) all_quantities → type_refusal c.accepted c.types node kind ≡ None
    type-not-refused e = type_judged None (sym (first_limit t c.accepted with_this same) ∙ sym e)

-- there are not too many of anything
below_limit : (limit total : ℕ) → total ≤ limit → nat_lt limit total ≡ false
below_limit limit total le = false_from_ne_true (nat_lt limit total) (λ e. let lt = ltb-true limit total e in absurd (omega arith))

pub none_above : (t : Totals) → t.events ≤ most_events → t.nodes ≤ most_nodes → t.layers ≤ most_layers → t.node_keys ≤ most_keys → t.edge_keys ≤ most_keys → t.types ≤ most_types → find (is_above t) all_quantities ≡ None
none_above t events nodes layers node_keys edge_keys types = λ i.
    cond (below_limit most_events t.events events i) (Some Events)
    (cond (below_limit most_nodes t.nodes nodes i) (Some Nodes)
    (cond (below_limit most_layers t.layers layers i) (Some Layers)
    (cond (below_limit most_keys t.node_keys node_keys i) (Some NodeKeys)
    (cond (below_limit most_keys t.edge_keys edge_keys i) (Some EdgeKeys)
    (cond (below_limit most_types t.types types i) (Some Types) None)))))

-- an event's properties, for events alike
pub alike-node : (accepted : List Event) (x : Event) (name : List ℕ) (props : List (List ℕ × Value)) → x.what ≡ NodeUpdate name props → alike x accepted ≡ node_events accepted
alike-node accepted x name props e = ap (λ w. cond (is_node (subject w)) (node_events accepted) (edge_events accepted)) e

pub alike-edge : (accepted : List Event) (x : Event) (edge : EdgeName) → entity_of x ≡ Edge edge → alike x accepted ≡ edge_events accepted
alike-edge accepted x edge e = ap (λ w. cond (is_node w) (node_events accepted) (edge_events accepted)) e
