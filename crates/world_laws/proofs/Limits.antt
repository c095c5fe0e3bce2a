-- What is counted of events and types, and the limits that are not passed.
use Rattle.std.proofs.Common.{◌≡◌, ℕ, ◌≤◌, Bool, true, false, not, List, [], ◌∷◌, ◌++◌, cond, length, map, None, refl, sym, ◌∙◌, ap, subst, arith, nat_lt}
use Rattle.std.specs.List.{filter, list_any, flat_map, AllByRecursion}
use Rattle.std.proofs.lemmas.Bool.{not-true, cond_both, or_left, or_right}
use Rattle.std.proofs.lemmas.Bool.Decides.{nat_tests}
use Rattle.std.proofs.lemmas.List.{length-append, map-append}
use Rattle.std.proofs.lemmas.List.Folds.{list_any-append}
use Rattle.std.proofs.lemmas.Map.Made.{length-le_from_is_member}
use Rattle.std.specs.declared.cmp.Ordering.TheVariants.{Equal}
use Rattle.graph_model.specs.declared.properties.Value.{Value}
use Rattle.graph_model.specs.declared.events.Event.{Event}
use Rattle.graph_model.specs.Names.{name_cmp, same_name, name_total, name_equiv}
use Rattle.graph_model.specs.Entity.{entity_of, is_node, names_in, props_of}
use Rattle.graph_model.specs.Rising.{rising, Rises}
use Rattle.graph_model.specs.Accepting.{Quantity, Events, Nodes, Layers, NodeKeys, EdgeKeys, Types, all_quantities, count_of, limit_of, distinct, node_events, edge_events, properties_of, key_names, node_names, layer_names, layers_in, type_names, is_over, passed_limit}
use Rattle.world_laws.specs.Storable.{AreWithinLimits}
use Rattle.world_laws.proofs.DistinctRising.{distinct_rising}
use Rattle.world_laws.proofs.Filters.{each_weaker, each_append, each_two, each_kept, kept_pass}
use Rattle.world_laws.proofs.Members.{each_at}
use Rattle.world_laws.proofs.Order.{name_exact, same_name-refl}
use Rattle.world_laws.proofs.ListParts.{each_front, none_found}
use Rattle.world_laws.proofs.RisingItems.{any_rising, Rises-rising}

-- ---- names in lists

-- a name is in a list
abbrev pub IsIn : List (List ℕ) → List ℕ → Type 0
IsIn names n = list_any (same_name n) names ≡ true

-- each name of a list is in another
abbrev pub Among : List (List ℕ) → List (List ℕ) → Type 0
Among ms ns = AllByRecursion (IsIn ns) ms

pub in_front : (ms ns : List (List ℕ)) (n : List ℕ) → IsIn ms n → IsIn (ms ++ ns) n
in_front ms ns n h = list_any-append (same_name n) ms ns ∙ or_left (list_any (same_name n) ms) (list_any (same_name n) ns) h

pub in_back : (ms ns : List (List ℕ)) (n : List ℕ) → IsIn ns n → IsIn (ms ++ ns) n
in_back ms ns n h = list_any-append (same_name n) ms ns ∙ or_right (list_any (same_name n) ms) (list_any (same_name n) ns) h

pub among_own : (ns : List (List ℕ)) → Among ns ns
among_own [] = tt
among_own (n ∷ ns) = (or_left (same_name n n) (list_any (same_name n) ns) (same_name-refl n), each_weaker (IsIn ns) (IsIn (n ∷ ns)) (λ m h. in_back (n ∷ []) ns m h) ns (among_own ns))

name_ties : (n x y : List ℕ) → name_cmp x y ≡ Equal → same_name n x ≡ same_name n y
name_ties n x y e = ap (same_name n) (name_exact x y e)

-- names that rise and are all in a list are no more than its distinct names
pub rising_fewer : (ms ns : List (List ℕ)) → Rises name_cmp ms → Among ms ns → length ms ≤ distinct ns
rising_fewer ms ns rise h = length-le_from_is_member name_equiv ms (rising name_cmp ns) (distinct_rising name_cmp ms rise)
    (λ n k. any_rising name_cmp (same_name n) (name_ties n) ns ∙ each_at (IsIn ns) n ms h k)

pub distinct_fewer : (ms ns : List (List ℕ)) → Among ms ns → distinct ms ≤ distinct ns
distinct_fewer ms ns h = length-le_from_is_member name_equiv (rising name_cmp ms) (rising name_cmp ns) (distinct_rising name_cmp (rising name_cmp ms) (Rises-rising name_cmp name_total ms))
    (λ n k. any_rising name_cmp (same_name n) (name_ties n) ns ∙ each_at (IsIn ns) n ms h (sym (any_rising name_cmp (same_name n) (name_ties n) ms) ∙ k))

-- ---- events and types whose names and keys others have

-- the names and keys of an event are those of events
pub record IsOf (xs : List Event) (y : Event) : Type 0 where
  pub nodes : Among (names_in (entity_of y)) (flat_map (λ (x : Event). names_in (entity_of x)) xs)
  pub layers : Among (layers_in (entity_of y)) (layer_names xs)
  pub node_keys : is_node (entity_of y) ≡ true → AllByRecursion (λ (p : List ℕ × Value). IsIn (key_names (node_events xs)) p.0) (props_of y)
  pub edge_keys : is_node (entity_of y) ≡ false → AllByRecursion (λ (p : List ℕ × Value). IsIn (key_names (edge_events xs)) p.0) (props_of y)

-- the names of a type are those of types
abbrev pub IsTypeOf : List (List ℕ × List ℕ) → List ℕ × List ℕ → Type 0
IsTypeOf ts t = IsIn (map (λ (s : List ℕ × List ℕ). s.0) ts) t.0 × IsIn (type_names ts) t.1

-- the keys of one event more
each_key : (ps : List (List ℕ × Value)) → AllByRecursion (λ (p : List ℕ × Value). IsIn (map (λ (q : List ℕ × Value). q.0) ps) p.0) ps
each_key [] = tt
each_key (p ∷ ps) = (
  or_left (same_name p.0 p.0) (list_any (same_name p.0) (map (λ (q : List ℕ × Value). q.0) ps)) (same_name-refl p.0),
  each_weaker (λ (q : List ℕ × Value). IsIn (map (λ (r : List ℕ × Value). r.0) ps) q.0) (λ (q : List ℕ × Value). IsIn (map (λ (r : List ℕ × Value). r.0) (p ∷ ps)) q.0)
      (λ q h. in_back (p.0 ∷ []) (map (λ (r : List ℕ × Value). r.0) ps) q.0 h) ps (each_key ps),
)

key_front : (x : Event) (xs : List Event) (n : List ℕ) → IsIn (map (λ (q : List ℕ × Value). q.0) (props_of x)) n → IsIn (key_names (x ∷ xs)) n
key_front x xs n h = ap (list_any (same_name n)) (map-append (λ (q : List ℕ × Value). q.0) (props_of x) (properties_of xs)) ∙ in_front (map (λ (q : List ℕ × Value). q.0) (props_of x)) (key_names xs) n h

key_back : (x : Event) (xs : List Event) (n : List ℕ) → IsIn (key_names xs) n → IsIn (key_names (x ∷ xs)) n
key_back x xs n h = ap (list_any (same_name n)) (map-append (λ (q : List ℕ × Value). q.0) (props_of x) (properties_of xs)) ∙ in_back (map (λ (q : List ℕ × Value). q.0) (props_of x)) (key_names xs) n h

key_kept : (t : Event → Bool) (x : Event) (xs : List Event) (n : List ℕ) → IsIn (key_names (filter t xs)) n → IsIn (key_names (filter t (x ∷ xs))) n
key_kept t x xs n h = cond_both (t x) (x ∷ filter t xs) (filter t xs) (λ ys. IsIn (key_names ys) n) (λ e. key_back x (filter t xs) n h) (λ e. h)

key_own : (t : Event → Bool) (x : Event) (xs : List Event) (n : List ℕ) → t x ≡ true → IsIn (map (λ (q : List ℕ × Value). q.0) (props_of x)) n → IsIn (key_names (filter t (x ∷ xs))) n
key_own t x xs n e h = subst (λ b. IsIn (key_names (cond b (x ∷ filter t xs) (filter t xs))) n) (sym e) (key_front x (filter t xs) n h)

IsOf-more : (x : Event) (xs : List Event) (y : Event) → IsOf xs y → IsOf (x ∷ xs) y
IsOf-more x xs y h = record {
  nodes = each_weaker (IsIn (flat_map (λ (z : Event). names_in (entity_of z)) xs)) (IsIn (flat_map (λ (z : Event). names_in (entity_of z)) (x ∷ xs))) (λ n k. in_back (names_in (entity_of x)) (flat_map (λ (z : Event). names_in (entity_of z)) xs) n k) (names_in (entity_of y)) h.nodes;
  layers = each_weaker (IsIn (layer_names xs)) (IsIn (layer_names (x ∷ xs))) (λ n k. in_back (layers_in (entity_of x)) (layer_names xs) n k) (layers_in (entity_of y)) h.layers;
  node_keys = λ e. each_weaker (λ (p : List ℕ × Value). IsIn (key_names (node_events xs)) p.0) (λ (p : List ℕ × Value). IsIn (key_names (node_events (x ∷ xs))) p.0) (λ p k. key_kept (λ (z : Event). is_node (entity_of z)) x xs p.0 k) (props_of y) (h.node_keys e);
  edge_keys = λ e. each_weaker (λ (p : List ℕ × Value). IsIn (key_names (edge_events xs)) p.0) (λ (p : List ℕ × Value). IsIn (key_names (edge_events (x ∷ xs))) p.0) (λ p k. key_kept (λ (z : Event). not (is_node (entity_of z))) x xs p.0 k) (props_of y) (h.edge_keys e);
}

IsOf-own : (x : Event) (xs : List Event) → IsOf (x ∷ xs) x
IsOf-own x xs = record {
  nodes = each_weaker (IsIn (names_in (entity_of x))) (IsIn (flat_map (λ (z : Event). names_in (entity_of z)) (x ∷ xs))) (λ n k. in_front (names_in (entity_of x)) (flat_map (λ (z : Event). names_in (entity_of z)) xs) n k) (names_in (entity_of x)) (among_own (names_in (entity_of x)));
  layers = each_weaker (IsIn (layers_in (entity_of x))) (IsIn (layer_names (x ∷ xs))) (λ n k. in_front (layers_in (entity_of x)) (layer_names xs) n k) (layers_in (entity_of x)) (among_own (layers_in (entity_of x)));
  node_keys = λ e. each_weaker (λ (p : List ℕ × Value). IsIn (map (λ (q : List ℕ × Value). q.0) (props_of x)) p.0) (λ (p : List ℕ × Value). IsIn (key_names (node_events (x ∷ xs))) p.0) (λ p k. key_own (λ (z : Event). is_node (entity_of z)) x xs p.0 e k) (props_of x) (each_key (props_of x));
  edge_keys = λ e. each_weaker (λ (p : List ℕ × Value). IsIn (map (λ (q : List ℕ × Value). q.0) (props_of x)) p.0) (λ (p : List ℕ × Value). IsIn (key_names (edge_events (x ∷ xs))) p.0) (λ p k. key_own (λ (z : Event). not (is_node (entity_of z))) x xs p.0 (ap not e) k) (props_of x) (each_key (props_of x));
}

pub each_own : (xs : List Event) → AllByRecursion (IsOf xs) xs
each_own [] = tt
each_own (x ∷ xs) = (IsOf-own x xs, each_weaker (IsOf xs) (IsOf (x ∷ xs)) (λ y h. IsOf-more x xs y h) xs (each_own xs))

pub each_own_type : (ts : List (List ℕ × List ℕ)) → AllByRecursion (IsTypeOf ts) ts
each_own_type [] = tt
each_own_type (t ∷ ts) = (
  (or_left (same_name t.0 t.0) (list_any (same_name t.0) (map (λ (s : List ℕ × List ℕ). s.0) ts)) (same_name-refl t.0), or_left (same_name t.1 t.1) (list_any (same_name t.1) (type_names ts)) (same_name-refl t.1)),
  each_weaker (IsTypeOf ts) (IsTypeOf (t ∷ ts)) (λ s h. (in_back (t.0 ∷ []) (map (λ (u : List ℕ × List ℕ). u.0) ts) s.0 h.0, in_back (t.1 ∷ []) (type_names ts) s.1 h.1)) ts (each_own_type ts),
)

each_flat : {X : Type 0} (f : X → List (List ℕ)) (ns : List (List ℕ)) (ys : List X) → AllByRecursion (λ y. Among (f y) ns) ys → Among (flat_map f ys) ns
each_flat f ns [] h = tt
each_flat f ns (y ∷ ys) h = each_append (IsIn ns) (f y) (flat_map f ys) h.0 (each_flat f ns ys h.1)

pub each_mapped : {X : Type 0} (f : X → List ℕ) (ns : List (List ℕ)) (ys : List X) → AllByRecursion (λ y. IsIn ns (f y)) ys → Among (map f ys) ns
each_mapped f ns [] h = tt
each_mapped f ns (y ∷ ys) h = (h.0, each_mapped f ns ys h.1)

each_prop : (P : List ℕ × Value → Type 0) (ys : List Event) → AllByRecursion (λ y. AllByRecursion P (props_of y)) ys → AllByRecursion P (properties_of ys)
each_prop P [] h = tt
each_prop P (y ∷ ys) h = each_append P (props_of y) (properties_of ys) h.0 (each_prop P ys h.1)

-- no more is counted of events and types whose names and keys others have
pub count_fewer : (k : Quantity) (xs : List Event) (ss : List (List ℕ × List ℕ)) (ys : List Event) (ts : List (List ℕ × List ℕ)) → length ys ≤ length xs → AllByRecursion (IsOf xs) ys → AllByRecursion (IsTypeOf ss) ts
    → count_of k ys ts ≤ count_of k xs ss
count_fewer Events xs ss ys ts few each types = few
count_fewer Nodes xs ss ys ts few each types =
    let names : Event → List (List ℕ) = λ (x : Event). names_in (entity_of x) in
    let nodes : List (List ℕ × List ℕ) → List (List ℕ) = λ us. map (λ (t : List ℕ × List ℕ). t.0) us in
    distinct_fewer (node_names ys ts) (node_names xs ss)
    (each_append (IsIn (node_names xs ss)) (flat_map names ys) (nodes ts)
    (each_weaker (IsIn (flat_map names xs)) (IsIn (node_names xs ss)) (λ n h. in_front (flat_map names xs) (nodes ss) n h) (flat_map names ys)
    (each_flat names (flat_map names xs) ys (each_weaker (IsOf xs) (λ y. Among (names y) (flat_map names xs)) (λ y h. h.nodes) ys each)))
    (each_weaker (IsIn (nodes ss)) (IsIn (node_names xs ss)) (λ n h. in_back (flat_map names xs) (nodes ss) n h) (nodes ts)
    (each_mapped (λ (t : List ℕ × List ℕ). t.0) (nodes ss) ts (each_weaker (IsTypeOf ss) (λ t. IsIn (nodes ss) t.0) (λ t h. h.0) ts types))))
count_fewer Layers xs ss ys ts few each types =
    distinct_fewer (layer_names ys) (layer_names xs)
    (each_flat (λ (y : Event). layers_in (entity_of y)) (layer_names xs) ys (each_weaker (IsOf xs) (λ y. Among (layers_in (entity_of y)) (layer_names xs)) (λ y h. h.layers) ys each))
count_fewer NodeKeys xs ss ys ts few each types =
    distinct_fewer (key_names (node_events ys)) (key_names (node_events xs))
    (each_mapped (λ (p : List ℕ × Value). p.0) (key_names (node_events xs)) (properties_of (node_events ys))
    (each_prop (λ (p : List ℕ × Value). IsIn (key_names (node_events xs)) p.0) (node_events ys)
    (each_two (IsOf xs) (λ (y : Event). is_node (entity_of y) ≡ true) (λ (y : Event). AllByRecursion (λ (p : List ℕ × Value). IsIn (key_names (node_events xs)) p.0) (props_of y)) (λ y h e. h.node_keys e)
    (node_events ys) (each_kept (IsOf xs) (λ (y : Event). is_node (entity_of y)) ys each) (kept_pass (λ (y : Event). is_node (entity_of y)) ys))))
count_fewer EdgeKeys xs ss ys ts few each types =
    distinct_fewer (key_names (edge_events ys)) (key_names (edge_events xs))
    (each_mapped (λ (p : List ℕ × Value). p.0) (key_names (edge_events xs)) (properties_of (edge_events ys))
    (each_prop (λ (p : List ℕ × Value). IsIn (key_names (edge_events xs)) p.0) (edge_events ys)
    (each_two (IsOf xs) (λ (y : Event). not (is_node (entity_of y)) ≡ true) (λ (y : Event). AllByRecursion (λ (p : List ℕ × Value). IsIn (key_names (edge_events xs)) p.0) (props_of y)) (λ y h e. h.edge_keys (not-true (is_node (entity_of y)) e))
    (edge_events ys) (each_kept (IsOf xs) (λ (y : Event). not (is_node (entity_of y))) ys each) (kept_pass (λ (y : Event). not (is_node (entity_of y))) ys))))
count_fewer Types xs ss ys ts few each types =
    distinct_fewer (type_names ts) (type_names ss)
    (each_mapped (λ (t : List ℕ × List ℕ). t.1) (type_names ss) ts (each_weaker (IsTypeOf ss) (λ t. IsIn (type_names ss) t.1) (λ t h. h.1) ts types))

-- ---- limits

pub within_fewer : (xs : List Event) (ss : List (List ℕ × List ℕ)) (ys : List Event) (ts : List (List ℕ × List ℕ)) → AreWithinLimits xs ss → length ys ≤ length xs → AllByRecursion (IsOf xs) ys → AllByRecursion (IsTypeOf ss) ts → AreWithinLimits ys ts
within_fewer xs ss ys ts within few each types k = let fewer = count_fewer k xs ss ys ts few each types in let limit = within k in omega (arith, fewer, limit)

-- the front of events and of types
pub within_front : (xs ys : List Event) (ss ts : List (List ℕ × List ℕ)) → AreWithinLimits (xs ++ ys) (ss ++ ts) → AreWithinLimits xs ss
within_front xs ys ss ts within =
    let size = length-append xs ys in
    within_fewer (xs ++ ys) (ss ++ ts) xs ss within (omega (arith, size)) (each_front (IsOf (xs ++ ys)) xs ys (each_own (xs ++ ys))) (each_front (IsTypeOf (ss ++ ts)) ss ts (each_own_type (ss ++ ts)))

within_limit : (m n : ℕ) → n ≤ m → nat_lt m n ≡ false
within_limit m n h = grind (arith, nat_tests, h)

-- then no limit is passed
pub passed_none : (xs : List Event) (ts : List (List ℕ × List ℕ)) → AreWithinLimits xs ts → passed_limit xs ts ≡ None
passed_none xs ts h =
    rw (
      within_limit (limit_of Events) (count_of Events xs ts) (h Events),
      within_limit (limit_of Nodes) (count_of Nodes xs ts) (h Nodes),
      within_limit (limit_of Layers) (count_of Layers xs ts) (h Layers),
      within_limit (limit_of NodeKeys) (count_of NodeKeys xs ts) (h NodeKeys),
      within_limit (limit_of EdgeKeys) (count_of EdgeKeys xs ts) (h EdgeKeys),
      within_limit (limit_of Types) (count_of Types xs ts) (h Types),
    ) refl

not_over : (m n : ℕ) → nat_lt m n ≡ false → n ≤ m
not_over m n h = grind (arith, nat_tests, h)

-- where no limit is passed, the counts are within the limits
pub within_passed : (xs : List Event) (ts : List (List ℕ × List ℕ)) → passed_limit xs ts ≡ None → AreWithinLimits xs ts
within_passed xs ts e = by (none_found (is_over xs ts) all_quantities e)
  where
    by : AllByRecursion (λ k. is_over xs ts k ≡ false) all_quantities → AreWithinLimits xs ts
    by h Events = not_over (limit_of Events) (count_of Events xs ts) h.0
    by h Nodes = not_over (limit_of Nodes) (count_of Nodes xs ts) h.1.0
    by h Layers = not_over (limit_of Layers) (count_of Layers xs ts) h.1.1.0
    by h NodeKeys = not_over (limit_of NodeKeys) (count_of NodeKeys xs ts) h.1.1.1.0
    by h EdgeKeys = not_over (limit_of EdgeKeys) (count_of EdgeKeys xs ts) h.1.1.1.1.0
    by h Types = not_over (limit_of Types) (count_of Types xs ts) h.1.1.1.1.1.0
