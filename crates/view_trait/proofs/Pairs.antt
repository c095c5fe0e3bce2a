-- Present edges and pairs, by the numbers of a store.
use Rattle.std.proofs.Common.{◌≡◌, ℕ, zero, suc, ◌+◌, ◌<◌, ◌⊎◌, Bool, true, false, ◌||◌, List, [], ◌∷◌, length, map, get_or, refl, sym, ◌∙◌, ap, subst, arith, inl, inr, eqb}
use Rattle.std.specs.Prelude.{position, Some, None}
use Rattle.std.specs.List.{list_any, AllByRecursion}
use Rattle.std.proofs.lemmas.List.Quantifiers.{position-Some}
use Rattle.std.proofs.lemmas.Bool.{cases_Bool, true≢false, and_parts, and_from, or_left, or_right, or_cases, eqb-true, cond-true, cond-false}
use Rattle.std.proofs.lemmas.Bool.Decides.{nat_tests}
use Rattle.std.proofs.lemmas.List.{get_or-map, length-map}
use Rattle.graph_model.specs.declared.events.EdgeName.{EdgeName}
use Rattle.graph_model.specs.declared.events.Entity.{Entity}
use Rattle.graph_model.specs.declared.events.Entity.TheVariants.{Node, Edge}
use Rattle.graph_model.specs.declared.events.Event.{Event}
use Rattle.graph_model.specs.declared.queries.Direction.TheVariants.{Outward}
use Rattle.graph_model.specs.Names.{same_name}
use Rattle.graph_model.specs.Entity.{same_entity, is_about, entity_of}
use Rattle.graph_model.specs.World.{World, events_of}
use Rattle.graph_model.specs.Presence.{alive_at, edge_present, node_present}
use Rattle.graph_model.specs.Neighbours.{leads}
use Rattle.world_laws.specs.Contacts.{IsEnd}
use Rattle.world_laws.proofs.Filters.{each_weaker, filter_none}
use Rattle.world_laws.proofs.Order.{same_entity-exact, same_name-refl}
use Rattle.world_laws.proofs.Members.{both_true}
use Rattle.world_laws.proofs.Nodes.{neighbours_has, neighbour_words, node_words}
use Rattle.world_laws.proofs.Present.{contact_from_present, present_from_contact}
use Rattle.world_laws.proofs.Reach.{linked}
use Rattle.graph_store.specs.declared.pairs.Ends.{Ends}
use Rattle.graph_store.specs.declared.edges.EdgeParts.{EdgeParts}
use Rattle.graph_store.specs.Places.{places_from, places}
use Rattle.graph_store.specs.Ends.{same_ends, ends_at}
use Rattle.graph_store.specs.EdgeParts.{ends_of, parts_at}
use Rattle.graph_store.specs.PairIndex.{pairs_from, pairs_to}
use Rattle.graph_store.specs.EdgeIndex.{edges_between}
use Rattle.graph_store.specs.Contents.{Contents, name_at, edge_name}
use Rattle.graph_store.specs.Indexed.{IsIndexed}
use Rattle.graph_store.proofs.Listed.{one_place, list_any-place}
use Rattle.graph_store.proofs.Readers.{none_found}
use Rattle.view_trait.specs.Meaning.{IsShown, knows, edge_named}
use Rattle.view_trait.specs.Present.{pair_leads, any_pair_leads}

-- ---- places of items that pass a test

abbrev Place : {X : Type 0} → (X → Bool) → List X → X → Type 0
Place p xs d = (i : ℕ) × (i < length xs) × (p (get_or xs i d) ≡ true)

pub any_place : {X : Type 0} (p : X → Bool) (xs : List X) (d : X) → list_any p xs ≡ true → Place p xs d
any_place p [] d h = absurd (true≢false (sym h))
any_place {X} p (x ∷ xs) d h = first (any_place p xs d) (p x) refl h
  where
    first : (list_any p xs ≡ true → Place p xs d) → (t : Bool) → p x ≡ t → (t || list_any p xs) ≡ true → Place p (x ∷ xs) d
    first later true e k = (0, omega arith, e)
    first later false e k = let r = later k in (suc r.0, let lt = r.1 in omega arith, r.2)

each_first : {X : Type 0} (P : ℕ → Type 0) (test : X → Bool) (i : ℕ) (x : X) (xs : List X) (t : Bool) → test x ≡ t → (test x ≡ true → P i) → AllByRecursion P (places_from (suc i) test xs) → AllByRecursion P (places_from i test (x ∷ xs))
each_first P test i x xs true e h later = subst (AllByRecursion P) (sym (cond-true (test x) _ _ e)) (h e, later)
each_first P test i x xs false e h later = subst (AllByRecursion P) (sym (cond-false (test x) _ _ e)) later

-- what holds at each place
pub each_place_from : {X : Type 0} (P : ℕ → Type 0) (test : X → Bool) (i : ℕ) (xs : List X) (d : X) → ((j : ℕ) → j < length xs → test (get_or xs j d) ≡ true → P (i + j)) → AllByRecursion P (places_from i test xs)
each_place_from P test i [] d h = tt
each_place_from P test i (x ∷ xs) d h =
    each_first P test i x xs (test x) refl (λ e. subst P (let n : i + 0 ≡ i = omega arith in n) (h 0 (omega arith) e))
    (each_place_from P test (suc i) xs d (λ j lt e. subst P (let n : i + suc j ≡ suc i + j = omega arith in n) (h (suc j) (omega arith) e)))

-- a place that passes another test
abbrev Found : {X : Type 0} → (X → Bool) → (ℕ → Bool) → ℕ → List X → X → Type 0
Found test q i xs d = (j : ℕ) × (j < length xs) × (test (get_or xs j d) ≡ true) × (q (i + j) ≡ true)

places_found_from : {X : Type 0} (test : X → Bool) (q : ℕ → Bool) (i : ℕ) (xs : List X) (d : X) → list_any q (places_from i test xs) ≡ true → Found test q i xs d
places_found_from test q i [] d h = absurd (true≢false (sym h))
places_found_from {X} test q i (x ∷ xs) d h = first (places_found_from test q (suc i) xs d) (test x) refl
  where
    moved : Found test q (suc i) xs d → Found test q i (x ∷ xs) d
    moved r = let lt = r.1 in let n : suc i + r.0 ≡ i + suc r.0 = omega arith in (suc r.0, omega arith, r.2, ap q (sym n) ∙ r.3)

    first : (list_any q (places_from (suc i) test xs) ≡ true → Found test q (suc i) xs d) → (t : Bool) → test x ≡ t → Found test q i (x ∷ xs) d
    first later true e = elim (or_cases (q i) (list_any q (places_from (suc i) test xs)) (sym (ap (list_any q) (cond-true (test x) (i ∷ places_from (suc i) test xs) (places_from (suc i) test xs) e)) ∙ h)) [
      | inl a ↦ let n : i + 0 ≡ i = omega arith in (0, omega arith, e, ap q n ∙ a)
      | inr b ↦ moved (later b)
    ]
    first later false e = moved (later (sym (ap (list_any q) (cond-false (test x) (i ∷ places_from (suc i) test xs) (places_from (suc i) test xs) e)) ∙ h))

places_later : {X : Type 0} (test : X → Bool) (q : ℕ → Bool) (i : ℕ) (x : X) (xs : List X) (t : Bool) → test x ≡ t → list_any q (places_from (suc i) test xs) ≡ true → list_any q (places_from i test (x ∷ xs)) ≡ true
places_later test q i x xs true f later = ap (list_any q) (cond-true (test x) (i ∷ places_from (suc i) test xs) (places_from (suc i) test xs) f) ∙ or_right (q i) (list_any q (places_from (suc i) test xs)) later
places_later test q i x xs false f later = ap (list_any q) (cond-false (test x) (i ∷ places_from (suc i) test xs) (places_from (suc i) test xs) f) ∙ later

places_any_from : {X : Type 0} (test : X → Bool) (q : ℕ → Bool) (i j : ℕ) (xs : List X) (d : X) → j < length xs → test (get_or xs j d) ≡ true → q (i + j) ≡ true → list_any q (places_from i test xs) ≡ true
places_any_from test q i j [] d lt e h = absurd (omega arith)
places_any_from test q i zero (x ∷ xs) d lt e h =
    let n : i ≡ i + 0 = omega arith in
    ap (list_any q) (cond-true (test x) (i ∷ places_from (suc i) test xs) (places_from (suc i) test xs) e) ∙ or_left (q i) (list_any q (places_from (suc i) test xs)) (ap q n ∙ h)
places_any_from test q i (suc j) (x ∷ xs) d lt e h =
    places_later test q i x xs (test x) refl (let n : suc i + j ≡ i + suc j = omega arith in places_any_from test q (suc i) j xs d (omega arith) e (ap q n ∙ h))

-- the same, where the first item has the place 0
pub at_zero : (j : ℕ) → 0 + j ≡ j
at_zero j = omega arith

pub each_place : {X : Type 0} (P : ℕ → Type 0) (test : X → Bool) (xs : List X) (d : X) → ((j : ℕ) → j < length xs → test (get_or xs j d) ≡ true → P j) → AllByRecursion P (places test xs)
each_place P test xs d h = each_place_from P test 0 xs d (λ j lt e. subst P (sym (at_zero j)) (h j lt e))

pub places_found : {X : Type 0} (test : X → Bool) (q : ℕ → Bool) (xs : List X) (d : X) → list_any q (places test xs) ≡ true → (j : ℕ) × (j < length xs) × (test (get_or xs j d) ≡ true) × (q j ≡ true)
places_found test q xs d h = let r = places_found_from test q 0 xs d h in (r.0, r.1, r.2, ap q (sym (at_zero r.0)) ∙ r.3)

pub places_any : {X : Type 0} (test : X → Bool) (q : ℕ → Bool) (j : ℕ) (xs : List X) (d : X) → j < length xs → test (get_or xs j d) ≡ true → q j ≡ true → list_any q (places test xs) ≡ true
places_any test q j xs d lt e h = places_any_from test q 0 j xs d lt e (ap q (at_zero j) ∙ h)

-- ---- numbers of present edges

pub unknown_shows_nothing : (c : Contents) (w : World) (x : Entity) → IsShown c w → knows c x ≡ false → events_of w x ≡ []
unknown_shows_nothing c w x h k = filter_none (is_about x) w.events (each_weaker (λ (y : Event). knows c (entity_of y) ≡ true) (λ (y : Event). is_about x y ≡ false) (λ y e. other y (is_about x y) refl e) w.events h.known)
  where
    other : (y : Event) (t : Bool) → is_about x y ≡ t → knows c (entity_of y) ≡ true → is_about x y ≡ false
    other y false f e = f
    other y true f e = absurd (true≢false (sym e ∙ (ap (knows c) (sym (same_entity-exact x (entity_of y) f)) ∙ k)))

abbrev edge_of : Entity → EdgeName → EdgeName
edge_of (Node name) other = other
edge_of (Edge edge) other = edge

pub edge_number : (c : Contents) (edge : EdgeName) → knows c (Edge edge) ≡ true → (e : ℕ) × (e < length c.edges) × (edge_named c e ≡ edge)
edge_number c edge h =
    let f : EdgeParts → Entity = λ (p : EdgeParts). Edge (edge_name c.nodes c.layers p) in
    let blank : EdgeParts = record { src = 0; dst = 0; layer = 0 } in
    let r = any_place (same_entity (Edge edge)) (map f c.edges) (f blank) h in
    let n = length-map c.edges f in
    let lt : r.0 < length c.edges = (let k = r.1 in omega (arith, n)) in
    let same : Edge edge ≡ f (get_or c.edges r.0 blank) = same_entity-exact (Edge edge) (get_or (map f c.edges) r.0 (f blank)) r.2 ∙ get_or-map f c.edges r.0 blank (f blank) lt in
    (r.0, lt, sym (ap (λ e. edge_of e edge) same))

pub present_number : (c : Contents) (w : World) (edge : EdgeName) → IsShown c w → edge_present w edge ≡ true → (e : ℕ) × (e < length c.edges) × (edge_named c e ≡ edge)
present_number c w edge h k = first (knows c (Edge edge)) refl
  where
    first : (t : Bool) → knows c (Edge edge) ≡ t → (e : ℕ) × (e < length c.edges) × (edge_named c e ≡ edge)
    first true e = edge_number c edge e
    first false e = absurd (true≢false (sym k ∙ ap (list_any (λ x. alive_at w edge x.time)) (unknown_shows_nothing c w (Edge edge) h e)))

-- ---- pairs

pub same_number : (c : Contents) (i j : ℕ) → IsIndexed c → i < length c.nodes → j < length c.nodes → name_at c.nodes i ≡ name_at c.nodes j → i ≡ j
same_number c i j h a b e = one_place same_name same_name-refl c.nodes i j [] h.node_names a b e

ends_are : (a b : Ends) → same_ends a b ≡ true → (a.src ≡ b.src) × (a.dst ≡ b.dst)
ends_are a b h = let k = and_parts (eqb a.src b.src) (eqb a.dst b.dst) h in (eqb-true a.src b.src k.0, eqb-true a.dst b.dst k.1)

pub ends_same : (a b : Ends) → a.src ≡ b.src → a.dst ≡ b.dst → same_ends a b ≡ true
ends_same a b p q = and_from (eqb a.src b.src) (eqb a.dst b.dst) (let t : eqb a.src b.src ≡ true = grind (arith, nat_tests, p) in t) (let t : eqb a.dst b.dst ≡ true = grind (arith, nat_tests, q) in t)

leads_by : (w : World) (edge : EdgeName) (a b : List ℕ) → edge_present w edge ≡ true → edge.src ≡ a → edge.dst ≡ b → leads w Outward a b ≡ true
leads_by w edge a b h p q = sym (neighbours_has w Outward a b) ∙ (neighbour_words w a b).1 (edge, h, p, q)

abbrev pub no_parts : EdgeParts
no_parts = record { src = 0; dst = 0; layer = 0 }

abbrev pub no_ends : Ends
no_ends = record { src = 0; dst = 0 }

abbrev edge_shows : Contents → World → ℕ → Bool
edge_shows c w e = edge_present w (edge_named c e)

abbrev between : Ends → EdgeParts → Bool
between ends e = same_ends ends (ends_of e)

pair_there : (c : Contents) (w : World) (ends : Ends) → list_any (edge_shows c w) (edges_between c.edges ends) ≡ true → leads w Outward (name_at c.nodes ends.src) (name_at c.nodes ends.dst) ≡ true
pair_there c w ends k =
    let r = places_found (between ends) (edge_shows c w) c.edges no_parts k in
    let s = ends_are ends (ends_of (parts_at c.edges r.0)) r.2 in
    leads_by w (edge_named c r.0) (name_at c.nodes ends.src) (name_at c.nodes ends.dst) r.3 (ap (name_at c.nodes) (sym s.0)) (ap (name_at c.nodes) (sym s.1))

pair_back : (c : Contents) (w : World) (ends : Ends) → IsShown c w → ends.src < length c.nodes → ends.dst < length c.nodes → leads w Outward (name_at c.nodes ends.src) (name_at c.nodes ends.dst) ≡ true → list_any (edge_shows c w) (edges_between c.edges ends) ≡ true
pair_back c w ends h begin end k =
    let r = linked w (name_at c.nodes ends.src) (name_at c.nodes ends.dst) k in
    let s = present_number c w r.0 h r.1 in
    let in_edges = h.indexed.within s.0 s.1 in
    let src : ends.src ≡ (parts_at c.edges s.0).src = same_number c ends.src (parts_at c.edges s.0).src h.indexed begin in_edges.0 (r.2 ∙ sym (ap (λ (e : EdgeName). e.src) s.2)) in
    let dst : ends.dst ≡ (parts_at c.edges s.0).dst = same_number c ends.dst (parts_at c.edges s.0).dst h.indexed end in_edges.1 (r.3 ∙ sym (ap (λ (e : EdgeName). e.dst) s.2)) in
    places_any (between ends) (edge_shows c w) s.0 c.edges no_parts s.1 (ends_same ends (ends_of (parts_at c.edges s.0)) src dst) (ap (edge_present w) s.2 ∙ r.1)

-- a pair is present where one of its edges is
pub pair_is : (c : Contents) (w : World) (p : ℕ) → IsShown c w → p < length c.pairs → list_any (λ e. edge_present w (edge_named c e)) (edges_between c.edges (ends_at c.pairs p)) ≡ pair_leads c w p
pair_is c w p h lt =
    let within = h.indexed.pairs_within p lt in
    both_true (list_any (edge_shows c w) (edges_between c.edges (ends_at c.pairs p))) (pair_leads c w p) (pair_there c w (ends_at c.pairs p)) (pair_back c w (ends_at c.pairs p) h within.0 within.1)

-- the pair of a present edge
pub pair_of_edge : (c : Contents) (w : World) (edge : EdgeName) → IsShown c w → edge_present w edge ≡ true
    → (p : ℕ) × (p < length c.pairs) × (name_at c.nodes (ends_at c.pairs p).src ≡ edge.src) × (name_at c.nodes (ends_at c.pairs p).dst ≡ edge.dst) × (pair_leads c w p ≡ true)
pair_of_edge c w edge h k =
    let s = present_number c w edge h k in
    let blank : EdgeParts = record { src = 0; dst = 0; layer = 0 } in
    let ends = ends_of (parts_at c.edges s.0) in
    let own = list_any-place (λ (e : EdgeParts). same_ends ends (ends_of e)) c.edges s.0 blank s.1 (ends_same ends ends refl refl) in
    let r = any_place (same_ends ends) c.pairs (record { src = 0; dst = 0 }) (h.indexed.known_pairs ends ∙ own) in
    let t = ends_are ends (ends_at c.pairs r.0) r.2 in
    let src : name_at c.nodes (ends_at c.pairs r.0).src ≡ edge.src = ap (name_at c.nodes) (sym t.0) ∙ ap (λ (e : EdgeName). e.src) s.2 in
    let dst : name_at c.nodes (ends_at c.pairs r.0).dst ≡ edge.dst = ap (name_at c.nodes) (sym t.1) ∙ ap (λ (e : EdgeName). e.dst) s.2 in
    (r.0, r.1, src, dst, leads_by w edge (name_at c.nodes (ends_at c.pairs r.0).src) (name_at c.nodes (ends_at c.pairs r.0).dst) k (sym src) (sym dst))

-- ---- present nodes

abbrev pub any_pair : Contents → World → ℕ → Bool
any_pair c w n = any_pair_leads c w (pairs_from c.pairs n) || any_pair_leads c w (pairs_to c.pairs n)

is_number : (i j : ℕ) → i ≡ j → eqb i j ≡ true
is_number i j e = grind (arith, nat_tests, e)

by_pair : (c : Contents) (w : World) (n p : ℕ) → IsShown c w → pair_leads c w p ≡ true → ((ends_at c.pairs p).src ≡ n) ⊎ ((ends_at c.pairs p).dst ≡ n) → node_present w (name_at c.nodes n) ≡ true
by_pair c w n p h k side =
    let r = linked w (name_at c.nodes (ends_at c.pairs p).src) (name_at c.nodes (ends_at c.pairs p).dst) k in
    let end : IsEnd (name_at c.nodes n) r.0 = elim side [
      | inl e ↦ inl (sym r.2 ∙ ap (name_at c.nodes) e)
      | inr e ↦ inr (sym r.3 ∙ ap (name_at c.nodes) e)
    ] in
    (node_words w (name_at c.nodes n) h.lawful).1 (inr (r.0, end, contact_from_present w r.0 r.1))

pairs_there : (c : Contents) (w : World) (n : ℕ) → IsShown c w → any_pair c w n ≡ true → node_present w (name_at c.nodes n) ≡ true
pairs_there c w n h k = elim (or_cases (any_pair_leads c w (pairs_from c.pairs n)) (any_pair_leads c w (pairs_to c.pairs n)) k) [
  | inl a ↦ let r = places_found (λ (p : Ends). eqb p.src n) (pair_leads c w) c.pairs no_ends a in by_pair c w n r.0 h r.3 (inl (eqb-true (ends_at c.pairs r.0).src n r.2))
  | inr b ↦ let r = places_found (λ (p : Ends). eqb p.dst n) (pair_leads c w) c.pairs no_ends b in by_pair c w n r.0 h r.3 (inr (eqb-true (ends_at c.pairs r.0).dst n r.2))
]

by_edge : (c : Contents) (w : World) (n : ℕ) (edge : EdgeName) → IsShown c w → n < length c.nodes → IsEnd (name_at c.nodes n) edge → edge_present w edge ≡ true → any_pair c w n ≡ true
by_edge c w n edge h lt side k =
    let r = pair_of_edge c w edge h k in
    let within = h.indexed.pairs_within r.0 r.1 in
    elim side [
      | inl e ↦ or_left (any_pair_leads c w (pairs_from c.pairs n)) (any_pair_leads c w (pairs_to c.pairs n)) (places_any (λ (p : Ends). eqb p.src n) (pair_leads c w) r.0 c.pairs no_ends r.1 (is_number (ends_at c.pairs r.0).src n (same_number c (ends_at c.pairs r.0).src n h.indexed within.0 lt (r.2 ∙ e))) r.4)
      | inr e ↦ or_right (any_pair_leads c w (pairs_from c.pairs n)) (any_pair_leads c w (pairs_to c.pairs n)) (places_any (λ (p : Ends). eqb p.dst n) (pair_leads c w) r.0 c.pairs no_ends r.1 (is_number (ends_at c.pairs r.0).dst n (same_number c (ends_at c.pairs r.0).dst n h.indexed within.1 lt (r.3 ∙ e))) r.4)
    ]

-- a node that has an event, or a present pair, is present, and no other
pub node_is : (c : Contents) (w : World) (n : ℕ) (some : Bool) → IsShown c w → n < length c.nodes → (some ≡ true → events_of w (Node (name_at c.nodes n)) ≡ [] → ⊥) → (some ≡ false → events_of w (Node (name_at c.nodes n)) ≡ [])
    → (some || (any_pair_leads c w (pairs_from c.pairs n) || any_pair_leads c w (pairs_to c.pairs n))) ≡ node_present w (name_at c.nodes n)
node_is c w n some h lt yes_some no_some = both_true (some || any_pair c w n) (node_present w (name_at c.nodes n)) there back
  where
    there : (some || any_pair c w n) ≡ true → node_present w (name_at c.nodes n) ≡ true
    there k = elim (or_cases some (any_pair c w n) k) [
      | inl a ↦ (node_words w (name_at c.nodes n) h.lawful).1 (inl (yes_some a))
      | inr b ↦ pairs_there c w n h b
    ]

    own : node_present w (name_at c.nodes n) ≡ true → some ≡ false → any_pair c w n ≡ true
    own k e = elim ((node_words w (name_at c.nodes n) h.lawful).0 k) [
      | inl a ↦ absurd (a (no_some e))
      | inr r ↦ by_edge c w n r.0 h lt r.1 (present_from_contact w r.0 r.2.0 h.lawful r.2.1)
    ]

    back : node_present w (name_at c.nodes n) ≡ true → (some || any_pair c w n) ≡ true
    back k = elim (cases_Bool some) [
      | inl e ↦ or_left some (any_pair c w n) e
      | inr e ↦ or_right some (any_pair c w n) (own k e)
    ]

pub edges_within : (c : Contents) (ends : Ends) → AllByRecursion (λ e. e < length c.edges) (edges_between c.edges ends)
edges_within c ends = each_place (λ e. e < length c.edges) (between ends) c.edges no_parts (λ j lt e. lt)

pub pairs_from_within : (c : Contents) (n : ℕ) → AllByRecursion (λ p. p < length c.pairs) (pairs_from c.pairs n)
pairs_from_within c n = each_place (λ p. p < length c.pairs) (λ (p : Ends). eqb p.src n) c.pairs no_ends (λ j lt e. lt)

pub pairs_to_within : (c : Contents) (n : ℕ) → AllByRecursion (λ p. p < length c.pairs) (pairs_to c.pairs n)
pairs_to_within c n = each_place (λ p. p < length c.pairs) (λ (p : Ends). eqb p.dst n) c.pairs no_ends (λ j lt e. lt)

-- ---- pairs by their ends

pub found_within : (c : Contents) (from to p : ℕ) → position (same_ends (record { src = from; dst = to })) c.pairs ≡ Some p → (p < length c.pairs) × ((ends_at c.pairs p).src ≡ from) × ((ends_at c.pairs p).dst ≡ to)
found_within c from to p h =
    let r = position-Some (same_ends (record { src = from; dst = to })) c.pairs p no_ends h in
    let s = ends_are (record { src = from; dst = to }) (ends_at c.pairs p) r.1 in
    (r.0, sym s.0, sym s.1)

pub found_leads : (c : Contents) (w : World) (from to p : ℕ) → position (same_ends (record { src = from; dst = to })) c.pairs ≡ Some p → pair_leads c w p ≡ leads w Outward (name_at c.nodes from) (name_at c.nodes to)
found_leads c w from to p h = let r = found_within c from to p h in ap (λ n. leads w Outward (name_at c.nodes n) (name_at c.nodes (ends_at c.pairs p).dst)) r.1 ∙ ap (λ n. leads w Outward (name_at c.nodes from) (name_at c.nodes n)) r.2

-- where no pair has two ends, nothing leads from one to the other
pub missed_leads : (c : Contents) (w : World) (from to : ℕ) → IsShown c w → from < length c.nodes → to < length c.nodes → position (same_ends (record { src = from; dst = to })) c.pairs ≡ None → leads w Outward (name_at c.nodes from) (name_at c.nodes to) ≡ false
missed_leads c w from to h begin end none = elim (cases_Bool (leads w Outward (name_at c.nodes from) (name_at c.nodes to))) [
  | inl e ↦ absurd (
      let r = linked w (name_at c.nodes from) (name_at c.nodes to) e in
      let p = pair_of_edge c w r.0 h r.1 in
      let within = h.indexed.pairs_within p.0 p.1 in
      let src = same_number c from (ends_at c.pairs p.0).src h.indexed begin within.0 (r.2 ∙ sym p.2) in
      let dst = same_number c to (ends_at c.pairs p.0).dst h.indexed end within.1 (r.3 ∙ sym p.3) in
      true≢false (sym (list_any-place (same_ends (record { src = from; dst = to })) c.pairs p.0 no_ends p.1 (ends_same (record { src = from; dst = to }) (ends_at c.pairs p.0) src dst)) ∙ none_found (same_ends (record { src = from; dst = to })) c.pairs none))
  | inr e ↦ e
]
