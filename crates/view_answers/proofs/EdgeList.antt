-- The present edges of a world: their numbers, and their names sorted.
use Rattle.std.proofs.Common.{◌≡◌, ℕ, ◌+◌, ◌<◌, Bool, true, false, ◌&&◌, ◌||◌, List, [], ◌∷◌, ◌++◌, cond, length, map, take, get_or, refl, sym, ◌∙◌, ap, subst, arith, inl, inr}
use Rattle.std.specs.Prelude.{◌==◌, nat_lt, slice_get, Some, if◌then◌else◌}
use Rattle.std.specs.List.{filter, list_any, IsDistinct, AllByRecursion}
use Rattle.std.specs.List.Sorted.{IsPermutation, IsSortedBy}
use Rattle.std.specs.declared.cmp.Ordering.{Ordering}
use Rattle.std.specs.declared.cmp.Ordering.TheVariants.{Less, Equal, Greater}
use Rattle.std.specs.Cmp.{unsigned_tied}
use Rattle.std.specs.Ordering.{is_lt, is_ne, nat_cmp, ordering_then}
use Rattle.std.proofs.lemmas.Bool.{and_from, and_parts, cases_Bool, eq-eqb, eqb-true, lt-ltb, ltb-true, true≢false}
use Rattle.std.proofs.lemmas.Bool.Decides.{nat_tests}
use Rattle.std.proofs.lemmas.List.{get_or-map, length-map}
use Rattle.std.proofs.lemmas.List.Elements.{filter_more}
use Rattle.std.proofs.lemmas.List.Sorted.{IsPermutation-map, list_any-IsPermutation}
use Rattle.std.proofs.lemmas.Option.{get_or_from_slice_get}
use Rattle.graph_model.specs.declared.events.EdgeName.{EdgeName}
use Rattle.graph_model.specs.Entity.{edge_cmp, same_edge}
use Rattle.graph_model.specs.Names.{same_name}
use Rattle.graph_model.specs.Presence.{edge_present, edges}
use Rattle.graph_model.specs.Rising.{Rises}
use Rattle.graph_model.specs.World.{World}
use Rattle.world_laws.proofs.Filters.{any_weaker}
use Rattle.world_laws.proofs.Members.{any_filter, both_true, edges_has, edges_rise}
use Rattle.world_laws.proofs.Order.{edge_exact, edge_total, same_edge-exact, same_edge-refl, same_name-refl}
use Rattle.world_laws.proofs.Present.{some_passes}
use Rattle.world_laws.proofs.RisingFixed.{rising_fixed}
use Rattle.world_laws.proofs.SortedKeys.{sorted_keys_rise}
use Rattle.graph_store.specs.declared.edges.EdgeParts.{EdgeParts}
use Rattle.graph_store.specs.Contents.{Contents, edge_name, name_at}
use Rattle.graph_store.specs.Indexed.{IsIndexed}
use Rattle.graph_store.specs.EdgeParts.{parts_at, same_parts}
use Rattle.world_laws.proofs.ListItems.{each_from}
use Rattle.graph_store.proofs.Listed.{one_place}
use Rattle.view_trait.specs.Coverage.{Covers, edges_on}
use Rattle.view_trait.specs.Meaning.{IsShown, edge_named}
use Rattle.view_trait.specs.Numbered.{is_listed}
use Rattle.view_trait.specs.declared.rosters.Roster.{Roster}
use Rattle.view_trait.proofs.Covered.{missing_edge}
use Rattle.view_trait.proofs.Pairs.{present_number, same_number}
use Rattle.present_links.specs.Links.{edge_shown, has_edge}
use Rattle.world_laws.proofs.ListItems.{any_map}
use Rattle.present_links.proofs.Numbers.{distinct_map}
use Rattle.present_links.proofs.Order.{distinct_rises}
use Rattle.view_answers.specs.Edges.{edge_names}

-- ---- the names of all edges

abbrev Within : Contents → EdgeParts → Type 0
Within c p = (p.src < length c.nodes) × (p.dst < length c.nodes) × (p.layer < length c.layers)

parts_alike : (c : Contents) → IsIndexed c → (p q : EdgeParts) → Within c p → Within c q → same_edge (edge_name c.nodes c.layers p) (edge_name c.nodes c.layers q) ≡ true → same_parts p q ≡ true
parts_alike c h p q a b e =
    let same = same_edge-exact (edge_name c.nodes c.layers p) (edge_name c.nodes c.layers q) e in
    let src : p.src ≡ q.src = same_number c p.src q.src h a.0 b.0 (ap (λ (x : EdgeName). x.src) same) in
    let dst : p.dst ≡ q.dst = same_number c p.dst q.dst h a.1 b.1 (ap (λ (x : EdgeName). x.dst) same) in
    let layer : p.layer ≡ q.layer = one_place same_name same_name-refl c.layers p.layer q.layer [] h.layer_names a.2 b.2 (ap (λ (x : EdgeName). x.layer) same) in
    let s : (p.src == q.src) ≡ true = grind (arith, nat_tests, src) in
    let d : (p.dst == q.dst) ≡ true = grind (arith, nat_tests, dst) in
    let l : (p.layer == q.layer) ≡ true = grind (arith, nat_tests, layer) in
    and_from (p.src == q.src) ((p.dst == q.dst) && (p.layer == q.layer)) s (and_from (p.dst == q.dst) (p.layer == q.layer) d l)

pub edge_names_differ : (c : Contents) → IsIndexed c → IsDistinct same_edge (edge_names c)
edge_names_differ c h = distinct_map same_parts same_edge (edge_name c.nodes c.layers) (Within c) (parts_alike c h) c.edges (each_from (Within c) c.edges (record { src = 0; dst = 0; layer = 0 }) (λ e lt. h.within e lt)) h.edges

pub named_at : (c : Contents) (e : ℕ) (d : EdgeName) → e < length c.edges → get_or (edge_names c) e d ≡ edge_named c e
named_at c e d lt = get_or-map (edge_name c.nodes c.layers) c.edges e (record { src = 0; dst = 0; layer = 0 }) d lt

-- edges with one name have one number
named_once : (c : Contents) → IsIndexed c → (i j : ℕ) → i < length c.edges → j < length c.edges → same_edge (edge_named c i) (edge_named c j) ≡ true → (i == j) ≡ true
named_once c h i j below_i below_j e =
    let n = length-map c.edges (edge_name c.nodes c.layers) in
    let d = edge_named c i in
    let same : edge_named c i ≡ edge_named c j = same_edge-exact (edge_named c i) (edge_named c j) e in
    eq-eqb i j (one_place same_edge same_edge-refl (edge_names c) i j d (edge_names_differ c h) (omega (arith, below_i, n)) (omega (arith, below_j, n)) (named_at c i d below_i ∙ (same ∙ sym (named_at c j d below_j))))

-- what holds of each number that is listed holds of all
listed_each : (P : ℕ → Type 0) (ns : List ℕ) → ((n : ℕ) → is_listed ns n ≡ true → P n) → AllByRecursion P ns
listed_each P [] k = tt
listed_each P (m ∷ ns) k = (
  k m (ap (λ t. t || is_listed ns m) (eq-eqb m m refl)),
  listed_each P ns (λ n on. k n (ap (λ t. (m == n) || t) on ∙ always (m == n))),
)
  where
    always : (t : Bool) → (t || true) ≡ true
    always true = refl
    always false = refl

-- ---- the numbers of the present edges

-- a number is among the present ones on a roster where the world shows its edge
module _ (c : Contents) (w : World) (r : Roster) (covers : Covers c w r) (e : ℕ) where
  on : List ℕ
  on = edges_on c r

  to_edge : is_listed (filter (has_edge c w) on) e ≡ true → has_edge c w e ≡ true
  to_edge some =
      let m = some_passes (λ m. has_edge c w m && (m == e)) on (sym (any_filter (has_edge c w) (λ m. m == e) on) ∙ some) in
      let both = and_parts (has_edge c w m.0) (m.0 == e) m.1 in
      subst (λ k. has_edge c w k ≡ true) (eqb-true m.0 e both.1) both.0

  from_edge : has_edge c w e ≡ true → is_listed (filter (has_edge c w) on) e ≡ true
  unfolding on
  from_edge has =
      let both = and_parts (nat_lt e (length c.edges)) (edge_shown c w e) has in
      elim (cases_Bool (is_listed (edges_on c r) e)) [
        | inl here ↦
            any_filter (has_edge c w) (λ m. m == e) (edges_on c r)
            ∙ any_weaker (λ m. m == e) (λ m. has_edge c w m && (m == e))
            (λ m k. and_from (has_edge c w m) (m == e) (subst (λ j. has_edge c w j ≡ true) (sym (eqb-true m e k)) has) k) (edges_on c r) here
        | inr off ↦ absurd (true≢false (sym both.1 ∙ missing_edge c w r covers e (ltb-true e (length c.edges) both.0) off))
      ]

  pub listed_edge : is_listed (filter (has_edge c w) (edges_on c r)) e ≡ has_edge c w e
  unfolding on
  listed_edge = both_true (is_listed (filter (has_edge c w) (edges_on c r)) e) (has_edge c w e) to_edge from_edge

-- those that pass among one number more
pub present_more : (p : ℕ → Bool) (es : List ℕ) (i e : ℕ) → i < length es → slice_get es i ≡ Some e → (before after : List ℕ) → before ≡ filter p (take i es)
    → after ≡ before ++ (if p e then e ∷ [] else []) → after ≡ filter p (take (i + 1) es)
present_more p es i e below here before after is more =
    more
    ∙ (ap (λ xs. xs ++ cond (p e) (e ∷ []) []) is
    ∙ (ap (λ x. filter p (take i es) ++ cond (p x) (x ∷ []) []) (sym (get_or_from_slice_get es i e 0 here))
    ∙ sym (filter_more p es i 0 below)))

-- ---- their names

module _ (c : Contents) (w : World) (h : IsShown c w) (numbers : List ℕ) (rise : Rises nat_cmp numbers) (is : (e : ℕ) → is_listed numbers e ≡ has_edge c w e) where
  -- a listed number is that of a present edge
  of_listed : (e : ℕ) → is_listed numbers e ≡ true → (e < length c.edges) × (edge_present w (edge_named c e) ≡ true)
  of_listed e on =
      let both = and_parts (nat_lt e (length c.edges)) (edge_shown c w e) (sym (is e) ∙ on) in
      (ltb-true e (length c.edges) both.0, both.1)

  pub edges_within : AllByRecursion (λ e. e < length c.edges) numbers
  edges_within = listed_each (λ e. e < length c.edges) numbers (λ e on. (of_listed e on).0)

  -- their names are distinct
  pub names_once : IsDistinct same_edge (map (edge_named c) numbers)
  names_once =
      distinct_map (λ (i j : ℕ). i == j) same_edge (edge_named c) (λ e. e < length c.edges)
      (named_once c h.indexed)
      numbers edges_within (distinct_rises nat_cmp (λ (i j : ℕ). i == j) (λ i j. sym (unsigned_tied i j)) numbers rise)

  -- and those of the present edges
  pub names_present : (b : EdgeName) → list_any (same_edge b) (map (edge_named c) numbers) ≡ edge_present w b
  names_present b = any_map (same_edge b) (edge_named c) numbers ∙ both_true (list_any (λ e. same_edge b (edge_named c e)) numbers) (edge_present w b) there back
    where
      there : list_any (λ e. same_edge b (edge_named c e)) numbers ≡ true → edge_present w b ≡ true
      there some =
          let e = some_passes (λ e. same_edge b (edge_named c e)) numbers some in
          let present = (of_listed e.0 (e.2 (λ m. m == e.0) (eq-eqb e.0 e.0 refl))).1 in
          subst (λ z. edge_present w z ≡ true) (sym (same_edge-exact b (edge_named c e.0) e.1)) present

      back : edge_present w b ≡ true → list_any (λ e. same_edge b (edge_named c e)) numbers ≡ true
      back present =
          let e = present_number c w b h present in
          let here : edge_present w (edge_named c e.0) ≡ true = subst (λ z. edge_present w z ≡ true) (sym e.2) present in
          let on : is_listed numbers e.0 ≡ true = is e.0 ∙ and_from (nat_lt e.0 (length c.edges)) (edge_shown c w e.0) (lt-ltb e.0 (length c.edges) e.1) here in
          any_weaker (λ m. m == e.0) (λ m. same_edge b (edge_named c m)) (λ m k. ap (same_edge b) (ap (edge_named c) (eqb-true m e.0 k) ∙ e.2) ∙ same_edge-refl b) numbers on

  -- items with their names, sorted by them, have the names of the present edges
  pub sorted_is : {X : Type 0} (key : X → EdgeName) (xs ys : List X) → map key xs ≡ map (edge_named c) numbers → IsPermutation xs ys → IsSortedBy (λ x y. is_lt (edge_cmp (key x) (key y))) ys → map key ys ≡ edges w
  sorted_is key xs ys named moved sorted =
      rising_fixed edge_cmp edge_total edge_exact (map key ys) (edges w)
      (sorted_keys_rise key edge_cmp edge_total xs ys (subst (IsDistinct same_edge) (sym named) names_once) moved sorted) (edges_rise w)
      (λ b. sym (list_any-IsPermutation (same_edge b) (map key xs) (map key ys) (IsPermutation-map key xs ys moved))
      ∙ (ap (list_any (same_edge b)) named
      ∙ (names_present b
      ∙ sym (edges_has w b))))

-- ---- two edges compared

pub first_differs : (o p : Ordering) → is_ne o ≡ true → o ≡ ordering_then o p
first_differs Less p h = refl
first_differs Equal p h = cc
first_differs Greater p h = refl

pub first_same : (o p : Ordering) → is_ne o ≡ false → p ≡ ordering_then o p
first_same Less p h = cc
first_same Equal p h = refl
first_same Greater p h = cc

-- ---- the names of one edge

pub told_by_parts : (c : Contents) (e src dst layer : ℕ) (src_name dst_name layer_name : List ℕ) → src ≡ (parts_at c.edges e).src → dst ≡ (parts_at c.edges e).dst → layer ≡ (parts_at c.edges e).layer
    → slice_get c.nodes src ≡ Some src_name → slice_get c.nodes dst ≡ Some dst_name → slice_get c.layers layer ≡ Some layer_name
    → record { src = src_name; dst = dst_name; layer = layer_name } ≡ edge_named c e
told_by_parts c e src dst layer src_name dst_name layer_name s d l a b f =
    let first : src_name ≡ name_at c.nodes (parts_at c.edges e).src = sym (get_or_from_slice_get c.nodes src src_name [] a) ∙ ap (name_at c.nodes) s in
    let second : dst_name ≡ name_at c.nodes (parts_at c.edges e).dst = sym (get_or_from_slice_get c.nodes dst dst_name [] b) ∙ ap (name_at c.nodes) d in
    let third : layer_name ≡ name_at c.layers (parts_at c.edges e).layer = sym (get_or_from_slice_get c.layers layer layer_name [] f) ∙ ap (name_at c.layers) l in
    λ i. record { src = first i; dst = second i; layer = third i }
