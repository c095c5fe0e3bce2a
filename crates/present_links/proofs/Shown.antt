-- The links of a world that shows some of a store's edges.
use Rattle.std.proofs.Common.{◌≡◌, ℕ, zero, suc, ◌+◌, ◌<◌, Bool, true, false, ◌&&◌, List, [], ◌∷◌, length, get_or, cond, refl, sym, ◌∙◌, subst, inl, inr, arith}
use Rattle.std.specs.List.{list_any}
use Rattle.std.proofs.lemmas.Bool.{and_from, and_parts, or_left, or_right, or_cases, cond_both, true≢false}
use Rattle.graph_model.specs.declared.events.EdgeName.{EdgeName}
use Rattle.graph_model.specs.Entity.{same_edge}
use Rattle.graph_model.specs.World.{World}
use Rattle.graph_model.specs.Presence.{edge_present, edges}
use Rattle.world_laws.proofs.Filters.{any_weaker, each_kept}
use Rattle.world_laws.proofs.Order.{same_edge-exact, same_edge-refl}
use Rattle.world_laws.proofs.Members.{any_filter, both_true, edges_has}
use Rattle.world_laws.proofs.Present.{some_passes}
use Rattle.world_laws.proofs.SortedKeys.{distinct_filter}
use Rattle.graph_store.specs.declared.pairs.Ends.{Ends}
use Rattle.graph_store.specs.declared.edges.EdgeParts.{EdgeParts}
use Rattle.graph_store.specs.Ends.{same_ends}
use Rattle.graph_store.specs.EdgeParts.{ends_of, parts_at}
use Rattle.graph_store.specs.Places.{places_from}
use Rattle.graph_store.specs.Contents.{Contents, edge_name, name_at}
use Rattle.graph_store.specs.Indexed.{IsIndexed}
use Rattle.world_laws.proofs.ListItems.{each_from}
use Rattle.graph_store.proofs.LinkLaws.{same_ends-equal, same_ends-own}
use Rattle.graph_store.proofs.Listed.{list_any-place}
use Rattle.present_links.specs.Links.{HasLinks, ShowsEdges, has_shown, shown_links}

module _ {X : Type 0} (test : X → Bool) (shown : ℕ → Bool) (d : X) where
  -- a place of an item that passes, where the first place has a number
  abbrev pub Place : ℕ → List X → Type 0
  Place i xs = (k : ℕ) × (k < length xs) × (test (get_or xs k d) ≡ true) × (shown (i + k) ≡ true)

  pub place_from : (i : ℕ) (xs : List X) → list_any shown (places_from i test xs) ≡ true → Place i xs
  place_from i [] h = absurd (true≢false (sym h))
  place_from i (x ∷ xs) h = by (test x) refl h (place_from (suc i) xs)
    where
      later : Place (suc i) xs → Place i (x ∷ xs)
      later r = (suc r.0, omega (arith, r.1), r.2, subst (λ m. shown m ≡ true) (omega arith) r.3)

      by : (t : Bool) → test x ≡ t → list_any shown (cond t (i ∷ places_from (suc i) test xs) (places_from (suc i) test xs)) ≡ true → (list_any shown (places_from (suc i) test xs) ≡ true → Place (suc i) xs) → Place i (x ∷ xs)
      by true e k more = elim (or_cases (shown i) (list_any shown (places_from (suc i) test xs)) k) [
        | inl here ↦ (zero, omega arith, e, subst (λ m. shown m ≡ true) (omega arith) here)
        | inr there ↦ later (more there)
      ]
      by false e k more = later (more k)

  pub any_place : (i : ℕ) (xs : List X) (k : ℕ) → k < length xs → test (get_or xs k d) ≡ true → shown (i + k) ≡ true → list_any shown (places_from i test xs) ≡ true
  any_place i [] k below e h = absurd (omega arith)
  any_place i (x ∷ xs) zero below e h =
      rw e (or_left (shown i) (list_any shown (places_from (suc i) test xs)) (subst (λ m. shown m ≡ true) (omega arith) h))
  any_place i (x ∷ xs) (suc k) below e h =
      let more = any_place (suc i) xs k (omega arith) e (subst (λ m. shown m ≡ true) (omega arith) h) in
      cond_both (test x) (i ∷ places_from (suc i) test xs) (places_from (suc i) test xs) (λ ps. list_any shown ps ≡ true) (λ t. or_right (shown i) (list_any shown (places_from (suc i) test xs)) more) (λ t. more)

module _ (c : Contents) (indexed : IsIndexed c) (w : World) (shown : ℕ → Bool) (shows : ShowsEdges c w shown) where
  none : EdgeParts
  none = record { src = 0; dst = 0; layer = 0 }

  module _ (test : List ℕ → List ℕ → Bool) where
    by_edge : EdgeName → Bool
    by_edge e = test e.src e.dst

    by_pair : Ends → Bool
    by_pair p = test (name_at c.nodes p.src) (name_at c.nodes p.dst)

    to_pairs : list_any by_edge (edges w) ≡ true → list_any by_pair (shown_links shown c) ≡ true
    unfolding by_edge by_pair none
    to_pairs h =
        let x = some_passes by_edge (edges w) h in
        let present : edge_present w x.0 ≡ true = sym (edges_has w x.0) ∙ x.2 (same_edge x.0) (same_edge-refl x.0) in
        let e = (shows x.0).0 present in
        let parts = parts_at c.edges e.0 in
        let ends = ends_of parts in
        let known : list_any (same_ends ends) c.pairs ≡ true = indexed.known_pairs ends ∙ list_any-place (λ (q : EdgeParts). same_ends ends (ends_of q)) c.edges e.0 none e.1 (same_ends-own ends) in
        let here : has_shown shown c ends ≡ true = any_place (λ (q : EdgeParts). same_ends ends (ends_of q)) shown none 0 c.edges e.0 e.1 (same_ends-own ends) (subst (λ m. shown m ≡ true) (omega arith) e.2) in
        let passes : by_pair ends ≡ true = subst (λ (z : EdgeName). test z.src z.dst ≡ true) (sym e.3) x.1 in
        any_filter (has_shown shown c) by_pair c.pairs
        ∙ any_weaker (same_ends ends) (λ p. has_shown shown c p && by_pair p)
        (λ p k. subst (λ z. (has_shown shown c z && by_pair z) ≡ true) (same_ends-equal ends p k) (and_from (has_shown shown c ends) (by_pair ends) here passes)) c.pairs known

    to_edges : list_any by_pair (shown_links shown c) ≡ true → list_any by_edge (edges w) ≡ true
    unfolding by_edge by_pair none
    to_edges h =
        let p = some_passes (λ p. has_shown shown c p && by_pair p) c.pairs (sym (any_filter (has_shown shown c) by_pair c.pairs) ∙ h) in
        let both = and_parts (has_shown shown c p.0) (by_pair p.0) p.1 in
        let e = place_from (λ (q : EdgeParts). same_ends p.0 (ends_of q)) shown none 0 c.edges both.0 in
        let edge = edge_name c.nodes c.layers (parts_at c.edges e.0) in
        let present : edge_present w edge ≡ true = (shows edge).1 (e.0, e.1, subst (λ m. shown m ≡ true) (omega arith) e.3, refl) in
        let passes : by_edge edge ≡ true = subst (λ z. by_pair z ≡ true) (same_ends-equal p.0 (ends_of (parts_at c.edges e.0)) e.2) both.1 in
        any_weaker (same_edge edge) by_edge (λ x k. subst (λ z. by_edge z ≡ true) (same_edge-exact edge x k) passes) (edges w) (edges_has w edge ∙ present)

  -- the pairs with an edge that is shown are the links of the world
  pub shown_are_links : HasLinks w c.nodes (shown_links shown c)
  unfolding by_edge by_pair
  shown_are_links = record {
    names = indexed.node_names;
    once = distinct_filter same_ends (has_shown shown c) c.pairs indexed.pairs;
    within = each_kept (λ (p : Ends). (p.src < length c.nodes) × (p.dst < length c.nodes)) (has_shown shown c) c.pairs
        (each_from (λ (p : Ends). (p.src < length c.nodes) × (p.dst < length c.nodes)) c.pairs (record { src = 0; dst = 0 }) indexed.pairs_within);
    linked = λ test. both_true (list_any (by_edge test) (edges w)) (list_any (by_pair test) (shown_links shown c)) (to_pairs test) (to_edges test);
  }
