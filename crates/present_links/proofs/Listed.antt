-- The links of the edges that a roster has.
use Rattle.std.proofs.Common.{◌≡◌, ℕ, ◌+◌, ◌<◌, ◌≤◌, Bool, true, false, ◌&&◌, List, [], ◌∷◌, ◌++◌, cond, length, map, take, refl, sym, ◌∙◌, ap, subst, arith, inl, inr}
use Rattle.std.specs.Prelude.{nat_lt, ◌==◌, slice_get, Some, if◌then◌else◌}
use Rattle.std.specs.List.{filter, list_any}
use Rattle.std.proofs.lemmas.Bool.{cases_Bool, and_from, and_parts, eqb-true, lt-ltb, ltb-true, true≢false}
use Rattle.std.proofs.lemmas.List.{map-append, take_all}
use Rattle.std.proofs.lemmas.List.Elements.{filter_more}
use Rattle.std.proofs.lemmas.Option.{get_or_from_slice_get}
use Rattle.graph_model.specs.Rising.{rising}
use Rattle.graph_model.specs.World.{World}
use Rattle.world_laws.proofs.Counts.{length_filter_le}
use Rattle.world_laws.proofs.Filters.{any_weaker}
use Rattle.world_laws.proofs.ListItems.{any_map}
use Rattle.world_laws.proofs.Members.{any_filter, both_true}
use Rattle.world_laws.proofs.Present.{some_passes}
use Rattle.graph_store.specs.declared.pairs.Ends.{Ends}
use Rattle.graph_store.specs.declared.edges.EdgeParts.{EdgeParts}
use Rattle.graph_store.specs.Ends.{same_ends}
use Rattle.graph_store.specs.EdgeParts.{ends_of}
use Rattle.graph_store.specs.Contents.{Contents}
use Rattle.graph_store.proofs.LinkLaws.{same_ends-equal, same_ends-own}
use Rattle.graph_store.proofs.Listed.{list_any-place}
use Rattle.view_trait.specs.Coverage.{Covers, edges_on}
use Rattle.view_trait.specs.Meaning.{IsShown}
use Rattle.view_trait.specs.Numbered.{is_listed}
use Rattle.view_trait.specs.declared.rosters.Roster.{Roster}
use Rattle.view_trait.proofs.Covered.{missing_edge}
use Rattle.present_links.specs.Links.{edge_ends, edge_shown, ends_cmp, has_edge, links_of, pair_shown, rising_links}
use Rattle.present_links.proofs.Order.{ends_exact, ends_total, few_rising}
use Rattle.view_trait.proofs.Settled.{rising_same}
use Rattle.present_links.proofs.Shown.{any_place, place_from}

module _ (c : Contents) (w : World) (h : IsShown c w) (r : Roster) (covers : Covers c w r) (q : Ends → Bool) where
  -- the links of the edges on a roster that the store has and the world shows
  abbrev among : List Ends
  among = map (edge_ends c) (filter (has_edge c w) (edges_on c r))

  none : EdgeParts
  none = record { src = 0; dst = 0; layer = 0 }

  -- a test of them is one of the edges
  among_edges : list_any q among ≡ list_any (λ e. has_edge c w e && q (edge_ends c e)) (edges_on c r)
  among_edges = any_map q (edge_ends c) (filter (has_edge c w) (edges_on c r)) ∙ any_filter (has_edge c w) (λ e. q (edge_ends c e)) (edges_on c r)

  -- each of them is a link
  to_links : list_any q among ≡ true → list_any q (links_of c w) ≡ true
  unfolding none
  to_links some =
      let e = some_passes (λ e. has_edge c w e && q (edge_ends c e)) (edges_on c r) (sym among_edges ∙ some) in
      let both = and_parts (has_edge c w e.0) (q (edge_ends c e.0)) e.1 in
      let edge = and_parts (nat_lt e.0 (length c.edges)) (edge_shown c w e.0) both.0 in
      let below = ltb-true e.0 (length c.edges) edge.0 in
      let ends = edge_ends c e.0 in
      let known : list_any (same_ends ends) c.pairs ≡ true = h.indexed.known_pairs ends ∙ list_any-place (λ (x : EdgeParts). same_ends ends (ends_of x)) c.edges e.0 none below (same_ends-own ends) in
      let here : pair_shown c w ends ≡ true = any_place (λ (x : EdgeParts). same_ends ends (ends_of x)) (edge_shown c w) none 0 c.edges e.0 below (same_ends-own ends) (subst (λ m. edge_shown c w m ≡ true) (omega arith) edge.1) in
      any_filter (pair_shown c w) q c.pairs
      ∙ any_weaker (same_ends ends) (λ p. pair_shown c w p && q p)
      (λ p k. subst (λ z. (pair_shown c w z && q z) ≡ true) (same_ends-equal ends p k) (and_from (pair_shown c w ends) (q ends) here both.1)) c.pairs known

  -- each link is one of them, since its edge is on the roster
  from_links : list_any q (links_of c w) ≡ true → list_any q among ≡ true
  unfolding none
  from_links some =
      let p = some_passes (λ p. pair_shown c w p && q p) c.pairs (sym (any_filter (pair_shown c w) q c.pairs) ∙ some) in
      let both = and_parts (pair_shown c w p.0) (q p.0) p.1 in
      let e = place_from (λ (x : EdgeParts). same_ends p.0 (ends_of x)) (edge_shown c w) none 0 c.edges both.0 in
      let shown : edge_shown c w e.0 ≡ true = subst (λ m. edge_shown c w m ≡ true) (omega arith) e.3 in
      let passes : q (edge_ends c e.0) ≡ true = subst (λ z. q z ≡ true) (same_ends-equal p.0 (edge_ends c e.0) e.2) both.1 in
      let has : (has_edge c w e.0 && q (edge_ends c e.0)) ≡ true = and_from (has_edge c w e.0) (q (edge_ends c e.0)) (and_from (nat_lt e.0 (length c.edges)) (edge_shown c w e.0) (lt-ltb e.0 (length c.edges) e.1) shown) passes in
      elim (cases_Bool (is_listed (edges_on c r) e.0)) [
        | inl on ↦
            among_edges
            ∙ any_weaker (λ m. m == e.0) (λ m. has_edge c w m && q (edge_ends c m))
            (λ m k. subst (λ z. (has_edge c w z && q (edge_ends c z)) ≡ true) (sym (eqb-true m e.0 k)) has) (edges_on c r) on
        | inr off ↦ absurd (true≢false (sym shown ∙ missing_edge c w r covers e.0 e.1 off))
      ]

  -- so they are the links, whatever the roster
  pub among_links : list_any q among ≡ list_any q (links_of c w)
  among_links = both_true (list_any q among) (list_any q (links_of c w)) to_links from_links

-- ---- the edges on a roster, gone over in turn

-- one edge more
pub links_more : (c : Contents) (w : World) (es : List ℕ) (i e : ℕ) → i < length es → slice_get es i ≡ Some e → (before after : List Ends) → before ≡ map (edge_ends c) (filter (has_edge c w) (take i es))
    → after ≡ before ++ (if has_edge c w e then edge_ends c e ∷ [] else []) → after ≡ map (edge_ends c) (filter (has_edge c w) (take (i + 1) es))
links_more c w es i e below here before after is more =
    more
    ∙ ((λ k. is k ++ sym (mapped (has_edge c w e)) k)
    ∙ (sym (map-append (edge_ends c) (filter (has_edge c w) (take i es)) (cond (has_edge c w e) (e ∷ []) []))
    ∙ ap (map (edge_ends c)) (ap (λ x. filter (has_edge c w) (take i es) ++ cond (has_edge c w x) (x ∷ []) []) (sym (get_or_from_slice_get es i e 0 here)) ∙ sym (filter_more (has_edge c w) es i 0 below))))
  where
    mapped : (t : Bool) → map (edge_ends c) (cond t (e ∷ []) []) ≡ (if t then edge_ends c e ∷ [] else [])
    mapped true = refl
    mapped false = refl

-- all of them have the links of the world
pub links_all : (c : Contents) (w : World) (h : IsShown c w) (r : Roster) → Covers c w r → (i : ℕ) → length (edges_on c r) ≤ i → (found : List Ends)
    → found ≡ map (edge_ends c) (filter (has_edge c w) (take i (edges_on c r))) → rising ends_cmp found ≡ rising_links c w
links_all c w h r covers i all found is =
    ap (rising ends_cmp) (is ∙ ap (λ es. map (edge_ends c) (filter (has_edge c w) es)) (take_all i (edges_on c r) all))
    ∙ rising_same ends_cmp ends_total ends_exact (map (edge_ends c) (filter (has_edge c w) (edges_on c r))) (links_of c w) (among_links c w h r covers)

-- no more links than pairs
pub few_links : (c : Contents) (w : World) → length (rising_links c w) ≤ length c.pairs
few_links c w =
    let kept = few_rising ends_cmp (links_of c w) in
    let shown = length_filter_le (pair_shown c w) c.pairs in
    omega (arith, kept, shown)
