-- The nodes and edges of a store that have events in a world, put in order.
use Rattle.std.proofs.Common.{◌≡◌, ℕ, ◌+◌, ◌≤◌, true, false, ◌&&◌, List, [], ◌∷◌, ◌++◌, length, map, take, ◌<◌, append_assoc, Option, Some, None, refl, sym, ◌∙◌, ap, subst, arith, inl, inr, append-nil, length-append}
use Rattle.std.specs.Prelude.{is_some, slice_get}
use Rattle.std.specs.List.{filter, list_any, last_or, IsDistinct, All}
use Rattle.std.specs.List.Sorted.{IsPermutation, IsSortedBy}
use Rattle.std.specs.Cmp.{eq_by_cmp_equiv}
use Rattle.std.specs.Ordering.{is_lt, nat_cmp}
use Rattle.std.proofs.lemmas.Bool.{cases_Bool, cond-true, cond-false, and_parts, and_from, or_left, or_right, true≢false}
use Rattle.std.proofs.lemmas.List.{map-append, length-map, take_all}
use Rattle.std.proofs.lemmas.List.Elements.{filter-append}
use Rattle.std.proofs.lemmas.List.Folds.{list_any-append}
use Rattle.std.proofs.lemmas.List.Sorted.{list_any-IsPermutation, All-permutation}
use Rattle.std.proofs.lemmas.Map.Made.{is_member-filter, length-le_from_is_member}
use Rattle.graph_model.specs.declared.events.Entity.{Entity}
use Rattle.graph_model.specs.declared.events.Entity.TheVariants.{Node, Edge}
use Rattle.graph_model.specs.Entity.{entity_cmp, same_entity, entity_of, is_about}
use Rattle.graph_model.specs.Rising.{Rises}
use Rattle.graph_model.specs.World.{World, events_of}
use Rattle.world_laws.proofs.DistinctRising.{distinct_rising}
use Rattle.world_laws.proofs.ListItems.{any_map, some_last}
use Rattle.world_laws.proofs.Members.{both_true}
use Rattle.world_laws.proofs.Order.{entity_total, same_entity-exact}
use Rattle.world_laws.proofs.SortedKeys.{distinct_filter, sorted_keys_rise}
use Rattle.time_history.specs.declared.updates.Kind.{Kind}
use Rattle.graph_store.specs.Contents.{Contents, node_entities}
use Rattle.view_trait.specs.Coverage.{Covers, edges_among, edges_on, entities_on, nodes_among, nodes_on}
use Rattle.view_trait.specs.Meaning.{IsShown, knows}
use Rattle.view_trait.specs.declared.rosters.Roster.{Roster}
use Rattle.view_trait.proofs.OnRoster.{distinct_on, edges_more, nodes_more, nothing_off}
use Rattle.view_trait.proofs.Pairs.{unknown_shows_nothing}
use Rattle.view_lists.specs.declared.listing.ShownEntity.{ShownEntity}
use Rattle.view_lists.specs.Listing.{entity_named, IsShownEntity, entities_of, appears, AreFound, AreShown}
use Rattle.view_lists.proofs.Sorting.{nonempty, any_is}

abbrev pub entity_shown : ShownEntity → Entity
entity_shown s = entity_named s.subject

-- ---- whether an entity has an event

pub appears_is : (w : World) (e : Entity) → appears w e ≡ nonempty (events_of w e)
appears_is w e = any_is (is_about e) w.events

last_is : {A : Type 0} (xs : List A) → is_some (last_or None xs) ≡ nonempty xs
last_is [] = refl
last_is (x ∷ xs) = some_last x xs

-- an entity has an event where it has a last one
pub appears_last : (w : World) (e : Entity) (kind : Option Kind) → is_some kind ≡ is_some (last_or None (events_of w e)) → appears w e ≡ is_some kind
appears_last w e kind h = appears_is w e ∙ (sym (last_is (events_of w e)) ∙ sym h)

pub shown_more : (w : World) (xs ys : List ShownEntity) (s : ShownEntity) (e : Entity) → ys ≡ xs ++ s ∷ [] → entity_shown s ≡ e → appears w e ≡ true → entities_of ys ≡ entities_of xs ++ filter (appears w) (e ∷ [])
shown_more w xs ys s e more is h =
    ap (map entity_shown) more
    ∙ (map-append entity_shown xs (s ∷ []) ∙ ap (λ zs. entities_of xs ++ zs) (ap (λ z. z ∷ []) is ∙ sym (cond-true (appears w e) (e ∷ []) [] h)))

pub shown_none : (w : World) (xs : List ShownEntity) (e : Entity) → appears w e ≡ false → entities_of xs ≡ entities_of xs ++ filter (appears w) (e ∷ [])
shown_none w xs e h = sym (ap (λ zs. entities_of xs ++ zs) (cond-false (appears w e) (e ∷ []) [] h) ∙ append-nil (entities_of xs))

module _ (c : Contents) (w : World) (shown : IsShown c w) where
  pub appears_known : (e : Entity) → appears w e ≡ true → knows c e ≡ true
  appears_known e h = elim (cases_Bool (knows c e)) [
    | inl k ↦ k
    | inr k ↦ absurd (true≢false (sym h ∙ (appears_is w e ∙ ap nonempty (unknown_shows_nothing c w e shown k))))
  ]

  -- those among the entities on a roster that covers the world
  pub found_on : (r : Roster) → Covers c w r → Rises nat_cmp (nodes_on c r) → Rises nat_cmp (edges_on c r) → (xs : List ShownEntity) → entities_of xs ≡ filter (appears w) (entities_on c r) → All (IsShownEntity c w) xs → AreFound c w xs
  found_on r covers nodes edges xs is parts = record {
    parts = parts;
    once = subst (IsDistinct same_entity) (sym is) (distinct_filter same_entity (appears w) (entities_on c r) (distinct_on c r shown.indexed nodes edges));
    exactly = λ e. ap (list_any (same_entity e)) is ∙ exactly e;
  }
    where
      on : (e : Entity) → appears w e ≡ true → list_any (same_entity e) (entities_on c r) ≡ true
      on e h = elim (cases_Bool (list_any (same_entity e) (entities_on c r))) [
        | inl k ↦ k
        | inr k ↦ absurd (true≢false (sym h ∙ (appears_is w e ∙ ap nonempty (nothing_off c w r shown covers e k))))
      ]

      exactly : (e : Entity) → list_any (same_entity e) (filter (appears w) (entities_on c r)) ≡ appears w e
      exactly e =
          is_member-filter (eq_by_cmp_equiv entity_total) (appears w) e (λ x k. ap (appears w) (same_entity-exact e x k)) (entities_on c r)
          ∙ both_true (list_any (same_entity e) (entities_on c r) && appears w e) (appears w e)
          (λ k. (and_parts (list_any (same_entity e) (entities_on c r)) (appears w e) k).1)
          (λ k. and_from (list_any (same_entity e) (entities_on c r)) (appears w e) (on e k) k)

  -- sorted, they are in order
  pub shown_sorted : (xs ys : List ShownEntity) → AreFound c w xs → IsPermutation xs ys → IsSortedBy (λ x y. is_lt (entity_cmp (entity_shown x) (entity_shown y))) ys → AreShown c w ys
  shown_sorted xs ys found moved sorted = record {
    parts = All-permutation (IsShownEntity c w) xs ys moved found.parts;
    rise = sorted_keys_rise entity_shown entity_cmp entity_total xs ys found.once moved sorted;
    exactly = λ e. any_map (same_entity e) entity_shown ys
        ∙ (sym (list_any-IsPermutation (λ x. same_entity e (entity_shown x)) xs ys moved)
        ∙ (sym (any_map (same_entity e) entity_shown xs) ∙ found.exactly e));
  }

  member_known : (e : Entity) → knows c e ≡ true → list_any (same_entity e) (node_entities c.nodes ++ map entity_of c.accepted) ≡ true
  member_known (Node name) h = list_any-append (same_entity (Node name)) (node_entities c.nodes) (map entity_of c.accepted) ∙ or_left (list_any (same_entity (Node name)) (node_entities c.nodes)) (list_any (same_entity (Node name)) (map entity_of c.accepted)) (any_map (same_entity (Node name)) Node c.nodes ∙ h)
  member_known (Edge edge) h = list_any-append (same_entity (Edge edge)) (node_entities c.nodes) (map entity_of c.accepted) ∙ or_right (list_any (same_entity (Edge edge)) (node_entities c.nodes)) (list_any (same_entity (Edge edge)) (map entity_of c.accepted)) (any_map (same_entity (Edge edge)) entity_of c.accepted ∙ (sym (shown.indexed.known_edges edge) ∙ h))

  -- there are no more of them than nodes and accepted events
  pub shown_few : (xs : List ShownEntity) → AreShown c w xs → length xs ≤ length c.nodes + length c.accepted
  shown_few xs h =
      let all = node_entities c.nodes ++ map entity_of c.accepted in
      let few : length (entities_of xs) ≤ length all = length-le_from_is_member (eq_by_cmp_equiv entity_total) (entities_of xs) all (distinct_rising entity_cmp (entities_of xs) h.rise) (λ q k. member_known q (appears_known q (sym (h.exactly q) ∙ k))) in
      let a = length-map xs entity_shown in
      let b = length-append (node_entities c.nodes) (map entity_of c.accepted) in
      let d = length-map c.nodes Node in
      let e = length-map c.accepted entity_of in
      omega (arith, few, a, b, d, e)

-- ---- the entities on a roster, one after another

pub nodes_kept : (c : Contents) (w : World) (ns : List ℕ) (i n : ℕ) (xs ys : List ShownEntity) → i < length ns → slice_get ns i ≡ Some n → entities_of xs ≡ filter (appears w) (nodes_among c (take i ns))
    → entities_of ys ≡ entities_of xs ++ filter (appears w) (nodes_among c (n ∷ [])) → entities_of ys ≡ filter (appears w) (nodes_among c (take (i + 1) ns))
nodes_kept c w ns i n xs ys lt here kept more =
    more
    ∙ (ap (λ zs. zs ++ filter (appears w) (nodes_among c (n ∷ []))) kept
    ∙ (sym (filter-append (appears w) (nodes_among c (take i ns)) (nodes_among c (n ∷ []))) ∙ ap (filter (appears w)) (sym (nodes_more c ns i n lt here))))

pub edges_kept : (c : Contents) (w : World) (nodes : List Entity) (es : List ℕ) (i e : ℕ) (xs ys : List ShownEntity) → i < length es → slice_get es i ≡ Some e → entities_of xs ≡ filter (appears w) (nodes ++ edges_among c (take i es))
    → entities_of ys ≡ entities_of xs ++ filter (appears w) (edges_among c (e ∷ [])) → entities_of ys ≡ filter (appears w) (nodes ++ edges_among c (take (i + 1) es))
edges_kept c w nodes es i e xs ys lt here kept more =
    more
    ∙ (ap (λ zs. zs ++ filter (appears w) (edges_among c (e ∷ []))) kept
    ∙ (sym (filter-append (appears w) (nodes ++ edges_among c (take i es)) (edges_among c (e ∷ [])))
    ∙ ap (filter (appears w)) (append_assoc nodes (edges_among c (take i es)) (edges_among c (e ∷ [])) ∙ ap (λ zs. nodes ++ zs) (sym (edges_more c es i e lt here)))))

-- the edges come after all nodes
pub nodes_all : (c : Contents) (w : World) (ns : List ℕ) (i : ℕ) (xs : List ShownEntity) → length ns ≤ i → entities_of xs ≡ filter (appears w) (nodes_among c (take i ns)) → entities_of xs ≡ filter (appears w) (nodes_among c ns ++ [])
nodes_all c w ns i xs all h = h ∙ ap (filter (appears w)) (ap (nodes_among c) (take_all i ns all) ∙ sym (append-nil (nodes_among c ns)))

pub edges_all : (c : Contents) (w : World) (r : Roster) (i : ℕ) (xs : List ShownEntity) → length (edges_on c r) ≤ i → entities_of xs ≡ filter (appears w) (nodes_among c (nodes_on c r) ++ edges_among c (take i (edges_on c r))) → entities_of xs ≡ filter (appears w) (entities_on c r)
edges_all c w r i xs all h = h ∙ ap (λ es. filter (appears w) (nodes_among c (nodes_on c r) ++ edges_among c es)) (take_all i (edges_on c r) all)
