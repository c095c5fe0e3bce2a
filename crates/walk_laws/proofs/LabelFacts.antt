-- Least places are weak labels.
use Rattle.std.proofs.Common.{◌≡◌, ℕ, zero, suc, ◌+◌, ◌<◌, ◌≤◌, true, false, List, [], ◌∷◌, length, map, get_or, refl, sym, ◌∙◌, ap, subst, arith}
use Rattle.std.specs.List.{Contains, range_with_len}
use Rattle.std.specs.declared.cmp.Ordering.{Ordering}
use Rattle.std.specs.declared.cmp.Ordering.TheVariants.{Less, Equal, Greater}
use Rattle.std.specs.Cmp.{tied_itself}
use Rattle.std.specs.Ordering.{is_gt, ordering_reverse}
use Rattle.std.proofs.lemmas.Bool.{true≢false}
use Rattle.std.proofs.lemmas.List.FromFn.{fill_by_all, get_or-range_with_len, length-range_with_len}
use Rattle.graph_model.specs.declared.queries.Direction.TheVariants.{Both}
use Rattle.graph_model.specs.declared.queries.Ask.TheVariants.{Weak}
use Rattle.graph_model.specs.Answer.{Row, LabelRow, IsFact, AreTheFacts}
use Rattle.graph_model.specs.Names.{name_cmp, name_total, same_name}
use Rattle.graph_model.specs.Neighbours.{leads}
use Rattle.graph_model.specs.Presence.{node_present, nodes}
use Rattle.graph_model.specs.Rising.{Rises}
use Rattle.graph_model.specs.Walk.{IsLabel, Leads}
use Rattle.graph_model.specs.World.{World}
use Rattle.world_laws.proofs.Answers.{contains_map, less_then, map_contains}
use Rattle.world_laws.proofs.ListItems.{each_at}
use Rattle.world_laws.proofs.Members.{nodes_has, nodes_rise}
use Rattle.world_laws.proofs.Order.{name_exact, same_name-exact}
use Rattle.world_laws.proofs.Reach.{leads_present}
use Rattle.walk_laws.specs.Labels.{AreLeastPlaces, label_row, label_rows}
use Rattle.walk_laws.specs.Numbers.{name_of}
use Rattle.walk_laws.proofs.Places.{some_place}
use Rattle.walk_laws.proofs.Rows.{rows_rise}

-- a name that rises is not greater than one at a later place
rises_at : (names : List (List ℕ)) → Rises name_cmp names → (i j : ℕ) → i ≤ j → j < length names → is_gt (name_cmp (name_of names i) (name_of names j)) ≡ false
rises_at [] h i j le lt = absurd (omega arith)
rises_at (x ∷ xs) h zero zero le lt = ap is_gt (tied_itself name_total x)
rises_at (x ∷ xs) h zero (suc j) le lt = ap is_gt (each_at (λ y. name_cmp x y ≡ Less) xs j [] h.0 (omega arith))
rises_at (x ∷ xs) h (suc i) zero le lt = absurd (omega arith)
rises_at (x ∷ xs) h (suc i) (suc j) le lt = rises_at xs h.1 i j (omega arith) (omega arith)

-- a node has one label
both_least : (a b : List ℕ) (o : Ordering) → name_cmp a b ≡ o → is_gt (name_cmp a b) ≡ false → is_gt (name_cmp b a) ≡ false → a ≡ b
both_least a b Less e h k = let back : name_cmp b a ≡ Greater = name_total.antisymm b a ∙ ap ordering_reverse e in absurd (true≢false (sym (ap is_gt back) ∙ k))
both_least a b Equal e h k = name_exact a b e
both_least a b Greater e h k = absurd (true≢false (sym (ap is_gt e) ∙ h))

one_label : (w : World) (node l m : List ℕ) → IsLabel w node l → IsLabel w node m → l ≡ m
one_label w node l m h k = both_least l m (name_cmp l m) refl (h.1 m k.0) (k.1 l h.0)

module _ (w : World) (least : List ℕ) (h : AreLeastPlaces w least) where
  abbrev name_at : ℕ → List ℕ
  name_at i = name_of (nodes w) i

  abbrev least_of : ℕ → ℕ
  least_of i = get_or least i 0

  -- the place of a present node
  place_of : (name : List ℕ) → node_present w name ≡ true → (i : ℕ) × (i < length (nodes w)) × (name_at i ≡ name)
  place_of name present =
      let r = some_place (same_name name) (nodes w) [] (nodes_has w name ∙ present) in
      (r.place, r.below, sym (same_name-exact name (name_of (nodes w) r.place) r.passes))

  -- a walk either way leads to nodes that are given the same
  same_along : (names : List (List ℕ)) (i : ℕ) (to : List ℕ) → i < length (nodes w) → Leads w Both (name_at i) names to → (j : ℕ) × (j < length (nodes w)) × (name_at j ≡ to) × (least_of i ≡ least_of j)
  same_along [] i to lt e = (i, lt, e, refl)
  same_along (next ∷ names) i to lt e =
      let n = place_of next (leads_present w Both (name_at i) next e.0) in
      let led : leads w Both (name_at i) (name_at n.0) ≡ true = ap (leads w Both (name_at i)) n.2 ∙ e.0 in
      let r = same_along names n.0 to n.1 (subst (λ z. Leads w Both z names to) (sym n.2) e.1) in
      (r.0, r.1, r.2, h.same i n.0 lt n.1 led ∙ r.3)

  is_label : (i : ℕ) → i < length (nodes w) → IsLabel w (name_at i) (name_at (least_of i))
  is_label i lt = (
    h.reached.reached i lt,
    λ other r.
        let s = same_along r.1.1.0 i other lt r.1.1.2 in
        let low = h.reached.lower s.0 s.1 in
        let same = s.3 in
        subst (λ z. is_gt (name_cmp (name_at (least_of i)) z) ≡ false) s.2 (rises_at (nodes w) (nodes_rise w) (least_of i) s.0 (omega arith) s.1),
  )

  places : List ℕ
  places = range_with_len 0 (length (nodes w))

  place_below : (i : ℕ) → Contains places i → i < length (nodes w)
  unfolding places
  place_below i c =
      let long = length-range_with_len 0 (length (nodes w)) in
      let lt : c.0 < length (nodes w) = (let k = c.1 in omega (arith, k, long)) in
      let e = sym (get_or-range_with_len 0 (length (nodes w)) c.0 i lt) ∙ c.2 in
      omega (arith, e, lt)

  has_place : (i : ℕ) → i < length (nodes w) → Contains places i
  unfolding places
  has_place i lt =
      let long = length-range_with_len 0 (length (nodes w)) in
      (i, omega (arith, long, lt), get_or-range_with_len 0 (length (nodes w)) i i lt ∙ (let e : 0 + i ≡ i = omega arith in e))

  names_are : nodes w ≡ map name_at places
  unfolding places
  names_are = fill_by_all name_at (nodes w) (length (nodes w)) [] refl (λ k lt. refl)

  is_fact : (row : Row) → Contains (label_rows (nodes w) least) row → IsFact w Weak row
  unfolding places
  is_fact row c =
      let r = contains_map (label_row (nodes w) least) places row c in
      (name_at r.0, (name_at (least_of r.0), is_label r.0 (place_below r.0 r.1), r.2))

  has_fact : (row : Row) → IsFact w Weak row → Contains (label_rows (nodes w) least) row
  unfolding places
  has_fact row f =
      let n = place_of f.0 f.1.1.0.1.0 in
      let own = subst (λ z. IsLabel w z (name_at (least_of n.0))) n.2 (is_label n.0 n.1) in
      let label : name_at (least_of n.0) ≡ f.1.0 = one_label w f.0 (name_at (least_of n.0)) f.1.0 own f.1.1 in
      subst (Contains (label_rows (nodes w) least)) ((λ i. LabelRow (n.2 i) (label i)) ∙ sym f.1.2)
      (map_contains (label_row (nodes w) least) places n.0 (has_place n.0 n.1))

  pub label_facts : AreTheFacts w Weak (label_rows (nodes w) least)
  unfolding places
  label_facts = record {
    rise = rows_rise name_at (label_row (nodes w) least) (λ i j. less_then (name_cmp (name_at i) (name_at j))) places (subst (Rises name_cmp) names_are (nodes_rise w));
    exact = λ row. (is_fact row, has_fact row);
  }
