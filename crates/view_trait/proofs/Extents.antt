-- How many events lists have, and their first and last times.
use Rattle.std.proofs.Common.{◌≡◌, ◌⊎◌, ℤ, ◌≤ℤ◌, Bool, true, false, List, [], ◌∷◌, ◌++◌, cond, length, map, take, ℕ, ◌<◌, ◌≤◌, Option, Some, None, refl, sym, ◌∙◌, ap, subst, arith, inl, inr, append-nil, append_assoc, length-append, ◌+◌}
use Rattle.std.specs.Prelude.{int_le, nat_lt, slice_get}
use Rattle.std.specs.Int.{int_max, int_min}
use Rattle.std.specs.Int.Signed.{≤ℤ_refl}
use Rattle.std.specs.List.{list_any, filter, flat_map, AllByRecursion}
use Rattle.std.specs.Ordering.{int_eq, nat_cmp}
use Rattle.std.proofs.lemmas.Bool.{cases_Bool, or_left, or_right, or_cases, true≢false}
use Rattle.std.proofs.lemmas.Int.{ints, clamps}
use Rattle.std.proofs.lemmas.List.{take_all}
use Rattle.std.proofs.lemmas.List.Folds.{list_any-append}
use Rattle.std.proofs.lemmas.Grind.{flat_map-append}
use Rattle.graph_model.specs.declared.events.Entity.{Entity}
use Rattle.graph_model.specs.declared.events.Event.{Event}
use Rattle.graph_model.specs.Entity.{is_about}
use Rattle.graph_model.specs.Rising.{Rises}
use Rattle.graph_model.specs.World.{World, event_cmp, arrange, events_of}
use Rattle.graph_model.specs.Windows.{last_time}
use Rattle.world_laws.proofs.Filters.{each_weaker, each_append}
use Rattle.world_laws.proofs.InOrder.{each_in_order, IsInOrder-filter}
use Rattle.world_laws.proofs.Counts.{length_in_order}
use Rattle.world_laws.proofs.Listed.{in_order_from_arranged}
use Rattle.world_laws.proofs.Nested.{TimesRise}
use Rattle.world_laws.proofs.RisingFixed.{any_in_order}
use Rattle.world_laws.proofs.Times.{le_from_test, gt_from_test}
use Rattle.world_laws.proofs.Windows.{TimesRise-in_order}
use Rattle.graph_store.specs.Contents.{Contents}
use Rattle.view_trait.specs.Coverage.{Covers, edges_among, edges_on, entities_on, nodes_among, nodes_on}
use Rattle.view_trait.specs.Extent.{time_of_first, time_of_last, extent_of, earlier_of, later_of, events_of_edge, events_of_node}
use Rattle.view_trait.specs.Meaning.{IsShown, node_at, edge_at}
use Rattle.view_trait.specs.declared.extent_of_view.WorldExtent.{WorldExtent}
use Rattle.view_trait.specs.declared.rosters.Roster.{Roster}
use Rattle.view_trait.proofs.OnRoster.{edges_more, nodes_more, world_on}

abbrev is_timed : ℤ → Event → Bool
is_timed t x = int_eq x.time t

-- the least and the greatest time of a list, if it has an event
abbrev pub IsLeast : List Event → Option ℤ → Type 0
IsLeast xs None = xs ≡ []
IsLeast xs (Some t) = AllByRecursion (λ (x : Event). t ≤ℤ x.time) xs × (list_any (is_timed t) xs ≡ true)

abbrev pub IsGreatest : List Event → Option ℤ → Type 0
IsGreatest xs None = xs ≡ []
IsGreatest xs (Some t) = AllByRecursion (λ (x : Event). x.time ≤ℤ t) xs × (list_any (is_timed t) xs ≡ true)

-- how many events a list has, in any order, and the times between which they are
pub record IsExtent (xs : List Event) (r : WorldExtent) : Type 0 where
  pub events : r.events ≡ length xs
  pub first : IsLeast xs r.first
  pub last : IsGreatest xs r.last

-- ---- two lists

any_either : (p : Event → Bool) (xs ys : List Event) → (list_any p xs ≡ true) ⊎ (list_any p ys ≡ true) → list_any p (xs ++ ys) ≡ true
any_either p xs ys h = list_any-append p xs ys ∙ elim h [
  | inl a ↦ or_left (list_any p xs) (list_any p ys) a
  | inr b ↦ or_right (list_any p xs) (list_any p ys) b
]

no_event : (xs ys : List Event) → xs ≡ [] → ys ≡ [] → xs ++ ys ≡ []
no_event xs ys h k = ap (λ zs. zs ++ ys) h ∙ k

min_below_first : (s t : ℤ) → int_min s t ≤ℤ s
min_below_first s t = omega (arith, ints, clamps)

min_below_second : (s t : ℤ) → int_min s t ≤ℤ t
min_below_second s t = omega (arith, ints, clamps)

max_above_first : (s t : ℤ) → s ≤ℤ int_max s t
max_above_first s t = omega (arith, ints, clamps)

max_above_second : (s t : ℤ) → t ≤ℤ int_max s t
max_above_second s t = omega (arith, ints, clamps)

min_is : (s t : ℤ) → (int_min s t ≡ s) ⊎ (int_min s t ≡ t)
min_is s t = elim (cases_Bool (int_le s t)) [
  | inl e ↦ inl (let le = le_from_test s t e in omega (arith, ints, clamps))
  | inr e ↦ inr (let gt = gt_from_test s t e in omega (arith, ints, clamps))
]

max_is : (s t : ℤ) → (int_max s t ≡ s) ⊎ (int_max s t ≡ t)
max_is s t = elim (cases_Bool (int_le s t)) [
  | inl e ↦ inr (let le = le_from_test s t e in omega (arith, ints, clamps))
  | inr e ↦ inl (let gt = gt_from_test s t e in omega (arith, ints, clamps))
]

≤ℤ-trans : (a b c : ℤ) → a ≤ℤ b → b ≤ℤ c → a ≤ℤ c
≤ℤ-trans a b c h k = omega (arith, ints)

either_time : (xs ys : List Event) (m s t : ℤ) → (m ≡ s) ⊎ (m ≡ t) → list_any (is_timed s) xs ≡ true → list_any (is_timed t) ys ≡ true → list_any (is_timed m) (xs ++ ys) ≡ true
either_time xs ys m s t is h k = any_either (is_timed m) xs ys (elim is [
  | inl e ↦ inl (subst (λ z. list_any (is_timed z) xs ≡ true) (sym e) h)
  | inr e ↦ inr (subst (λ z. list_any (is_timed z) ys ≡ true) (sym e) k)
])

least_of_both : (xs ys : List Event) (a b : Option ℤ) → IsLeast xs a → IsLeast ys b → IsLeast (xs ++ ys) (earlier_of a b)
least_of_both xs ys None None h k = no_event xs ys h k
least_of_both xs ys None (Some t) h k = subst (λ zs. IsLeast (zs ++ ys) (Some t)) (sym h) k
least_of_both xs ys (Some s) None h k = subst (λ zs. IsLeast zs (Some s)) (sym (ap (λ zs. xs ++ zs) k ∙ append-nil xs)) h
least_of_both xs ys (Some s) (Some t) h k = (
  each_append (λ (x : Event). int_min s t ≤ℤ x.time) xs ys
      (each_weaker (λ (x : Event). s ≤ℤ x.time) (λ (x : Event). int_min s t ≤ℤ x.time) (λ x m. ≤ℤ-trans (int_min s t) s x.time (min_below_first s t) m) xs h.0)
      (each_weaker (λ (x : Event). t ≤ℤ x.time) (λ (x : Event). int_min s t ≤ℤ x.time) (λ x m. ≤ℤ-trans (int_min s t) t x.time (min_below_second s t) m) ys k.0),
  either_time xs ys (int_min s t) s t (min_is s t) h.1 k.1,
)

greatest_of_both : (xs ys : List Event) (a b : Option ℤ) → IsGreatest xs a → IsGreatest ys b → IsGreatest (xs ++ ys) (later_of a b)
greatest_of_both xs ys None None h k = no_event xs ys h k
greatest_of_both xs ys None (Some t) h k = subst (λ zs. IsGreatest (zs ++ ys) (Some t)) (sym h) k
greatest_of_both xs ys (Some s) None h k = subst (λ zs. IsGreatest zs (Some s)) (sym (ap (λ zs. xs ++ zs) k ∙ append-nil xs)) h
greatest_of_both xs ys (Some s) (Some t) h k = (
  each_append (λ (x : Event). x.time ≤ℤ int_max s t) xs ys
      (each_weaker (λ (x : Event). x.time ≤ℤ s) (λ (x : Event). x.time ≤ℤ int_max s t) (λ x m. ≤ℤ-trans x.time s (int_max s t) m (max_above_first s t)) xs h.0)
      (each_weaker (λ (x : Event). x.time ≤ℤ t) (λ (x : Event). x.time ≤ℤ int_max s t) (λ x m. ≤ℤ-trans x.time t (int_max s t) m (max_above_second s t)) ys k.0),
  either_time xs ys (int_max s t) s t (max_is s t) h.1 k.1,
)

-- ---- arranged lists

least_arranged : (xs : List Event) (a : Option ℤ) → IsLeast xs a → IsLeast (arrange xs) a
least_arranged xs None h = ap arrange h
least_arranged xs (Some t) h = (each_in_order event_cmp (λ (x : Event). t ≤ℤ x.time) xs h.0, any_in_order event_cmp (is_timed t) xs ∙ h.1)

greatest_arranged : (xs : List Event) (a : Option ℤ) → IsGreatest xs a → IsGreatest (arrange xs) a
greatest_arranged xs None h = ap arrange h
greatest_arranged xs (Some t) h = (each_in_order event_cmp (λ (x : Event). x.time ≤ℤ t) xs h.0, any_in_order event_cmp (is_timed t) xs ∙ h.1)

-- ---- lists whose times rise

own_time : (t : ℤ) → int_eq t t ≡ true
own_time t = grind (arith, ints)

least_first : (xs : List Event) → TimesRise xs → IsLeast xs (time_of_first xs)
least_first [] h = refl
least_first (x ∷ xs) h = ((≤ℤ_refl x.time, h.0), or_left (is_timed x.time x) (list_any (is_timed x.time) xs) (own_time x.time))

greatest_after : (x : Event) (xs : List Event) → TimesRise (x ∷ xs) → IsGreatest (x ∷ xs) (Some (last_time x.time xs))
greatest_after x [] h = ((≤ℤ_refl x.time, tt), or_left (is_timed x.time x) false (own_time x.time))
greatest_after x (y ∷ ys) h =
    let r = greatest_after y ys h.1 in
    let last = last_time y.time ys in
    ((≤ℤ-trans x.time y.time last h.0.0 r.0.0, r.0), or_right (is_timed last x) (list_any (is_timed last) (y ∷ ys)) r.1)

greatest_last : (xs : List Event) → TimesRise xs → IsGreatest xs (time_of_last xs)
greatest_last [] h = refl
greatest_last (x ∷ xs) h = greatest_after x xs h

pub IsExtent-rising : (xs : List Event) → TimesRise xs → IsExtent xs (extent_of xs)
IsExtent-rising xs h = record { events = refl; first = least_first xs h; last = greatest_last xs h }

-- ---- there is one extent

time_is : (a b : ℤ) → int_eq a b ≡ true → a ≡ b
time_is a b h = grind (arith, ints, h)

any_after : (s t : ℤ) (xs : List Event) → AllByRecursion (λ (x : Event). s ≤ℤ x.time) xs → list_any (is_timed t) xs ≡ true → s ≤ℤ t
any_after s t [] h k = absurd (true≢false (sym k))
any_after s t (x ∷ xs) h k = elim (or_cases (is_timed t x) (list_any (is_timed t) xs) k) [
  | inl e ↦ subst (λ z. s ≤ℤ z) (time_is x.time t e) h.0
  | inr e ↦ any_after s t xs h.1 e
]

any_before : (s t : ℤ) (xs : List Event) → AllByRecursion (λ (x : Event). x.time ≤ℤ s) xs → list_any (is_timed t) xs ≡ true → t ≤ℤ s
any_before s t [] h k = absurd (true≢false (sym k))
any_before s t (x ∷ xs) h k = elim (or_cases (is_timed t x) (list_any (is_timed t) xs) k) [
  | inl e ↦ subst (λ z. z ≤ℤ s) (time_is x.time t e) h.0
  | inr e ↦ any_before s t xs h.1 e
]

both_ways : (s t : ℤ) → s ≤ℤ t → t ≤ℤ s → s ≡ t
both_ways s t h k = omega (arith, ints)

none_timed : (t : ℤ) (xs : List Event) → xs ≡ [] → list_any (is_timed t) xs ≡ true → ⊥
none_timed t xs h k = true≢false (sym k ∙ ap (list_any (is_timed t)) h)

least_once : (xs : List Event) (a b : Option ℤ) → IsLeast xs a → IsLeast xs b → a ≡ b
least_once xs None None h k = refl
least_once xs None (Some t) h k = absurd (none_timed t xs h k.1)
least_once xs (Some s) None h k = absurd (none_timed s xs k h.1)
least_once xs (Some s) (Some t) h k = ap Some (both_ways s t (any_after s t xs h.0 k.1) (any_after t s xs k.0 h.1))

greatest_once : (xs : List Event) (a b : Option ℤ) → IsGreatest xs a → IsGreatest xs b → a ≡ b
greatest_once xs None None h k = refl
greatest_once xs None (Some t) h k = absurd (none_timed t xs h k.1)
greatest_once xs (Some s) None h k = absurd (none_timed s xs k h.1)
greatest_once xs (Some s) (Some t) h k = ap Some (both_ways s t (any_before t s xs k.0 h.1) (any_before s t xs h.0 k.1))

-- ---- what callers cite

pub IsExtent-append : (xs ys : List Event) (a b r : WorldExtent) → IsExtent xs a → IsExtent ys b → r.events ≡ a.events + b.events → r.first ≡ earlier_of a.first b.first → r.last ≡ later_of a.last b.last → IsExtent (xs ++ ys) r
IsExtent-append xs ys a b r h k events first last = record {
  events = (let n = length-append xs ys in let p = h.events in let q = k.events in omega (arith, n, p, q, events));
  first = subst (IsLeast (xs ++ ys)) (sym first) (least_of_both xs ys a.first b.first h.first k.first);
  last = subst (IsGreatest (xs ++ ys)) (sym last) (greatest_of_both xs ys a.last b.last h.last k.last);
}

-- a list that is arranged has the extent of its events in any order
pub extent_arranged : (xs ys : List Event) (r : WorldExtent) → IsExtent xs r → arrange xs ≡ ys → arrange ys ≡ ys → r ≡ extent_of ys
extent_arranged xs ys r h is arranged =
    let rise = TimesRise-in_order ys (in_order_from_arranged ys arranged) in
    let events : r.events ≡ length ys = h.events ∙ (sym (length_in_order event_cmp xs) ∙ ap length is) in
    let first = least_once ys r.first (time_of_first ys) (subst (λ zs. IsLeast zs r.first) is (least_arranged xs r.first h.first)) (least_first ys rise) in
    let last = greatest_once ys r.last (time_of_last ys) (subst (λ zs. IsGreatest zs r.last) is (greatest_arranged xs r.last h.last)) (greatest_last ys rise) in
    λ k. record { events = events k; first = first k; last = last k }

pub IsExtent-none : (r : WorldExtent) → r ≡ extent_of [] → IsExtent [] r
IsExtent-none r e = subst (IsExtent []) (sym e) (IsExtent-rising [] tt)

-- ---- the nodes and edges on a roster, one after another

-- the events of entities, and those of one number more
pub extent_more : (xs ys : List Event) (a b r : WorldExtent) → TimesRise ys → IsExtent xs a → b ≡ extent_of ys
    → r.events ≡ a.events + b.events → r.first ≡ earlier_of a.first b.first → r.last ≡ later_of a.last b.last → IsExtent (xs ++ ys) r
extent_more xs ys a b r rise h own events first last =
    IsExtent-append xs ys a b r h (subst (IsExtent ys) (sym own) (IsExtent-rising ys rise)) events first last

-- times rise in the events of one entity, and where there are none
some_rise : (w : World) (x : Entity) (t : Bool) → arrange w.events ≡ w.events → TimesRise (cond t (events_of w x) [])
some_rise w x true h = TimesRise-in_order (events_of w x) (IsInOrder-filter event_cmp (is_about x) w.events (in_order_from_arranged w.events h))
some_rise w x false h = tt

-- the events of a number are those of what it names
named_events : (w : World) (f : ℕ → Entity) (m n : ℕ) → flat_map (events_of w) (map f (filter (λ k. nat_lt k m) (n ∷ []))) ≡ cond (nat_lt n m) (events_of w (f n)) []
named_events w f m n = by (nat_lt n m)
  where
    by : (t : Bool) → flat_map (events_of w) (map f (cond t (n ∷ []) [])) ≡ cond t (events_of w (f n)) []
    by true = append-nil (events_of w (f n))
    by false = refl

module _ (c : Contents) (w : World) (shown : IsShown c w) where
  pub nodes_extent : (ns : List ℕ) (i n : ℕ) (a b r : WorldExtent) → i < length ns → slice_get ns i ≡ Some n → IsExtent (flat_map (events_of w) (nodes_among c (take i ns))) a → b ≡ extent_of (events_of_node c w n)
      → r.events ≡ a.events + b.events → r.first ≡ earlier_of a.first b.first → r.last ≡ later_of a.last b.last → IsExtent (flat_map (events_of w) (nodes_among c (take (i + 1) ns))) r
  nodes_extent ns i n a b r lt here h own events first last =
      subst (λ zs. IsExtent zs r)
      (sym (ap (flat_map (events_of w)) (nodes_more c ns i n lt here)
      ∙ (flat_map-append (events_of w) (nodes_among c (take i ns)) (nodes_among c (n ∷ [])) ∙ ap (λ zs. flat_map (events_of w) (nodes_among c (take i ns)) ++ zs) (named_events w (node_at c) (length c.nodes) n))))
      (extent_more (flat_map (events_of w) (nodes_among c (take i ns))) (events_of_node c w n) a b r (some_rise w (node_at c n) (nat_lt n (length c.nodes)) shown.lawful.arranged) h own events first last)

  pub edges_extent : (nodes : List Entity) (es : List ℕ) (i e : ℕ) (a b r : WorldExtent) → i < length es → slice_get es i ≡ Some e → IsExtent (flat_map (events_of w) (nodes ++ edges_among c (take i es))) a → b ≡ extent_of (events_of_edge c w e)
      → r.events ≡ a.events + b.events → r.first ≡ earlier_of a.first b.first → r.last ≡ later_of a.last b.last → IsExtent (flat_map (events_of w) (nodes ++ edges_among c (take (i + 1) es))) r
  edges_extent nodes es i e a b r lt here h own events first last =
      subst (λ zs. IsExtent zs r)
      (sym (ap (λ xs. flat_map (events_of w) (nodes ++ xs)) (edges_more c es i e lt here)
      ∙ (ap (flat_map (events_of w)) (sym (append_assoc nodes (edges_among c (take i es)) (edges_among c (e ∷ []))))
      ∙ (flat_map-append (events_of w) (nodes ++ edges_among c (take i es)) (edges_among c (e ∷ [])) ∙ ap (λ zs. flat_map (events_of w) (nodes ++ edges_among c (take i es)) ++ zs) (named_events w (edge_at c) (length c.edges) e)))))
      (extent_more (flat_map (events_of w) (nodes ++ edges_among c (take i es))) (events_of_edge c w e) a b r (some_rise w (edge_at c e) (nat_lt e (length c.edges)) shown.lawful.arranged) h own events first last)

  -- the edges come after all nodes
  pub nodes_whole : (ns : List ℕ) (i : ℕ) (r : WorldExtent) → length ns ≤ i → IsExtent (flat_map (events_of w) (nodes_among c (take i ns))) r → IsExtent (flat_map (events_of w) (nodes_among c ns ++ [])) r
  nodes_whole ns i r all h = subst (λ es. IsExtent (flat_map (events_of w) es) r) (ap (nodes_among c) (take_all i ns all) ∙ sym (append-nil (nodes_among c ns))) h

  -- the extent of all that is on a roster that covers the world is that of the world
  pub edges_whole : (roster : Roster) (i : ℕ) (r : WorldExtent) → Covers c w roster → Rises nat_cmp (nodes_on c roster) → Rises nat_cmp (edges_on c roster) → length (edges_on c roster) ≤ i
      → IsExtent (flat_map (events_of w) (nodes_among c (nodes_on c roster) ++ edges_among c (take i (edges_on c roster)))) r → r ≡ extent_of w.events
  edges_whole roster i r covers nodes edges all h =
      extent_arranged (flat_map (events_of w) (entities_on c roster)) w.events r
      (subst (λ es. IsExtent (flat_map (events_of w) (nodes_among c (nodes_on c roster) ++ edges_among c es)) r) (take_all i (edges_on c roster) all) h)
      (world_on c w roster shown covers nodes edges) shown.lawful.arranged
