-- Events held by numbers, one node or edge after another, and then in the order of time.
use Rattle.std.proofs.Common.{◌≡◌, ℕ, ℤ, zero, suc, ◌+◌, ◌-◌, ◌<◌, ◌≤ℤ◌, Bool, true, false, not, ◌&&◌, ◌||◌, List, [], ◌∷◌, ◌++◌, cond, map, length, get_or, refl, sym, ◌∙◌, ap, subst, arith, append-nil, length-append}
use Rattle.std.specs.Prelude.{◌==◌, Some, nat_lt, int_lt, slice_get}
use Rattle.std.specs.Option.{option_map}
use Rattle.std.specs.List.{filter, flat_map, list_any, AllByRecursion}
use Rattle.std.specs.List.Sorted.{IsSortedByKey, IsStableByKey, ties}
use Rattle.std.specs.Cmp.{IsTotalOrder}
use Rattle.std.specs.Int.Signed.{≤ℤ_refl}
use Rattle.std.specs.declared.cmp.Ordering.{Ordering}
use Rattle.std.specs.declared.cmp.Ordering.TheVariants.{Less, Equal, Greater}
use Rattle.std.specs.Ordering.{int_cmp, int_eq, is_eq, is_gt, is_lt, nat_cmp, ordering_reverse}
use Rattle.std.proofs.lemmas.Bool.{cond-true, cond-false, eqb-true, lt-ltb, or_left, or_parts, or_right, true≢false}
use Rattle.std.proofs.lemmas.Bool.Decides.{nat_tests}
use Rattle.std.proofs.lemmas.Cmp.{int_cmp_total, on_total, tied_itself}
use Rattle.std.proofs.lemmas.Grind.{flat_map-append}
use Rattle.std.proofs.lemmas.Int.{ints}
use Rattle.std.proofs.lemmas.List.{map-append, length-map}
use Rattle.std.proofs.lemmas.List.Elements.{All-from_recursion, filter-append}
use Rattle.std.proofs.lemmas.List.Folds.{list_any_none}
use Rattle.std.proofs.lemmas.List.Kept.{AllPairs-cons}
use Rattle.std.proofs.lemmas.List.Sorted.{ranks_by, sorted_far}
use Rattle.graph_model.specs.declared.events.Entity.{Entity}
use Rattle.graph_model.specs.declared.events.Event.{Event}
use Rattle.graph_model.specs.Entity.{is_about}
use Rattle.graph_model.specs.Rising.{in_order, IsInOrder, Rises}
use Rattle.graph_model.specs.World.{World, IsLawful, arrange, event_cmp, events_of}
use Rattle.world_laws.proofs.Arranged.{in_order_stable}
use Rattle.world_laws.proofs.Carried.{filter_flat_map}
use Rattle.world_laws.proofs.Counts.{length_in_order}
use Rattle.world_laws.proofs.Filters.{each_weaker, filter_none, filter_same}
use Rattle.world_laws.proofs.InOrder.{filter_in_order, fixed_by_filters, in_order_already, IsInOrder-filter, IsInOrder-in_order}
use Rattle.world_laws.proofs.Listed.{each_any, in_order_from_arranged}
use Rattle.world_laws.proofs.ListItems.{any_map, each_from, each_map}
use Rattle.world_laws.proofs.Nested.{TimesRise as EventsRise}
use Rattle.world_laws.proofs.Order.{event_total}
use Rattle.world_laws.proofs.RisingFixed.{any_in_order}
use Rattle.world_laws.proofs.Times.{ge_from_test, le_from_cmp, not_greater, not_lt_test}
use Rattle.world_laws.proofs.Windows.{TimesRise-in_order}
use Rattle.graph_store.specs.Contents.{Contents}
use Rattle.view_trait.specs.Coverage.{Covers, edges_among, edges_on, nodes_among, nodes_on}
use Rattle.view_trait.specs.Extent.{earlier_of, extent_of, later_of, time_of_first, time_of_last}
use Rattle.view_trait.specs.Meaning.{IsShown, edge_at, node_at}
use Rattle.view_trait.specs.Numbered.{is_listed}
use Rattle.view_trait.specs.declared.extent_of_view.WorldExtent.{WorldExtent}
use Rattle.view_trait.specs.declared.rosters.Roster.{Roster}
use Rattle.view_trait.proofs.Extents.{IsExtent, IsExtent-append, IsGreatest, IsLeast, extent_arranged}
use Rattle.view_trait.proofs.OnRoster.{world_on}
use Rattle.view_trait.proofs.Rising.{less_from}
use Rattle.event_sweep.specs.Held.{AreHeld, moment_held, moment_of}
use Rattle.event_sweep.specs.Swept.{TimesRise, is_of}
use Rattle.event_sweep.specs.declared.held_events.HeldEvent.{HeldEvent}
use Rattle.window_sweep.specs.Filling.{AreFilled, edges_held, first_held, held_of, held_under, last_held, nodes_held, time_cmp}

abbrev time_held : HeldEvent → ℤ
time_held x = x.time

abbrev time_of : Event → ℤ
time_of y = y.time

-- ---- the order of time

pub time_total : IsTotalOrder time_cmp
time_total = on_total time_held int_cmp_total

rises : (xs : List HeldEvent) → IsInOrder time_cmp xs → TimesRise xs
rises [] h = λ i j d less below. absurd (omega (arith, below))
rises (x ∷ xs) h =
    AllPairs-cons (λ (y z : HeldEvent). y.time ≤ℤ z.time) x xs
    (All-from_recursion (λ (z : HeldEvent). x.time ≤ℤ z.time) xs (each_weaker (λ z. is_gt (time_cmp x z) ≡ false) (λ (z : HeldEvent). x.time ≤ℤ z.time) (λ z e. le_from_cmp x.time z.time e) xs h.0))
    (rises xs h.1)

sorted : (xs : List HeldEvent) → IsInOrder time_cmp (in_order time_cmp xs)
sorted xs = IsInOrder-in_order time_cmp time_total xs

turned : (o : Ordering) → is_lt o ≡ false → is_gt (ordering_reverse o) ≡ false
turned Less h = cc
turned Equal h = refl
turned Greater h = refl

order_from : (xs : List HeldEvent) → ((i j : ℕ) (d : HeldEvent) → i < j → j < length xs → is_gt (time_cmp (get_or xs i d) (get_or xs j d)) ≡ false) → IsInOrder time_cmp xs
order_from [] h = tt
order_from (x ∷ xs) h = (each_from (λ y. is_gt (time_cmp x y) ≡ false) xs x (λ j below. h zero (suc j) x (omega arith) (omega arith)), order_from xs (λ i j d less below. h (suc i) (suc j) d (omega arith) (omega arith)))

tie_is : (o : Ordering) → (not (is_lt (ordering_reverse o)) && not (is_lt o)) ≡ is_eq (ordering_reverse o)
tie_is Less = refl
tie_is Equal = refl
tie_is Greater = refl

-- what is sorted by time, where those of one time stay in their order, is in the order of time
module _ (xs ys : List HeldEvent) (by_time : IsSortedByKey time_held int_cmp ys) (stable : IsStableByKey time_held int_cmp xs ys) where
  by_order : IsInOrder time_cmp ys
  by_order = order_from ys (λ i j d less below.
      subst (λ o. is_gt o ≡ false) (sym (time_total.antisymm (get_or ys i d) (get_or ys j d)))
      (turned (time_cmp (get_or ys j d) (get_or ys i d)) (sorted_far (λ x y. is_lt (time_cmp x y)) (ranks_by time_total (λ x. x)) ys by_time i j d (omega arith) below)))

  abbrev tied : HeldEvent → HeldEvent → Bool
  tied x y = is_eq (time_cmp x y)

  each_tied : (x : HeldEvent) (zs : List HeldEvent) → filter (ties (λ y z. is_lt (time_cmp y z)) x) zs ≡ filter (tied x) zs
  each_tied x zs = filter_same (ties (λ y z. is_lt (time_cmp y z)) x) (tied x) zs (each_any (λ y. ties (λ z u. is_lt (time_cmp z u)) x y ≡ tied x y) same zs)
    where
      same : (y : HeldEvent) → ties (λ z u. is_lt (time_cmp z u)) x y ≡ tied x y
      same y = subst (λ o. (not (is_lt o) && not (is_lt (time_cmp y x))) ≡ is_eq o) (sym (time_total.antisymm x y)) (tie_is (time_cmp y x))

  pub in_time : ys ≡ in_order time_cmp xs
  in_time =
      fixed_by_filters time_cmp time_total tied (λ x. x) (λ x. ap is_eq (tied_itself time_total x)) (λ x y e. ap is_eq e) ys (in_order time_cmp xs) by_order (sorted xs)
      (λ k. sym (each_tied k ys) ∙ (stable k ∙ (each_tied k xs ∙ sym (in_order_stable time_cmp time_total k xs))))

-- events that rise by time are held in the order of time
held_in_order : (n : ℕ) (xs : List Event) → EventsRise xs → IsInOrder time_cmp (held_under n xs)
held_in_order n [] h = tt
held_in_order n (x ∷ xs) h = (
  each_map (λ y. is_gt (time_cmp (held_of n x) y) ≡ false) (held_of n) xs
      (each_weaker (λ (y : Event). x.time ≤ℤ y.time) (λ y. is_gt (time_cmp (held_of n x) (held_of n y)) ≡ false) (λ y le. not_greater x.time y.time le) xs h.0),
  held_in_order n xs h.1,
)

-- ---- what is held under one number

-- of what is held under a number all is of this number, and none is of another
own_held : (n k : ℕ) (t : Bool) → (k == n) ≡ t → (xs : List Event) → filter (is_of n) (held_under k xs) ≡ cond t (held_under k xs) []
own_held n k true e [] = refl
own_held n k true e (x ∷ xs) = cond-true (k == n) (held_of k x ∷ filter (is_of n) (held_under k xs)) (filter (is_of n) (held_under k xs)) e ∙ ap (λ l. held_of k x ∷ l) (own_held n k true e xs)
own_held n k false e [] = refl
own_held n k false e (x ∷ xs) = cond-false (k == n) (held_of k x ∷ filter (is_of n) (held_under k xs)) (filter (is_of n) (held_under k xs)) e ∙ own_held n k false e xs

-- a number that is less than others is none of them
none_after : (n : ℕ) (ks : List ℕ) → AllByRecursion (λ k. nat_cmp n k ≡ Less) ks → filter (λ k. k == n) ks ≡ []
none_after n ks h = filter_none (λ k. k == n) ks (each_weaker (λ k. nat_cmp n k ≡ Less) (λ k. (k == n) ≡ false) other ks h)
  where
    other : (k : ℕ) → nat_cmp n k ≡ Less → (k == n) ≡ false
    other k e = let less = less_from n k e in grind (arith, nat_tests, less)

-- a number stands once among numbers that rise, if it is there
once : (n : ℕ) (ks : List ℕ) → Rises nat_cmp ks → filter (λ k. k == n) ks ≡ cond (is_listed ks n) (n ∷ []) []
once n [] h = refl
once n (k ∷ ks) h = by (k == n) refl (once n ks h.1)
  where
    by : (t : Bool) → (k == n) ≡ t → filter (λ m. m == n) ks ≡ cond (is_listed ks n) (n ∷ []) [] → filter (λ m. m == n) (k ∷ ks) ≡ cond (is_listed (k ∷ ks) n) (n ∷ []) []
    by true e rest =
        let same : k ≡ n = eqb-true k n e in
        let none : filter (λ m. m == n) ks ≡ [] = none_after n ks (subst (λ z. AllByRecursion (λ m. nat_cmp z m ≡ Less) ks) same h.0) in
        cond-true (k == n) (k ∷ filter (λ m. m == n) ks) (filter (λ m. m == n) ks) e
        ∙ ((λ i. same i ∷ none i) ∙ sym (cond-true (is_listed (k ∷ ks) n) (n ∷ []) [] (or_left (k == n) (is_listed ks n) e)))
    by false e rest =
        cond-false (k == n) (k ∷ filter (λ m. m == n) ks) (filter (λ m. m == n) ks) e
        ∙ (rest ∙ ap (λ t. cond (t || is_listed ks n) (n ∷ []) []) (sym e))

own_moments : (n : ℕ) (xs : List Event) → map moment_held (held_under n xs) ≡ map moment_of xs
own_moments n [] = refl
own_moments n (x ∷ xs) = ap (λ l. moment_of x ∷ l) (own_moments n xs)

own_times : (n : ℕ) (xs : List Event) → map time_held (held_under n xs) ≡ map time_of xs
own_times n [] = refl
own_times n (x ∷ xs) = ap (λ l. x.time ∷ l) (own_times n xs)

-- ---- entities by their numbers, of which those below a count are there

module _ (w : World) (lawful : IsLawful w) (f : ℕ → Entity) (m : ℕ) where
  abbrev events_at : ℕ → List Event
  events_at n = cond (nat_lt n m) (events_of w (f n)) []

  abbrev all_held : List ℕ → List HeldEvent
  all_held ns = flat_map (λ n. held_under n (events_at n)) ns

  abbrev named : List ℕ → List Entity
  named ns = map f (filter (λ n. nat_lt n m) ns)

  own_order : (n : ℕ) → IsInOrder time_cmp (held_under n (events_at n))
  own_order n = held_in_order n (events_at n) (by (nat_lt n m))
    where
      by : (t : Bool) → EventsRise (cond t (events_of w (f n)) [])
      by true = TimesRise-in_order (events_of w (f n)) (IsInOrder-filter event_cmp (is_about (f n)) w.events (in_order_from_arranged w.events lawful.arranged))
      by false = tt

  of_number : (n : ℕ) (ns : List ℕ) → Rises nat_cmp ns → filter (is_of n) (all_held ns) ≡ cond (is_listed ns n) (held_under n (events_at n)) []
  of_number n ns rise =
      filter_flat_map (is_of n) (λ k. k == n) (λ k. held_under k (events_at k)) (λ k. own_held n k (k == n) refl (events_at k)) ns
      ∙ (ap (flat_map (λ k. held_under k (events_at k))) (once n ns rise) ∙ by (is_listed ns n))
    where
      by : (t : Bool) → flat_map (λ k. held_under k (events_at k)) (cond t (n ∷ []) []) ≡ cond t (held_under n (events_at n)) []
      by true = append-nil (held_under n (events_at n))
      by false = refl

  -- in the order of time the events of a number are held as they are in the world
  held_events : (n : ℕ) (ns : List ℕ) → Rises nat_cmp ns → n < m → (is_listed ns n ≡ false → events_of w (f n) ≡ []) → AreHeld (in_order time_cmp (all_held ns)) n (events_of w (f n))
  held_events n ns rise below off =
      ap (map moment_held) (filter_in_order time_cmp time_total (is_of n) (all_held ns) ∙ (ap (in_order time_cmp) (of_number n ns rise) ∙ already (is_listed ns n)))
      ∙ by (is_listed ns n) refl
    where
      already : (t : Bool) → in_order time_cmp (cond t (held_under n (events_at n)) []) ≡ cond t (held_under n (events_at n)) []
      already true = in_order_already time_cmp (held_under n (events_at n)) (own_order n)
      already false = refl

      by : (t : Bool) → is_listed ns n ≡ t → map moment_held (cond t (held_under n (events_at n)) []) ≡ map moment_of (events_of w (f n))
      by true e = own_moments n (events_at n) ∙ ap (map moment_of) (cond-true (nat_lt n m) (events_of w (f n)) [] (lt-ltb n m below))
      by false e = sym (ap (map moment_of) (off e))

  -- what is held has the times of the events
  times : (ns : List ℕ) → map time_held (all_held ns) ≡ map time_of (flat_map (events_of w) (named ns))
  times [] = refl
  times (n ∷ ns) = by (nat_lt n m) (times ns)
    where
      by : (t : Bool) → map time_held (all_held ns) ≡ map time_of (flat_map (events_of w) (named ns))
          → map time_held (held_under n (cond t (events_of w (f n)) []) ++ all_held ns) ≡ map time_of (flat_map (events_of w) (map f (cond t (n ∷ filter (λ k. nat_lt k m) ns) (filter (λ k. nat_lt k m) ns))))
      by true rest =
          map-append time_held (held_under n (events_of w (f n))) (all_held ns)
          ∙ ((λ i. own_times n (events_of w (f n)) i ++ rest i) ∙ sym (map-append time_of (events_of w (f n)) (flat_map (events_of w) (named ns))))
      by false rest = rest

-- ---- lists of the same times

count_map : {X : Type 0} (test : ℤ → Bool) (f : X → ℤ) (xs : List X) → length (filter test (map f xs)) ≡ length (filter (λ x. test (f x)) xs)
count_map test f [] = refl
count_map {X} test f (x ∷ xs) = by (test (f x)) (count_map test f xs)
  where
    by : (t : Bool) → length (filter test (map f xs)) ≡ length (filter (λ y. test (f y)) xs)
        → length (cond t (f x ∷ filter test (map f xs)) (filter test (map f xs))) ≡ length (cond t (x ∷ filter (λ y. test (f y)) xs) (filter (λ y. test (f y)) xs))
    by true e = omega (arith, e)
    by false e = e

none : (ys : List Event) → list_any (λ y. true) ys ≡ false → ys ≡ []
none [] e = refl
none (y ∷ ys) e = absurd (true≢false e)

each_fails : (p : Event → Bool) (ys : List Event) → list_any p ys ≡ false → AllByRecursion (λ y. p y ≡ false) ys
each_fails p [] e = tt
each_fails p (y ∷ ys) e = let r = or_parts (p y) (list_any p ys) e in (r.0, each_fails p ys r.1)

own_time : (t : ℤ) → int_eq t t ≡ true
own_time t = grind (arith, ints)

≤ℤ-trans : (a b c : ℤ) → a ≤ℤ b → b ≤ℤ c → a ≤ℤ c
≤ℤ-trans a b c h k = omega (arith, ints)

-- the last of a list in the order of time has its greatest time
last_is : (x : HeldEvent) (xs : List HeldEvent) → IsInOrder time_cmp (x ∷ xs)
    → (t : ℤ) × (last_held (x ∷ xs) ≡ Some t) × AllByRecursion (λ (y : HeldEvent). y.time ≤ℤ t) (x ∷ xs) × (list_any (λ (y : HeldEvent). int_eq y.time t) (x ∷ xs) ≡ true)
last_is x [] h = (x.time, refl, (≤ℤ_refl x.time, tt), or_left (int_eq x.time x.time) false (own_time x.time))
last_is x (y ∷ ys) h =
    let r = last_is y ys h.1 in
    let e : length (x ∷ y ∷ ys) - 1 ≡ suc (length (y ∷ ys) - 1) = omega arith in (
      r.0,
      ap (λ i. option_map time_held (slice_get (x ∷ y ∷ ys) i)) e ∙ r.1,
      (≤ℤ-trans x.time y.time r.0 (le_from_cmp x.time y.time h.0.0) r.2.0, r.2),
      or_right (int_eq x.time r.0) (list_any (λ (z : HeldEvent). int_eq z.time r.0) (y ∷ ys)) r.3,
    )

module _ (ys : List Event) where
  abbrev PassAlike : List HeldEvent → Type 0
  PassAlike xs = (test : ℤ → Bool) → list_any (λ (x : HeldEvent). test x.time) xs ≡ list_any (λ (y : Event). test y.time) ys

  least : (xs : List HeldEvent) → IsInOrder time_cmp xs → PassAlike xs → IsLeast ys (first_held xs)
  least [] h alike = none ys (sym (alike (λ t. true)))
  least (x ∷ xs) h alike =
      let early : AllByRecursion (λ (y : HeldEvent). int_lt y.time x.time ≡ false) (x ∷ xs) = (
        not_lt_test x.time x.time (≤ℤ_refl x.time),
        each_weaker (λ y. is_gt (time_cmp x y) ≡ false) (λ (y : HeldEvent). int_lt y.time x.time ≡ false) (λ y e. not_lt_test y.time x.time (le_from_cmp x.time y.time e)) xs h.0,
      ) in
      let no_earlier = list_any_none (λ (y : HeldEvent). int_lt y.time x.time) (x ∷ xs) (All-from_recursion (λ (y : HeldEvent). int_lt y.time x.time ≡ false) (x ∷ xs) early) in (
        each_weaker (λ (y : Event). int_lt y.time x.time ≡ false) (λ (y : Event). x.time ≤ℤ y.time) (λ y e. ge_from_test y.time x.time e) ys
            (each_fails (λ (y : Event). int_lt y.time x.time) ys (sym (alike (λ t. int_lt t x.time)) ∙ no_earlier)),
        sym (alike (λ t. int_eq t x.time)) ∙ or_left (int_eq x.time x.time) (list_any (λ (y : HeldEvent). int_eq y.time x.time) xs) (own_time x.time),
      )

  greatest : (xs : List HeldEvent) → IsInOrder time_cmp xs → PassAlike xs → IsGreatest ys (last_held xs)
  greatest [] h alike = none ys (sym (alike (λ t. true)))
  greatest (x ∷ xs) h alike =
      let r = last_is x xs h in
      let late = each_weaker (λ (y : HeldEvent). y.time ≤ℤ r.0) (λ (y : HeldEvent). int_lt r.0 y.time ≡ false) (λ y le. not_lt_test r.0 y.time le) (x ∷ xs) r.2 in
      let no_later = list_any_none (λ (y : HeldEvent). int_lt r.0 y.time) (x ∷ xs) (All-from_recursion (λ (y : HeldEvent). int_lt r.0 y.time ≡ false) (x ∷ xs) late) in
      subst (IsGreatest ys) (sym r.1) (
        each_weaker (λ (y : Event). int_lt r.0 y.time ≡ false) (λ (y : Event). y.time ≤ℤ r.0) (λ y e. ge_from_test r.0 y.time e) ys
            (each_fails (λ (y : Event). int_lt r.0 y.time) ys (sym (alike (λ t. int_lt r.0 t)) ∙ no_later)),
        sym (alike (λ t. int_eq t r.0)) ∙ r.3,
      )

module _ (xs : List HeldEvent) (ys : List Event) (same : map time_held xs ≡ map time_of ys) where
  any_alike : (test : ℤ → Bool) → list_any (λ (x : HeldEvent). test x.time) (in_order time_cmp xs) ≡ list_any (λ (y : Event). test y.time) ys
  any_alike test =
      any_in_order time_cmp (λ (x : HeldEvent). test x.time) xs
      ∙ (sym (any_map test time_held xs) ∙ (ap (list_any test) same ∙ any_map test time_of ys))

  count_alike : (test : ℤ → Bool) → length (filter (λ (x : HeldEvent). test x.time) (in_order time_cmp xs)) ≡ length (filter (λ (y : Event). test y.time) ys)
  count_alike test =
      ap length (filter_in_order time_cmp time_total (λ (x : HeldEvent). test x.time) xs)
      ∙ (length_in_order time_cmp (filter (λ (x : HeldEvent). test x.time) xs)
      ∙ (sym (count_map test time_held xs) ∙ (ap (λ ts. length (filter test ts)) same ∙ count_map test time_of ys)))

  as_long : length xs ≡ length ys
  as_long = sym (length-map xs time_held) ∙ (ap length same ∙ length-map ys time_of)

  abbrev extent_held : WorldExtent
  extent_held = record { events = length xs; first = first_held (in_order time_cmp xs); last = last_held (in_order time_cmp xs) }

  extent_alike : IsExtent ys extent_held
  extent_alike = record {
    events = as_long;
    first = least ys (in_order time_cmp xs) (sorted xs) any_alike;
    last = greatest ys (in_order time_cmp xs) (sorted xs) any_alike;
  }

-- ---- what is on a roster

module _ (c : Contents) (w : World) (r : Roster) (shown : IsShown c w) (covers : Covers c w r) (node_rise : Rises nat_cmp (nodes_on c r)) (edge_rise : Rises nat_cmp (edges_on c r)) where
  abbrev of_nodes : List HeldEvent
  of_nodes = nodes_held c w (nodes_on c r)

  abbrev of_edges : List HeldEvent
  of_edges = edges_held c w (edges_on c r)

  abbrev node_events : List Event
  node_events = flat_map (events_of w) (nodes_among c (nodes_on c r))

  abbrev edge_events : List Event
  edge_events = flat_map (events_of w) (edges_among c (edges_on c r))

  node_times : map time_held of_nodes ≡ map time_of node_events
  node_times = times w shown.lawful (node_at c) (length c.nodes) (nodes_on c r)

  edge_times : map time_held of_edges ≡ map time_of edge_events
  edge_times = times w shown.lawful (edge_at c) (length c.edges) (edges_on c r)

  whole : arrange (node_events ++ edge_events) ≡ w.events
  whole = ap arrange (sym (flat_map-append (events_of w) (nodes_among c (nodes_on c r)) (edges_among c (edges_on c r)))) ∙ world_on c w r shown covers node_rise edge_rise

  count_whole : (p : Event → Bool) → length (filter p node_events) + length (filter p edge_events) ≡ length (filter p w.events)
  count_whole p =
      sym (length-append (filter p node_events) (filter p edge_events))
      ∙ (ap length (sym (filter-append p node_events edge_events))
      ∙ (sym (length_in_order event_cmp (filter p (node_events ++ edge_events)))
      ∙ (ap length (sym (filter_in_order event_cmp event_total p (node_events ++ edge_events))) ∙ ap (λ xs. length (filter p xs)) whole)))

  -- the events of a world, held by the numbers on a roster that covers it
  pub held_on : AreFilled c w (in_order time_cmp of_nodes) (in_order time_cmp of_edges)
  held_on = record {
    node_times = rises (in_order time_cmp of_nodes) (sorted of_nodes);
    edge_times = rises (in_order time_cmp of_edges) (sorted of_edges);
    nodes = λ n below. held_events w shown.lawful (node_at c) (length c.nodes) n (nodes_on c r) node_rise below (covers.nodes n below);
    edges = λ e below. held_events w shown.lawful (edge_at c) (length c.edges) e (edges_on c r) edge_rise below (covers.edges e below);
    as_many = λ test. (λ i. count_alike of_nodes node_events node_times test i + count_alike of_edges edge_events edge_times test i) ∙ count_whole (λ (y : Event). test y.time);
  }

  extent_is : record {
    events = length of_nodes + length of_edges;
    first = earlier_of (first_held (in_order time_cmp of_nodes)) (first_held (in_order time_cmp of_edges));
    last = later_of (last_held (in_order time_cmp of_nodes)) (last_held (in_order time_cmp of_edges));
  } ≡ extent_of w.events
  extent_is =
      extent_arranged (node_events ++ edge_events) w.events _
      (IsExtent-append node_events edge_events (extent_held of_nodes node_events node_times) (extent_held of_edges edge_events edge_times) _ (extent_alike of_nodes node_events node_times) (extent_alike of_edges edge_events edge_times) refl refl refl)
      whole shown.lawful.arranged

  -- the first time among them and the last are those of the world, and they are as many as its events
  pub first_on : earlier_of (first_held (in_order time_cmp of_nodes)) (first_held (in_order time_cmp of_edges)) ≡ time_of_first w.events
  first_on = ap (λ (e : WorldExtent). e.first) extent_is

  pub last_on : later_of (last_held (in_order time_cmp of_nodes)) (last_held (in_order time_cmp of_edges)) ≡ time_of_last w.events
  last_on = ap (λ (e : WorldExtent). e.last) extent_is

  pub count_on : length of_nodes + length of_edges ≡ length w.events
  count_on = ap (λ (e : WorldExtent). e.events) extent_is
