-- Places of events, one entity after another, and put in order.
use Rattle.std.proofs.Common.{◌≡◌, ℕ, suc, ◌+◌, ◌<◌, true, false, List, [], ◌∷◌, ◌++◌, length, map, get_or, refl, sym, ◌∙◌, ap, subst, arith, append-nil, append_assoc}
use Rattle.std.specs.List.{list_any, flat_map, All, AllByRecursion}
use Rattle.std.specs.List.Sorted.{IsPermutation, IsSortedBy}
use Rattle.std.specs.Cmp.{IsTotalOrder}
use Rattle.std.specs.FinMap.{nat_cmp-IsAntisymmetric, int_cmp-IsAntisymmetric}
use Rattle.std.specs.declared.cmp.Ordering.{Ordering}
use Rattle.std.specs.declared.cmp.Ordering.TheVariants.{Less, Equal, Greater}
use Rattle.std.specs.Ordering.{is_lt, is_gt, ordering_then, int_cmp, nat_cmp}
use Rattle.std.proofs.lemmas.Cmp.{nat_cmp_total, int_cmp_total, on_total, then_total, tied_itself}
use Rattle.std.proofs.lemmas.List.{map-append, length-map}
use Rattle.std.proofs.lemmas.List.Elements.{All-from_recursion}
use Rattle.graph_model.specs.declared.events.Entity.{Entity}
use Rattle.graph_model.specs.declared.events.Entity.TheVariants.{Node}
use Rattle.graph_model.specs.declared.events.Event.{Event}
use Rattle.graph_model.specs.Entity.{entity_cmp, same_entity, entity_of, is_about}
use Rattle.graph_model.specs.Rising.{in_order, IsInOrder, Rises}
use Rattle.graph_model.specs.World.{World, IsLawful, event_cmp, arrange, events_of}
use Rattle.world_laws.proofs.Filters.{each_weaker, each_append, kept_pass}
use Rattle.world_laws.proofs.Counts.{length_in_order}
use Rattle.world_laws.proofs.DistinctRising.{distinct_rising}
use Rattle.world_laws.proofs.InOrder.{each_in_order, IsInOrder-filter}
use Rattle.world_laws.proofs.Order.{then_equal, same_entity-exact}
use Rattle.world_laws.proofs.Listed.{about_none, in_order_from_arranged}
use Rattle.time_history.proofs.Segments.{each_in_map}
use Rattle.graph_store.specs.Contents.{Contents}
use Rattle.view_trait.proofs.Entities.{world_of_entities}
use Rattle.view_trait.proofs.Rising.{less_is}
use Rattle.view_lists.specs.declared.listing.ShownEntity.{ShownEntity}
use Rattle.view_lists.specs.declared.listing.EventPlace.{EventPlace}
use Rattle.view_lists.specs.Listing.{entities_of, appears, AreShown, no_event, event_at, entity_of_place, event_placed, IsPlaced, AreListed, place_cmp, placed_from, all_placed}
use Rattle.view_lists.proofs.Sorting.{AsGreat, Alike, in_order_mapped, sorted_fixed}
use Rattle.view_lists.proofs.ShownOnes.{entity_shown}

-- ---- the order of places

pub place_total : IsTotalOrder place_cmp
place_total = then_total (on_total (λ (p : EventPlace). p.time) int_cmp_total) (then_total (on_total (λ (p : EventPlace). p.shown) nat_cmp_total) (on_total (λ (p : EventPlace). p.place) nat_cmp_total))

place_exact : (p q : EventPlace) → place_cmp p q ≡ Equal → p ≡ q
place_exact p q h =
    let times = then_equal (int_cmp p.time q.time) (ordering_then (nat_cmp p.shown q.shown) (nat_cmp p.place q.place)) h in
    let shown = then_equal (nat_cmp p.shown q.shown) (nat_cmp p.place q.place) times.1 in
    let a = int_cmp-IsAntisymmetric p.time q.time times.0 in
    let b = nat_cmp-IsAntisymmetric p.shown q.shown shown.0 in
    let d = nat_cmp-IsAntisymmetric p.place q.place shown.1 in
    λ k. record { time = a k; shown = b k; place = d k }

gt_first : (o r : Ordering) → is_gt (ordering_then o r) ≡ false → is_gt (ordering_then o Less) ≡ false
gt_first Less r h = refl
gt_first Equal r h = refl
gt_first Greater r h = h

-- ---- places with their events

abbrev place : ℕ → ℕ → Event → EventPlace
place s k x = record { time = x.time; shown = s; place = k }

abbrev pairs_from : ℕ → ℕ → List Event → List (EventPlace × Event)
pairs_from s k [] = []
pairs_from s k (x ∷ xs) = (place s k x, x) ∷ pairs_from s (k + 1) xs

abbrev all_pairs : World → ℕ → List Entity → List (EventPlace × Event)
all_pairs w s [] = []
all_pairs w s (e ∷ es) = pairs_from s 0 (events_of w e) ++ all_pairs w (s + 1) es

abbrev pair_cmp : EventPlace × Event → EventPlace × Event → Ordering
pair_cmp p q = place_cmp p.0 q.0

firsts_from : (s k : ℕ) (xs : List Event) → map (λ (p : EventPlace × Event). p.0) (pairs_from s k xs) ≡ placed_from s k xs
firsts_from s k [] = refl
firsts_from s k (x ∷ xs) = ap (λ ps. place s k x ∷ ps) (firsts_from s (k + 1) xs)

seconds_from : (s k : ℕ) (xs : List Event) → map (λ (p : EventPlace × Event). p.1) (pairs_from s k xs) ≡ xs
seconds_from s k [] = refl
seconds_from s k (x ∷ xs) = ap (λ ys. x ∷ ys) (seconds_from s (k + 1) xs)

firsts : (w : World) (s : ℕ) (es : List Entity) → map (λ (p : EventPlace × Event). p.0) (all_pairs w s es) ≡ all_placed w s es
firsts w s [] = refl
firsts w s (e ∷ es) = map-append (λ (p : EventPlace × Event). p.0) (pairs_from s 0 (events_of w e)) (all_pairs w (s + 1) es) ∙ (λ i. firsts_from s 0 (events_of w e) i ++ firsts w (s + 1) es i)

seconds : (w : World) (s : ℕ) (es : List Entity) → map (λ (p : EventPlace × Event). p.1) (all_pairs w s es) ≡ flat_map (events_of w) es
seconds w s [] = refl
seconds w s (e ∷ es) = map-append (λ (p : EventPlace × Event). p.1) (pairs_from s 0 (events_of w e)) (all_pairs w (s + 1) es) ∙ (λ i. seconds_from s 0 (events_of w e) i ++ seconds w (s + 1) es i)

-- ---- places compare as their events do

alike_firsts : (ps : List (EventPlace × Event)) → Alike pair_cmp place_cmp (λ (p : EventPlace × Event). p.0) ps
alike_firsts [] = tt
alike_firsts (p ∷ ps) = (each ps, alike_firsts ps)
  where
    each : (qs : List (EventPlace × Event)) → AllByRecursion (AsGreat pair_cmp place_cmp (λ (p : EventPlace × Event). p.0) p) qs
    each [] = tt
    each (q ∷ qs) = (refl, each qs)

-- of one entity, no place is greater than a later one, and no event
same_later : (x y : Event) (s k j : ℕ) → k < j → is_gt (event_cmp x y) ≡ false → is_gt (place_cmp (place s k x) (place s j y)) ≡ is_gt (event_cmp x y)
same_later x y s k j lt h =
    ap (λ o. is_gt (ordering_then (int_cmp x.time y.time) (ordering_then o (nat_cmp k j)))) (tied_itself nat_cmp_total s)
    ∙ (ap (λ o. is_gt (ordering_then (int_cmp x.time y.time) o)) (less_is k j lt)
    ∙ (gt_first (int_cmp x.time y.time) (ordering_then (entity_cmp (entity_of x) (entity_of y)) (nat_cmp x.order y.order)) h ∙ sym h))

later_from : (x : Event) (s k j : ℕ) (ys : List Event) → k < j → AllByRecursion (λ y. is_gt (event_cmp x y) ≡ false) ys → AllByRecursion (AsGreat pair_cmp event_cmp (λ (p : EventPlace × Event). p.1) (place s k x, x)) (pairs_from s j ys)
later_from x s k j [] lt h = tt
later_from x s k j (y ∷ ys) lt h = (same_later x y s k j lt h.0, later_from x s k (j + 1) ys (omega arith) h.1)

alike_from : (s k : ℕ) (xs : List Event) → IsInOrder event_cmp xs → Alike pair_cmp event_cmp (λ (p : EventPlace × Event). p.1) (pairs_from s k xs)
alike_from s k [] h = tt
alike_from s k (x ∷ xs) h = (later_from x s k (k + 1) xs (omega arith) h.0, alike_from s (k + 1) xs h.1)

-- of a lesser entity, a place is greater than one of a greater entity exactly where the event is
other_later : (x y : Event) (s k t j : ℕ) → s < t → entity_cmp (entity_of x) (entity_of y) ≡ Less → is_gt (place_cmp (place s k x) (place t j y)) ≡ is_gt (event_cmp x y)
other_later x y s k t j lt h =
    ap (λ o. is_gt (ordering_then (int_cmp x.time y.time) (ordering_then o (nat_cmp k j)))) (less_is s t lt)
    ∙ sym (ap (λ o. is_gt (ordering_then (int_cmp x.time y.time) (ordering_then o (nat_cmp x.order y.order)))) h)

others_from : (x : Event) (s k t j : ℕ) (e : Entity) (ys : List Event) → s < t → entity_cmp (entity_of x) e ≡ Less → AllByRecursion (λ y. is_about e y ≡ true) ys
    → AllByRecursion (AsGreat pair_cmp event_cmp (λ (p : EventPlace × Event). p.1) (place s k x, x)) (pairs_from t j ys)
others_from x s k t j e [] lt h own = tt
others_from x s k t j e (y ∷ ys) lt h own = (other_later x y s k t j lt (ap (entity_cmp (entity_of x)) (sym (same_entity-exact e (entity_of y) own.0)) ∙ h), others_from x s k t (j + 1) e ys lt h own.1)

others_all : (w : World) (x : Event) (s k t : ℕ) (es : List Entity) → s < t → AllByRecursion (λ e. entity_cmp (entity_of x) e ≡ Less) es
    → AllByRecursion (AsGreat pair_cmp event_cmp (λ (p : EventPlace × Event). p.1) (place s k x, x)) (all_pairs w t es)
others_all w x s k t [] lt h = tt
others_all w x s k t (e ∷ es) lt h =
    each_append (AsGreat pair_cmp event_cmp (λ (p : EventPlace × Event). p.1) (place s k x, x)) (pairs_from t 0 (events_of w e)) (all_pairs w (t + 1) es)
    (others_from x s k t 0 e (events_of w e) lt h.0 (kept_pass (is_about e) w.events)) (others_all w x s k (t + 1) es (omega arith) h.1)

alike_more : (w : World) (e : Entity) (s k : ℕ) (xs : List Event) (es : List Entity) → AllByRecursion (λ x. is_about e x ≡ true) xs → AllByRecursion (λ f. entity_cmp e f ≡ Less) es
    → IsInOrder event_cmp xs → Alike pair_cmp event_cmp (λ (p : EventPlace × Event). p.1) (all_pairs w (s + 1) es) → Alike pair_cmp event_cmp (λ (p : EventPlace × Event). p.1) (pairs_from s k xs ++ all_pairs w (s + 1) es)
alike_more w e s k [] es own less h rest = rest
alike_more w e s k (x ∷ xs) es own less h rest = (
  each_append (AsGreat pair_cmp event_cmp (λ (p : EventPlace × Event). p.1) (place s k x, x)) (pairs_from s (k + 1) xs) (all_pairs w (s + 1) es)
      (later_from x s k (k + 1) xs (omega arith) h.0)
      (others_all w x s k (s + 1) es (omega arith) (each_weaker (λ f. entity_cmp e f ≡ Less) (λ f. entity_cmp (entity_of x) f ≡ Less) (λ f m. ap (λ z. entity_cmp z f) (sym (same_entity-exact e (entity_of x) own.0)) ∙ m) es less)),
  alike_more w e s (k + 1) xs es own.1 less h.1 rest,
)

module _ (w : World) (lawful : IsLawful w) where
  own_in_order : (e : Entity) → IsInOrder event_cmp (events_of w e)
  own_in_order e = IsInOrder-filter event_cmp (is_about e) w.events (in_order_from_arranged w.events lawful.arranged)

  alike_all : (s : ℕ) (es : List Entity) → Rises entity_cmp es → Alike pair_cmp event_cmp (λ (p : EventPlace × Event). p.1) (all_pairs w s es)
  alike_all s [] h = tt
  alike_all s (e ∷ es) h = alike_more w e s 0 (events_of w e) es (kept_pass (is_about e) w.events) h.0 (own_in_order e) (alike_all (s + 1) es h.1)

  -- the events of the entities that have some, arranged, are those of the world
  pub whole : (es : List Entity) → Rises entity_cmp es → ((e : Entity) → list_any (same_entity e) es ≡ appears w e) → arrange (flat_map (events_of w) es) ≡ w.events
  whole es rise exactly = world_of_entities w es lawful.arranged (distinct_rising entity_cmp es rise) (λ e none. about_none e w.events (sym (exactly e) ∙ none))

-- ---- what stands at a place

module _ (w : World) (all : List Entity) where
  record IsFoundAt (p : EventPlace × Event) : Type 0 where
    shown : p.0.shown < length all
    place : p.0.place < length (events_of w (entity_of_place all p.0.shown))
    time : p.0.time ≡ p.1.time
    event : event_at (events_of w (entity_of_place all p.0.shown)) p.0.place ≡ p.1

  abbrev Ends : {X : Type 0} → List X → X → ℕ → List X → Type 0
  Ends whole d s xs = (i : ℕ) → i < length xs → (s + i < length whole) × (get_or whole (s + i) d ≡ get_or xs i d)

  tail_ends : {X : Type 0} (whole : List X) (d : X) (s : ℕ) (x : X) (xs : List X) → Ends whole d s (x ∷ xs) → Ends whole d (s + 1) xs
  tail_ends whole d s x xs h i lt =
      let r = h (suc i) (omega arith) in
      let n : s + suc i ≡ s + 1 + i = omega arith in
      (subst (λ m. m < length whole) n r.0, subst (λ m. get_or whole m d ≡ get_or xs i d) n r.1)

  head_ends : {X : Type 0} (whole : List X) (d : X) (s : ℕ) (x : X) (xs : List X) → Ends whole d s (x ∷ xs) → (s < length whole) × (get_or whole s d ≡ x)
  head_ends whole d s x xs h =
      let r = h 0 (omega arith) in
      let n : s + 0 ≡ s = omega arith in
      (subst (λ m. m < length whole) n r.0, subst (λ m. get_or whole m d ≡ x) n r.1)

  found_from : (s k : ℕ) (e : Entity) (xs : List Event) → s < length all → entity_of_place all s ≡ e → Ends (events_of w e) no_event k xs → AllByRecursion IsFoundAt (pairs_from s k xs)
  found_from s k e [] lt is h = tt
  found_from s k e (x ∷ xs) lt is h =
      let r = head_ends (events_of w e) no_event k x xs h in (
        record {
          shown = lt;
          place = subst (λ z. k < length (events_of w z)) (sym is) r.0;
          time = refl;
          event = subst (λ z. event_at (events_of w z) k ≡ x) (sym is) r.1;
        },
        found_from s (k + 1) e xs lt is (tail_ends (events_of w e) no_event k x xs h),
      )

  found_all : (s : ℕ) (es : List Entity) → Ends all (Node []) s es → AllByRecursion IsFoundAt (all_pairs w s es)
  found_all s [] h = tt
  found_all s (e ∷ es) h =
      let r = head_ends all (Node []) s e es h in
      each_append IsFoundAt (pairs_from s 0 (events_of w e)) (all_pairs w (s + 1) es)
      (found_from s 0 e (events_of w e) r.0 r.1 (λ i lt. (let n : 0 + i ≡ i = omega arith in subst (λ m. m < length (events_of w e)) (sym n) lt, let n : 0 + i ≡ i = omega arith in ap (λ m. get_or (events_of w e) m no_event) n)))
      (found_all (s + 1) es (tail_ends all (Node []) s e es h))

  found_each : AllByRecursion IsFoundAt (all_pairs w 0 all)
  found_each = found_all 0 all (λ i lt. (let n : 0 + i ≡ i = omega arith in subst (λ m. m < length all) (sym n) lt, let n : 0 + i ≡ i = omega arith in ap (λ m. get_or all m (Node [])) n))

  events_found : (ps : List (EventPlace × Event)) → AllByRecursion IsFoundAt ps → map (λ (p : EventPlace). event_at (events_of w (entity_of_place all p.shown)) p.place) (map (λ (p : EventPlace × Event). p.0) ps) ≡ map (λ (p : EventPlace × Event). p.1) ps
  events_found [] h = refl
  events_found (p ∷ ps) h = let e = h.0.event in let r = events_found ps h.1 in λ i. e i ∷ r i

-- places of all events of the shown entities, sorted, are those of the world's events in canonical order
pub places_sorted : (c : Contents) (w : World) (xs : List ShownEntity) (ps ys : List EventPlace) → IsLawful w → AreShown c w xs → ps ≡ all_placed w 0 (entities_of xs) → IsPermutation ps ys → IsSortedBy (λ p q. is_lt (place_cmp p q)) ys → AreListed c w xs ys
places_sorted c w xs ps ys lawful h is moved sorted =
    let all = entities_of xs in
    let pairs = all_pairs w 0 all in
    let zs = in_order pair_cmp pairs in
    let places : ys ≡ map (λ (p : EventPlace × Event). p.0) zs =
    sorted_fixed place_cmp place_total place_exact ps ys moved sorted
    ∙ (ap (in_order place_cmp) (is ∙ sym (firsts w 0 all)) ∙ sym (in_order_mapped pair_cmp place_cmp (λ (p : EventPlace × Event). p.0) pairs (alike_firsts pairs))) in
    let events : map (λ (p : EventPlace × Event). p.1) zs ≡ w.events =
    in_order_mapped pair_cmp event_cmp (λ (p : EventPlace × Event). p.1) pairs (alike_all w lawful 0 all h.rise)
    ∙ (ap arrange (seconds w 0 all) ∙ whole w lawful all h.rise h.exactly) in
    let found = each_in_order pair_cmp (IsFoundAt w all) pairs (found_each w all) in
    let length_is : length all ≡ length xs = length-map xs entity_shown in
    record {
      shown = h;
      placed = subst (All (IsPlaced w xs)) (sym places)
          (All-from_recursion (IsPlaced w xs) (map (λ (p : EventPlace × Event). p.0) zs)
          (each_in_map (λ (p : EventPlace × Event). p.0) (IsFoundAt w all) (IsPlaced w xs) (λ p f. record { shown = subst (λ n. p.0.shown < n) length_is f.shown; place = f.place; time = f.time ∙ ap (λ (x : Event). x.time) (sym f.event) }) zs found));
      events = ap (map (event_placed w xs)) places ∙ (events_found w all zs found ∙ events);
    }

-- and they are as many as the world's events
pub length_all_placed : (c : Contents) (w : World) (xs : List ShownEntity) → IsLawful w → AreShown c w xs → length (all_placed w 0 (entities_of xs)) ≡ length w.events
length_all_placed c w xs lawful h =
    let es = entities_of xs in
    let pairs = all_pairs w 0 es in
    sym (ap length (firsts w 0 es)) ∙ (length-map pairs (λ (p : EventPlace × Event). p.0)
    ∙ (sym (length-map pairs (λ (p : EventPlace × Event). p.1)) ∙ (ap length (seconds w 0 es)
    ∙ (sym (length_in_order event_cmp (flat_map (events_of w) es)) ∙ ap length (whole w lawful es h.rise h.exactly)))))

-- ---- places that are pushed

pub placed_push : (s k : ℕ) (xs : List Event) (x : Event) → placed_from s k (xs ++ x ∷ []) ≡ placed_from s k xs ++ record { time = x.time; shown = s; place = k + length xs } ∷ []
placed_push s k [] x = let n : k ≡ k + 0 = omega arith in ap (λ m. record { time = x.time; shown = s; place = m } ∷ []) n
placed_push s k (y ∷ xs) x =
    let n : k + 1 + length xs ≡ k + suc (length xs) = omega arith in
    ap (λ ps. place s k y ∷ ps) (placed_push s (k + 1) xs x ∙ ap (λ m. placed_from s (k + 1) xs ++ record { time = x.time; shown = s; place = m } ∷ []) n)

pub all_push : (w : World) (s : ℕ) (es : List Entity) (e : Entity) → all_placed w s (es ++ e ∷ []) ≡ all_placed w s es ++ placed_from (s + length es) 0 (events_of w e)
all_push w s [] e = let n : s ≡ s + 0 = omega arith in append-nil (placed_from s 0 (events_of w e)) ∙ ap (λ m. placed_from m 0 (events_of w e)) n
all_push w s (f ∷ es) e =
    let n : s + 1 + length es ≡ s + suc (length es) = omega arith in
    ap (λ ps. placed_from s 0 (events_of w f) ++ ps) (all_push w (s + 1) es e ∙ ap (λ m. all_placed w (s + 1) es ++ placed_from m 0 (events_of w e)) n)
    ∙ sym (append_assoc (placed_from s 0 (events_of w f)) (all_placed w (s + 1) es) (placed_from (s + suc (length es)) 0 (events_of w e)))
