-- What a sweep does not list has no event in the window.
use Rattle.std.proofs.Common.{◌≡◌, ℕ, ℤ, zero, suc, ◌<◌, ◌≤◌, ◌<ℤ◌, ◌≤ℤ◌, Bool, true, false, not, ◌&&◌, ◌||◌, List, [], ◌∷◌, ◌++◌, cond, map, length, refl, sym, ◌∙◌, ap, subst, arith}
use Rattle.std.specs.Prelude.{int_le, int_lt, None, Some, Option}
use Rattle.std.specs.Option.{option_map_or}
use Rattle.std.specs.List.{filter, list_any, last_or, AllByRecursion}
use Rattle.std.proofs.lemmas.Bool.{and_from, and_parts, cond-true, false≢true}
use Rattle.std.proofs.lemmas.Int.{ints, clamps}
use Rattle.graph_model.specs.declared.events.Entity.{Entity}
use Rattle.graph_model.specs.declared.events.Event.{Event}
use Rattle.graph_model.specs.declared.events.Model.{Model}
use Rattle.graph_model.specs.declared.events.Model.TheVariants.{Event as Instants, Persistent}
use Rattle.graph_model.specs.Compare.{live_events}
use Rattle.graph_model.specs.Entity.{is_about, is_deletion}
use Rattle.graph_model.specs.Interval.{Interval, cut, is_empty, is_inside}
use Rattle.graph_model.specs.Window.{carried_events, clip_list, is_early, is_within, window, window_list}
use Rattle.graph_model.specs.World.{World, IsLawful, events_of}
use Rattle.world_laws.proofs.Filters.{each_kept, each_weaker, filter_comm, filter_none, filter_same}
use Rattle.world_laws.proofs.Lawful.{each_passes}
use Rattle.world_laws.proofs.ListItems.{any_map}
use Rattle.world_laws.proofs.Times.{inside_hi, inside_lo, inside_test, le_from_test, le_test, lt_from_test, lt_test, gt_from_test, ge_from_test}
use Rattle.world_laws.proofs.Windows.{events_of-window}
use Rattle.event_sweep.specs.Held.{AreHeld, additions_last, moment_held, moment_of}
use Rattle.event_sweep.specs.Swept.{ends_kept, events_before, events_between, has_event, is_before, is_between, is_carried, is_of, is_shown}
use Rattle.event_sweep.specs.declared.held_events.HeldEvent.{HeldEvent}

-- ---- moments inside bounds

both_ways : (s t : Bool) → (s ≡ true → t ≡ true) → (t ≡ true → s ≡ true) → s ≡ t
both_ways true t f g = sym (f refl)
both_ways false true f g = g refl
both_ways false false f g = refl

-- inside bounds, a moment is in a part of them exactly where it is from its beginning up to its end
within_is : (i : Interval) (a b t : ℤ) → is_inside i t ≡ true → is_inside (cut i a b) t ≡ (int_le a t && int_lt t b)
within_is i a b t h = both_ways (is_inside (cut i a b) t) (int_le a t && int_lt t b) there back
  where
    lo : i.lo ≤ℤ t
    lo = inside_lo i t h

    hi : t <ℤ i.hi
    hi = inside_hi i t h

    there : is_inside (cut i a b) t ≡ true → (int_le a t && int_lt t b) ≡ true
    there k =
        let from = inside_lo (cut i a b) t k in
        let to = inside_hi (cut i a b) t k in
        let begun : a ≤ℤ t = omega (arith, ints, clamps, from) in
        let unended : t <ℤ b = omega (arith, ints, clamps, from, to) in
        and_from (int_le a t) (int_lt t b) (le_test a t begun) (lt_test t b unended)

    back : (int_le a t && int_lt t b) ≡ true → is_inside (cut i a b) t ≡ true
    back k =
        let parts = and_parts (int_le a t) (int_lt t b) k in
        let begun = le_from_test a t parts.0 in
        let unended = lt_from_test t b parts.1 in
        inside_test (cut i a b) t (omega (arith, ints, clamps, lo, begun)) (omega (arith, ints, clamps, hi, unended))

-- and before it exactly where it is before its beginning
early_is : (i : Interval) (a b t : ℤ) → is_inside i t ≡ true → int_lt t (cut i a b).lo ≡ int_lt t a
early_is i a b t h = both_ways (int_lt t (cut i a b).lo) (int_lt t a) there back
  where
    lo : i.lo ≤ℤ t
    lo = inside_lo i t h

    there : int_lt t (cut i a b).lo ≡ true → int_lt t a ≡ true
    there k = let less = lt_from_test t (cut i a b).lo k in lt_test t a (omega (arith, ints, clamps, lo, less))

    back : int_lt t a ≡ true → int_lt t (cut i a b).lo ≡ true
    back k = let less = lt_from_test t a k in lt_test t (cut i a b).lo (omega (arith, ints, clamps, less))

-- ---- what is said of events by their moments alone

module _ {X Y : Type 0} (f : X → Y) where
  map_filter : (p : Y → Bool) (xs : List X) → map f (filter (λ x. p (f x)) xs) ≡ filter p (map f xs)
  map_filter p [] = refl
  map_filter p (x ∷ xs) =
      (elim (p (f x)) as (λ t. map f (cond t (x ∷ filter (λ z. p (f z)) xs) (filter (λ z. p (f z)) xs)) ≡ cond t (f x ∷ map f (filter (λ z. p (f z)) xs)) (map f (filter (λ z. p (f z)) xs))) [ true ↦ refl | false ↦ refl ])
      ∙ ap (λ l. cond (p (f x)) (f x ∷ l) l) (map_filter p xs)

  last_behind : (g : Y → Bool) (x : X) (xs : List X) → option_map_or (λ z. g (f z)) (last_or (Some x) xs) false ≡ option_map_or g (last_or (Some (f x)) (map f xs)) false
  last_behind g x [] = refl
  last_behind g x (y ∷ ys) = last_behind g y ys

  last_map : (g : Y → Bool) (xs : List X) → option_map_or (λ z. g (f z)) (last_or None xs) false ≡ option_map_or g (last_or None (map f xs)) false
  last_map g [] = refl
  last_map g (x ∷ xs) = last_behind g x xs

  nothing_mapped : (xs : List X) → map f xs ≡ [] → xs ≡ []
  nothing_mapped [] h = refl
  nothing_mapped (x ∷ xs) h = absurd (let none = h in cc)

-- where no item passes a test none is kept
each_fails : {X : Type 0} (p : X → Bool) (xs : List X) → list_any p xs ≡ false → AllByRecursion (λ x. p x ≡ false) xs
each_fails p [] h = tt
each_fails p (x ∷ xs) h = by (p x) refl (each_fails p xs)
  where
    by : (t : Bool) → p x ≡ t → (list_any p xs ≡ false → AllByRecursion (λ y. p y ≡ false) xs) → AllByRecursion (λ y. p y ≡ false) (x ∷ xs)
    by true e rest = absurd (false≢true (sym h ∙ ap (λ t. t || list_any p xs) e))
    by false e rest = (e, rest (sym (ap (λ t. t || list_any p xs) e) ∙ h))

none_kept : {X : Type 0} (p : X → Bool) (xs : List X) → list_any p xs ≡ false → filter p xs ≡ []
none_kept p xs h = filter_none p xs (each_fails p xs h)

module _ (held : List HeldEvent) (n : ℕ) (xs : List Event) (same : AreHeld held n xs) (a b : ℤ) where
  -- where no event of a number is between two moments, none of the entity's events is
  none_between : has_event (events_between a b held) n ≡ false → filter (λ (y : Event). int_le a y.time && int_lt y.time b) xs ≡ []
  none_between h =
      let own = filter (is_of n) held in
      let test : ℤ × Bool → Bool = λ m. int_le a m.0 && int_lt m.0 b in
      let none : filter (is_between a b) own ≡ [] = filter_comm (is_of n) (is_between a b) held ∙ none_kept (is_of n) (events_between a b held) h in
      nothing_mapped moment_of (filter (λ (y : Event). int_le a y.time && int_lt y.time b) xs)
      (map_filter moment_of test xs ∙ (ap (filter test) (sym same) ∙ (sym (map_filter moment_held test own) ∙ ap (map moment_held) none)))

  -- the last event of the number before a moment is a deletion where the entity's last one is
  last_before : ends_kept (events_before a held) n ≡ option_map_or (λ (y : Event). not (is_deletion y)) (last_or None (filter (λ (y : Event). int_lt y.time a) xs)) false
  last_before =
      let own = filter (is_of n) held in
      let test : ℤ × Bool → Bool = λ m. int_lt m.0 a in
      let kept : ℤ × Bool → Bool = λ m. not m.1 in
      ap (λ l. option_map_or (λ (x : HeldEvent). not x.deletes) (last_or None l) false) (filter_comm (is_before a) (is_of n) held)
      ∙ (last_map moment_held kept (filter (is_before a) own)
      ∙ (ap (λ l. option_map_or kept (last_or None l) false) (map_filter moment_held test own ∙ (ap (filter test) same ∙ sym (map_filter moment_of test xs)))
      ∙ sym (last_map moment_of kept (filter (λ (y : Event). int_lt y.time a) xs))))

-- ---- what is carried

-- after a last event that is a deletion no event is live
deleted_last : (x : Event) (xs : List Event) → option_map_or (λ (y : Event). not (is_deletion y)) (last_or (Some x) xs) false ≡ false → list_any is_deletion (x ∷ xs) ≡ true
deleted_last x [] h = by (is_deletion x) refl
  where
    by : (t : Bool) → is_deletion x ≡ t → (is_deletion x || false) ≡ true
    by true e = ap (λ t. t || false) e
    by false e = absurd (false≢true (sym h ∙ ap not e))
deleted_last x (y ∷ ys) h = ap (λ t. is_deletion x || t) (deleted_last y ys h) ∙ or_true (is_deletion x)
  where
    or_true : (t : Bool) → (t || true) ≡ true
    or_true true = refl
    or_true false = refl

none_live : (xs : List Event) → option_map_or (λ (y : Event). not (is_deletion y)) (last_or None xs) false ≡ false → live_events xs ≡ []
none_live [] h = refl
none_live (x ∷ []) h = cond-true (list_any is_deletion (x ∷ [])) _ _ (deleted_last x [] h)
none_live (x ∷ y ∷ ys) h = cond-true (list_any is_deletion (x ∷ y ∷ ys)) _ _ (deleted_last x (y ∷ ys) h) ∙ none_live (y ∷ ys) h

-- ---- windows

module _ (w : World) (lawful : IsLawful w) (a b : ℤ) where
  all_inside : AllByRecursion (λ (y : Event). is_inside w.bounds y.time ≡ true) w.events
  all_inside = each_passes (λ (y : Event). is_inside w.bounds y.time) w.events lawful.inside

  own_inside : (x : Entity) → AllByRecursion (λ (y : Event). is_inside w.bounds y.time ≡ true) (events_of w x)
  own_inside x = each_kept (λ (y : Event). is_inside w.bounds y.time ≡ true) (is_about x) w.events all_inside

  -- the events inside a window
  kept_within : (xs : List Event) → AllByRecursion (λ (y : Event). is_inside w.bounds y.time ≡ true) xs → filter (is_within (cut w.bounds a b)) xs ≡ filter (λ (y : Event). int_le a y.time && int_lt y.time b) xs
  kept_within xs h =
      filter_same (is_within (cut w.bounds a b)) (λ (y : Event). int_le a y.time && int_lt y.time b) xs
      (each_weaker (λ (y : Event). is_inside w.bounds y.time ≡ true) (λ (y : Event). is_within (cut w.bounds a b) y ≡ (int_le a y.time && int_lt y.time b)) (λ y k. within_is w.bounds a b y.time k) xs h)

  kept_early : (xs : List Event) → AllByRecursion (λ (y : Event). is_inside w.bounds y.time ≡ true) xs → filter (is_early (cut w.bounds a b)) xs ≡ filter (λ (y : Event). int_lt y.time a) xs
  kept_early xs h =
      filter_same (is_early (cut w.bounds a b)) (λ (y : Event). int_lt y.time a) xs
      (each_weaker (λ (y : Event). is_inside w.bounds y.time ≡ true) (λ (y : Event). is_early (cut w.bounds a b) y ≡ int_lt y.time a) (λ y k. early_is w.bounds a b y.time k) xs h)

  -- what is not listed has no event in the window
  pub not_shown : (held : List HeldEvent) (n : ℕ) (x : Entity) → AreHeld held n (events_of w x) → is_shown (additions_last w.model) held a b n ≡ false → events_of (window w a b) x ≡ []
  not_shown held n x same h = events_of-window w a b x lawful ∙ by w.model refl
    where
      xs : List Event
      xs = events_of w x

      parts : (m : Model) → w.model ≡ m → (has_event (events_between a b held) n ≡ false) × (is_carried (additions_last m) (events_before a held) n ≡ false)
      parts m e = or_parts (has_event (events_between a b held) n) (is_carried (additions_last m) (events_before a held) n) (ap (λ z. is_shown (additions_last z) held a b n) (sym e) ∙ h)
        where
          or_parts : (s t : Bool) → (s || t) ≡ false → (s ≡ false) × (t ≡ false)
          or_parts true t k = absurd (false≢true (sym k))
          or_parts false t k = (refl, k)

      within : (m : Model) → w.model ≡ m → filter (is_within (cut w.bounds a b)) xs ≡ []
      within m e = kept_within xs (own_inside x) ∙ none_between held n xs same a b (parts m e).0

      by : (m : Model) → w.model ≡ m → clip_list m (cut w.bounds a b) xs ≡ []
      by Instants e = within Instants e
      by Persistent e =
          let early : live_events (filter (is_early (cut w.bounds a b)) xs) ≡ [] = ap live_events (kept_early xs (own_inside x)) ∙ none_live (filter (λ (y : Event). int_lt y.time a) xs) (sym (last_before held n xs same a b) ∙ (parts Persistent e).1) in
          (λ i. cond (is_empty (cut w.bounds a b)) [] (carried_events (cut w.bounds a b).lo (early i) ++ within Persistent e i)) ∙ always (is_empty (cut w.bounds a b))
        where
          always : (t : Bool) → cond {A = List Event} t [] [] ≡ []
          always true = refl
          always false = refl

  -- in the event model a window shows the events from its beginning up to its end
  pub events_inside : w.model ≡ Instants → (window w a b).events ≡ filter (λ (y : Event). int_le a y.time && int_lt y.time b) w.events
  events_inside e = ap (λ m. window_list m (cut w.bounds a b) w.events) e ∙ kept_within w.events all_inside
