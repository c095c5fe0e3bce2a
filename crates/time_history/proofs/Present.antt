-- Whether the edge of a span is alive at some moment.
use Rattle.std.proofs.Common.{◌≡◌, ℕ, zero, suc, ◌+◌, ◌-◌, ◌<◌, ◌≤◌, ◌⊎◌, ◌==◌, ℤ, ◌≤ℤ◌, ◌<ℤ◌, Bool, true, false, not, ◌&&◌, ◌||◌, List, [], ◌∷◌, ◌++◌, cond, length, take, slice_range, refl, sym, ◌∙◌, ap, subst, arith, inl, inr}
use Rattle.std.specs.Prelude.{int_lt, int_le}
use Rattle.std.specs.List.{AllByRecursion, list_any}
use Rattle.std.proofs.lemmas.Bool.{cases_Bool, or_right}
use Rattle.std.proofs.lemmas.Bool.Decides.{nat_tests}
use Rattle.std.proofs.lemmas.Int.{ints}
use Rattle.graph_model.specs.declared.events.EdgeName.{EdgeName}
use Rattle.graph_model.specs.declared.events.Entity.TheVariants.{Edge}
use Rattle.graph_model.specs.declared.events.Event.{Event}
use Rattle.graph_model.specs.declared.events.Model.{Model}
use Rattle.graph_model.specs.declared.events.Model.TheVariants.{Event as Instants, Persistent}
use Rattle.graph_model.specs.Interval.{Interval, is_inside}
use Rattle.graph_model.specs.Compare.{live_events}
use Rattle.graph_model.specs.Window.{carried_events}
use Rattle.graph_model.specs.Presence.{lives_at, ends_in_addition}
use Rattle.world_laws.proofs.Times.{lt_from_test, ge_from_test, le_test, not_le_test, inside_test}
use Rattle.time_history.specs.declared.updates.Update.{Update}
use Rattle.time_history.specs.declared.span.Span.{Span}
use Rattle.time_history.specs.NoEvent.{HasNoEvent}
use Rattle.time_history.specs.Updates.{update_at, TimesRise}
use Rattle.time_history.specs.Telling.{event_told, events_told, with_key_names, Fits}
use Rattle.time_history.specs.Spans.{IsSpan, IsCut, IsTaken, IsAllowed, spelled}
use Rattle.time_history.specs.Asked.{IsPresent, is_final_at}
use Rattle.time_history.proofs.Segments.{slice_split, slice_nothing, each_in_time}
use Rattle.time_history.proofs.Clips.{bare_spelled}
use Rattle.time_history.proofs.Alive.{alive_instants, carried_alive, told_one, adds-told, any_at, uncarried}
use Rattle.time_history.proofs.Places.{same_or_more}
use Rattle.world_laws.proofs.Nested.{TimesRise as EventsRise}
use Rattle.world_laws.proofs.Final.{final_any, present_final, present_inside}

-- one event that is carried, before others
final-carried_events : (lo : ℤ) (xs ys : List Event) → ends_in_addition (carried_events lo xs) ≡ true → final_any (carried_events lo xs ++ ys) ≡ (not (list_any (λ y. int_le y.time lo) ys) || final_any ys)
final-carried_events lo [] ys h = cc
final-carried_events lo (x ∷ xs) ys h = ap (λ b. (b && not (list_any (λ y. int_le y.time lo) ys)) || final_any ys) h

none_early : (lo : ℤ) (ys : List Event) → AllByRecursion (λ y. lo <ℤ y.time) ys → list_any (λ y. int_le y.time lo) ys ≡ false
none_early lo [] h = refl
none_early lo (y ∷ ys) h = ap (λ b. b || list_any (λ z. int_le z.time lo) ys) (not_le_test y.time lo h.0) ∙ none_early lo ys h.1

module _ (edge : EdgeName) (names : ℕ → List ℕ) (us : List Update) (rise : TimesRise us) where
  -- a part, by its first event and the others
  slice_first : (i to : ℕ) → i < to → to ≤ length us → slice_range (events_told (Edge edge) names us) i to ≡ event_told (Edge edge) names (update_at us i) ∷ slice_range (events_told (Edge edge) names us) (i + 1) to
  slice_first i to lt le = slice_split (events_told (Edge edge) names us) i (i + 1) to (omega arith) (omega arith) ∙ ap (λ ys. ys ++ slice_range (events_told (Edge edge) names us) (i + 1) to) (told_one edge names us i (omega arith))

  -- whether an event of a part has another at its time after it
  followed : (i to : ℕ) → i < to → to ≤ length us → not (list_any (λ y. int_le y.time (update_at us i).time) (slice_range (events_told (Edge edge) names us) (i + 1) to)) ≡ (i + 1 == to || int_lt (update_at us i).time (update_at us (i + 1)).time)
  followed i to lt le = elim (same_or_more (i + 1) to (omega arith)) [
    | inl e ↦
        let t : (i + 1 == to) ≡ true = grind (arith, nat_tests) in
        ap (λ ys. not (list_any (λ y. int_le y.time (update_at us i).time) ys)) (ap (slice_range (events_told (Edge edge) names us) (i + 1)) (sym e) ∙ slice_nothing (events_told (Edge edge) names us) (i + 1))
        ∙ sym (ap (λ b. b || int_lt (update_at us i).time (update_at us (i + 1)).time) t)
    | inr more ↦
        let t : (i + 1 == to) ≡ false = grind (arith, nat_tests) in
        elim (cases_Bool (int_lt (update_at us i).time (update_at us (i + 1)).time)) [
          | inl e ↦
              let less = lt_from_test (update_at us i).time (update_at us (i + 1)).time e in
              ap not (none_early (update_at us i).time (slice_range (events_told (Edge edge) names us) (i + 1) to) (each_in_time (Edge edge) names us (λ z. (update_at us i).time <ℤ z) (i + 1) to le (λ k a b. let step = rise (i + 1) k a (omega arith) in omega (arith, ints))))
              ∙ sym (ap (λ b. b || int_lt (update_at us i).time (update_at us (i + 1)).time) t ∙ e)
          | inr e ↦
              let ge = ge_from_test (update_at us i).time (update_at us (i + 1)).time e in
              ap not (ap (list_any (λ y. int_le y.time (update_at us i).time)) (slice_first (i + 1) to more le) ∙ ap (λ b. b || list_any (λ y. int_le y.time (update_at us i).time) (slice_range (events_told (Edge edge) names us) (i + 1 + 1) to)) (le_test (update_at us (i + 1)).time (update_at us i).time ge))
              ∙ sym (ap (λ b. b || int_lt (update_at us i).time (update_at us (i + 1)).time) t ∙ e)
        ]
  ]

  -- the first event of a part, and the others
  final_first : (i to : ℕ) → i < to → to ≤ length us → final_any (slice_range (events_told (Edge edge) names us) i to) ≡ (is_final_at us i to || final_any (slice_range (events_told (Edge edge) names us) (i + 1) to))
  final_first i to lt le =
      ap final_any (slice_first i to lt le)
      ∙ (λ j. (adds-told edge (update_at us i).kind (with_key_names names (update_at us i).props) j && followed i to lt le j) || final_any (slice_range (events_told (Edge edge) names us) (i + 1) to))

  final_none : (n i to : ℕ) → i + n ≡ to → to ≤ length us → ((k : ℕ) → i ≤ k → k < to → is_final_at us k to ≡ false) → final_any (slice_range (events_told (Edge edge) names us) i to) ≡ false
  final_none zero i to e le h = let same : to ≡ i = omega arith in ap (λ n. final_any (slice_range (events_told (Edge edge) names us) i n)) same ∙ ap final_any (slice_nothing (events_told (Edge edge) names us) i)
  final_none (suc n) i to e le h =
      let lt : i < to = omega arith in
      final_first i to lt le ∙ (λ j. h i (omega arith) lt j || final_none n (i + 1) to (omega arith) le (λ k a b. h k (omega arith) b) j)

  final_some : (n i k to : ℕ) → i + n ≡ to → to ≤ length us → i ≤ k → k < to → is_final_at us k to ≡ true → final_any (slice_range (events_told (Edge edge) names us) i to) ≡ true
  final_some zero i k to e le a b h = absurd (omega arith)
  final_some (suc n) i k to e le a b h =
      let lt : i < to = omega arith in
      final_first i to lt le ∙ (elim (first_or_later i k a) [
        | inl same ↦ ap (λ t. t || final_any (slice_range (events_told (Edge edge) names us) (i + 1) to)) (ap (λ m. is_final_at us m to) same ∙ h)
        | inr later ↦ ap (λ t. is_final_at us i to || t) (final_some n (i + 1) k to (omega arith) le later b h) ∙ or_right (is_final_at us i to) true refl
      ])
    where
      first_or_later : (i k : ℕ) → i ≤ k → (i ≡ k) ⊎ (i + 1 ≤ k)
      first_or_later i k h = grind arith

  rising_slice : (n i to : ℕ) → i + n ≡ to → to ≤ length us → EventsRise (slice_range (events_told (Edge edge) names us) i to)
  rising_slice zero i to e le = let same : i ≡ to = omega arith in subst (λ m. EventsRise (slice_range (events_told (Edge edge) names us) i m)) same (subst EventsRise (sym (slice_nothing (events_told (Edge edge) names us) i)) tt)
  rising_slice (suc n) i to e le =
      let lt : i < to = omega arith in
      subst EventsRise (sym (slice_first i to lt le)) (each_in_time (Edge edge) names us (λ z. (update_at us i).time ≤ℤ z) (i + 1) to le (λ k a b. rise i k (omega arith) (omega arith)), rising_slice n (i + 1) to (omega arith) le)

  module _ (bounds : Interval) (span : Span) (s : IsSpan us span) (fit : Fits (Edge edge) us) (cut : IsCut Persistent bounds us span) where
    rest : List Event
    rest = slice_range (events_told (Edge edge) names us) span.from span.to

    inside_rest : AllByRecursion (λ x. is_inside bounds x.time ≡ true) (slice_range (events_told (Edge edge) names us) span.from span.to)
    inside_rest = each_in_time (Edge edge) names us (λ t. is_inside bounds t ≡ true) span.from span.to s.end (λ k a b. inside_test bounds (update_at us k).time (cut.begun k a b) (cut.unended k a b))

    inside_all : (c : Bool) (xs : List Event) → AllByRecursion (λ x. is_inside bounds x.time ≡ true) (cond c (carried_events bounds.lo xs) [] ++ slice_range (events_told (Edge edge) names us) span.from span.to)
    inside_all false xs = inside_rest
    inside_all true [] = inside_rest
    inside_all true (x ∷ xs) = let some = cut.some in (inside_test bounds bounds.lo (omega (arith, ints)) some, inside_rest)

    rising_all : (c : Bool) (xs : List Event) → EventsRise (cond c (carried_events bounds.lo xs) [] ++ slice_range (events_told (Edge edge) names us) span.from span.to)
    rising_all false xs = let order = s.order in rising_slice (span.to - span.from) span.from span.to (omega arith) s.end
    rising_all true [] = let order = s.order in rising_slice (span.to - span.from) span.from span.to (omega arith) s.end
    rising_all true (x ∷ xs) = let order = s.order in (each_in_time (Edge edge) names us (λ t. bounds.lo ≤ℤ t) span.from span.to s.end cut.begun, rising_slice (span.to - span.from) span.from span.to (omega arith) s.end)

    pub present_is : list_any (λ x. lives_at Persistent bounds (spelled (Edge edge) names us span bounds.lo) x.time) (spelled (Edge edge) names us span bounds.lo) ≡ final_any (spelled (Edge edge) names us span bounds.lo)
    present_is =
        let xs = live_events (take span.from (events_told (Edge edge) names us)) in
        present_inside bounds (spelled (Edge edge) names us span bounds.lo) (spelled (Edge edge) names us span bounds.lo) (inside_all span.carried xs) ∙ present_final (spelled (Edge edge) names us span bounds.lo) (rising_all span.carried xs)

    -- what is carried is final where nothing follows at the beginning
    with_carried : (c : Bool) → c ≡ span.carried → final_any (cond c (carried_events bounds.lo (live_events (take span.from (events_told (Edge edge) names us)))) [] ++ slice_range (events_told (Edge edge) names us) span.from span.to)
        ≡ ((c && not (list_any (λ y. int_le y.time bounds.lo) (slice_range (events_told (Edge edge) names us) span.from span.to))) || final_any (slice_range (events_told (Edge edge) names us) span.from span.to))
    with_carried false e = refl
    with_carried true e = final-carried_events bounds.lo (live_events (take span.from (events_told (Edge edge) names us))) (slice_range (events_told (Edge edge) names us) span.from span.to) (carried_alive edge names us span bounds.lo s fit true e)

    present_parts : list_any (λ x. lives_at Persistent bounds (spelled (Edge edge) names us span bounds.lo) x.time) (spelled (Edge edge) names us span bounds.lo)
        ≡ ((span.carried && not (list_any (λ y. int_le y.time bounds.lo) (slice_range (events_told (Edge edge) names us) span.from span.to))) || final_any (slice_range (events_told (Edge edge) names us) span.from span.to))
    present_parts = present_is ∙ with_carried span.carried refl

    -- a span with nothing but what is carried
    pub present_alone : span.from ≡ span.to → span.carried ≡ list_any (λ x. lives_at Persistent bounds (spelled (Edge edge) names us span bounds.lo) x.time) (spelled (Edge edge) names us span bounds.lo)
    present_alone e =
        sym (present_parts ∙ (ap (λ ys. (span.carried && not (list_any (λ y. int_le y.time bounds.lo) ys)) || final_any ys) (ap (slice_range (events_told (Edge edge) names us) span.from) (sym e) ∙ slice_nothing (events_told (Edge edge) names us) span.from) ∙ alone span.carried))
      where
        alone : (c : Bool) → ((c && true) || false) ≡ c
        alone true = refl
        alone false = refl

    -- what is carried, before the first update
    pub present_carried : span.carried ≡ true → span.from < span.to → int_lt bounds.lo (update_at us span.from).time ≡ true → true ≡ list_any (λ x. lives_at Persistent bounds (spelled (Edge edge) names us span bounds.lo) x.time) (spelled (Edge edge) names us span bounds.lo)
    present_carried c lt h =
        let less = lt_from_test bounds.lo (update_at us span.from).time h in
        let end = s.end in
        let none = none_early bounds.lo (slice_range (events_told (Edge edge) names us) span.from span.to) (each_in_time (Edge edge) names us (λ t. bounds.lo <ℤ t) span.from span.to s.end (λ k a b. let step = rise span.from k a (omega arith) in omega (arith, ints))) in
        sym (present_parts ∙ (λ i. (c i && not (none i)) || final_any (slice_range (events_told (Edge edge) names us) span.from span.to)))

    -- an addition that nothing follows at its time
    pub present_found : (k : ℕ) → span.from ≤ k → k < span.to → is_final_at us k span.to ≡ true → true ≡ list_any (λ x. lives_at Persistent bounds (spelled (Edge edge) names us span bounds.lo) x.time) (spelled (Edge edge) names us span bounds.lo)
    present_found k a b h =
        let order = s.order in
        sym (present_parts ∙ (ap (λ t. (span.carried && not (list_any (λ y. int_le y.time bounds.lo) (slice_range (events_told (Edge edge) names us) span.from span.to))) || t) (final_some (span.to - span.from) span.from k span.to (omega arith) s.end a b h) ∙ or_right (span.carried && not (list_any (λ y. int_le y.time bounds.lo) (slice_range (events_told (Edge edge) names us) span.from span.to))) true refl))

    -- nothing carried is final, and no addition
    pub present_none : span.from < span.to → (span.carried ≡ true → int_lt bounds.lo (update_at us span.from).time ≡ false) → ((k : ℕ) → span.from ≤ k → k < span.to → is_final_at us k span.to ≡ false)
        → false ≡ list_any (λ x. lives_at Persistent bounds (spelled (Edge edge) names us span bounds.lo) x.time) (spelled (Edge edge) names us span bounds.lo)
    present_none lt c h =
        let order = s.order in
        sym (present_parts ∙ (λ i. covered span.carried c i || final_none (span.to - span.from) span.from span.to (omega arith) s.end h i))
      where
        covered : (b : Bool) → (b ≡ true → int_lt bounds.lo (update_at us span.from).time ≡ false) → (b && not (list_any (λ y. int_le y.time bounds.lo) (slice_range (events_told (Edge edge) names us) span.from span.to))) ≡ false
        covered false f = refl
        covered true f =
            let le = ge_from_test bounds.lo (update_at us span.from).time (f refl) in
            ap not (ap (list_any (λ y. int_le y.time bounds.lo)) (slice_first span.from span.to lt s.end) ∙ ap (λ b. b || list_any (λ y. int_le y.time bounds.lo) (slice_range (events_told (Edge edge) names us) (span.from + 1) span.to)) (le_test (update_at us span.from).time bounds.lo le))

-- a span with no event
pub present_bare : (model : Model) (bounds : Interval) (us : List Update) (span : Span) → HasNoEvent span → IsPresent model bounds us span false
present_bare model bounds us span bare edge names fit = sym (ap (list_any (λ x. lives_at model bounds (spelled (Edge edge) names us span bounds.lo) x.time)) (bare_spelled (Edge edge) names us fit span bounds.lo bare))

-- in the event model each update of an edge is a contact
pub present_instants : (model : Model) (bounds : Interval) (us : List Update) (span : Span) (r : Bool) → model ≡ Instants → IsSpan us span → IsAllowed model us → IsTaken model bounds us span → (r ≡ true → span.from < span.to) → (r ≡ false → span.to ≤ span.from) → IsPresent model bounds us span r
present_instants Persistent bounds us span r m s none t some bare = cc
present_instants Instants bounds us span false m s none t some bare =
    let le = bare refl in
    let order = s.order in
    present_bare Instants bounds us span (omega arith, uncarried bounds us span t)
present_instants Instants bounds us span true m s none t some bare = λ edge names fit.
    let lt = some refl in
    sym (ap (λ b. list_any (λ x. lives_at Instants bounds (spelled (Edge edge) names us span bounds.lo) x.time) (cond b (carried_events bounds.lo (live_events (take span.from (events_told (Edge edge) names us)))) [] ++ slice_range (events_told (Edge edge) names us) span.from span.to)) (uncarried bounds us span t)
    ∙ any_at edge names us (λ x. lives_at Instants bounds (spelled (Edge edge) names us span bounds.lo) x.time) span.from span.to span.from s.end (omega arith) lt
    (sym (alive_instants edge names us span bounds (update_at us span.from).time true s none (uncarried bounds us span t) (span.from, omega arith, lt, refl))))
