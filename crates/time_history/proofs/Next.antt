-- The next contact of an edge.
use Rattle.std.proofs.Common.{◌≡◌, ℕ, zero, suc, ◌+◌, ◌-◌, ◌==◌, ◌<◌, ◌≤◌, ◌⊎◌, ℤ, pos, ◌+ℤ◌, ◌≤ℤ◌, ◌<ℤ◌, Bool, true, false, not, ◌&&◌, ◌||◌, List, [], Option, Some, None, refl, sym, ◌∙◌, ap, arith, inl, inr}
use Rattle.std.specs.Prelude.{int_lt, int_le}
use Rattle.std.specs.Int.{int_max}
use Rattle.std.specs.List.{filter}
use Rattle.std.proofs.lemmas.Bool.{and_right, cases_Bool, cases_lt, or_right, true≢false}
use Rattle.std.proofs.lemmas.Bool.Decides.{nat_tests}
use Rattle.std.proofs.lemmas.Int.{ints, clamps}
use Rattle.graph_model.specs.declared.events.EdgeName.{EdgeName}
use Rattle.graph_model.specs.declared.events.Entity.TheVariants.{Edge}
use Rattle.graph_model.specs.declared.events.Model.{Model}
use Rattle.graph_model.specs.declared.events.Model.TheVariants.{Event as Instants, Persistent}
use Rattle.graph_model.specs.Interval.{Interval, is_inside}
use Rattle.graph_model.specs.Presence.{lives_at, ends_in_addition}
use Rattle.world_laws.proofs.Times.{le_from_test, gt_from_test, ge_from_test, lt_test, not_le_test, not_lt_test, inside_test, lt_from_test}
use Rattle.time_history.specs.declared.updates.Update.{Update}
use Rattle.time_history.specs.declared.span.Span.{Span}
use Rattle.time_history.specs.Kinds.{NoDeletion, is_delete}
use Rattle.time_history.specs.Telling.{Fits}
use Rattle.time_history.specs.Updates.{update_at, TimesRise}
use Rattle.time_history.specs.Spans.{IsSpan, IsCut, IsTaken, IsAllowed, spelled}
use Rattle.time_history.specs.NoEvent.{HasNoEvent}
use Rattle.time_history.proofs.Clips.{bare_spelled}
use Rattle.time_history.specs.Asked.{IsAliveAt, IsNextUpdate, IsNextContact, is_final_at}
use Rattle.time_history.proofs.Alive.{alive_instants, alive_after, alive_carried, uncarried}
use Rattle.time_history.proofs.Places.{same_or_more}

-- the first update that is later than a moment
pub next_is : (us : List Update) (span : Span) (after m : ℤ) (at : ℕ) → IsSpan us span → span.from ≤ at → at < span.to
    → ((k : ℕ) → span.from ≤ k → k < at → (update_at us k).time ≤ℤ after) → ((k : ℕ) → at ≤ k → k < span.to → after <ℤ (update_at us k).time) → TimesRise us
    → m ≡ (update_at us at).time → IsNextUpdate us span after (Some m)
next_is us span after m at s from to before later rise e =
    let here = later at (omega arith) to in (
      omega (arith, ints),
      (at, from, to, sym e),
      λ t a b k c d f. elim (cases_lt k at) [
        | inl lt ↦ let le = before k c lt in omega (arith, ints)
        | inr ge ↦ let end = s.end in let le = rise at k ge (omega arith) in omega (arith, ints)
      ],
    )

-- where edges are instants, the next update is the next contact
pub next_instants : (bounds : Interval) (us : List Update) (span : Span) (after : ℤ) (r : Option ℤ) → IsSpan us span → NoDeletion us → IsTaken Instants bounds us span → IsNextUpdate us span after r → IsNextContact Instants bounds us span after r
next_instants bounds us span after (Some m) s none t h = λ edge names fit.
    (h.0, sym (alive_instants edge names us span bounds m true s none (uncarried bounds us span t) h.1), λ z a b. sym (alive_instants edge names us span bounds z false s none (uncarried bounds us span t) (h.2 z a b)))
next_instants bounds us span after None s none t h = λ edge names fit z a. sym (alive_instants edge names us span bounds z false s none (uncarried bounds us span t) (h z a))

-- ---- where edges last
place_of : (us : List Update) (span : Span) (t : ℤ) (at : ℕ) → IsSpan us span → span.from ≤ at → TimesRise us → ((k : ℕ) → span.from ≤ k → k < at → (update_at us k).time ≤ℤ t)
    → (n e : ℕ) → at + n ≡ e → e ≤ span.to → ((k : ℕ) → e ≤ k → k < span.to → t <ℤ (update_at us k).time)
    → (j : ℕ) × (at ≤ j) × (j ≤ e) × ((k : ℕ) → span.from ≤ k → k < j → (update_at us k).time ≤ℤ t) × ((k : ℕ) → j ≤ k → k < span.to → t <ℤ (update_at us k).time)
place_of us span t at s from rise before zero e sum le later =
    let same : e ≡ at = omega arith in
    (at, omega arith, omega arith, before, λ k a b. later k (omega arith) b)
place_of us span t at s from rise before (suc n) e sum le later =
    elim (cases_Bool (int_le (update_at us (at + n)).time t)) [
      | inl h ↦
          let last = le_from_test (update_at us (at + n)).time t h in
          (e, omega arith, omega arith, (λ k a b. let end = s.end in let step = rise k (at + n) (omega arith) (omega arith) in omega (arith, ints)), later)
      | inr h ↦
          let more = gt_from_test (update_at us (at + n)).time t h in
          let found = place_of us span t at s from rise before n (at + n) refl (omega arith) (λ k a b. let end = s.end in let step = rise (at + n) k a (omega arith) in omega (arith, ints)) in
          let high = found.2 in
          (found.0, found.1, omega arith, found.3, found.4)
    ]

and_false_right : (a b : Bool) → (a && b) ≡ false → b ≡ true → a ≡ false
and_false_right true b h e = absurd (true≢false (sym e ∙ h))
and_false_right false b h e = refl

-- an update that no other follows at its time
last_of_time : (us : List Update) (i to : ℕ) (t : ℤ) → i < to → (update_at us i).time ≤ℤ t → ((k : ℕ) → i + 1 ≤ k → k < to → t <ℤ (update_at us k).time) → (i + 1 == to || int_lt (update_at us i).time (update_at us (i + 1)).time) ≡ true
last_of_time us i to t lt le later = elim (same_or_more (i + 1) to (omega arith)) [
  | inl e ↦ let q : (i + 1 == to) ≡ true = grind (arith, nat_tests) in ap (λ b. b || int_lt (update_at us i).time (update_at us (i + 1)).time) q
  | inr m ↦ let more = later (i + 1) (omega arith) m in ap (λ b. (i + 1 == to) || b) (lt_test (update_at us i).time (update_at us (i + 1)).time (omega (arith, ints))) ∙ or_right (i + 1 == to) true refl
]

-- outside the bounds nothing is alive
outside : (edge : EdgeName) (names : ℕ → List ℕ) (us : List Update) (bounds : Interval) (span : Span) (t : ℤ) → is_inside bounds t ≡ false → lives_at Persistent bounds (spelled (Edge edge) names us span bounds.lo) t ≡ false
outside edge names us bounds span t h = ap (λ b. b && ends_in_addition (filter (λ x. int_le x.time t) (spelled (Edge edge) names us span bounds.lo))) h

module _ (edge : EdgeName) (names : ℕ → List ℕ) (us : List Update) (bounds : Interval) (span : Span) (s : IsSpan us span) (fit : Fits (Edge edge) us) (rise : TimesRise us) where
  -- two moments with no update between
  as_before : (t u : ℤ) (at : ℕ) → span.from ≤ at → at ≤ span.to → ((k : ℕ) → span.from ≤ k → k < at → (update_at us k).time ≤ℤ t) → ((k : ℕ) → at ≤ k → k < span.to → t <ℤ (update_at us k).time)
      → ((k : ℕ) → span.from ≤ k → k < at → (update_at us k).time ≤ℤ u) → ((k : ℕ) → at ≤ k → k < span.to → u <ℤ (update_at us k).time)
      → is_inside bounds t ≡ true → is_inside bounds u ≡ true
      → lives_at Persistent bounds (spelled (Edge edge) names us span bounds.lo) t ≡ lives_at Persistent bounds (spelled (Edge edge) names us span bounds.lo) u
  as_before t u at from to b1 a1 b2 a2 i1 i2 = elim (cases_lt span.from at) [
    | inl lt ↦ sym (alive_after edge names us span bounds t at s from to b1 a1 i1 lt) ∙ alive_after edge names us span bounds u at s from to b2 a2 i2 lt
    | inr ge ↦ sym (alive_carried edge names us span bounds t at s from to b1 a1 i1 ge fit) ∙ alive_carried edge names us span bounds u at s from to b2 a2 i2 ge fit
  ]

  -- no contact up to a place before which no addition is final
  pub quiet : (first t : ℤ) (at e : ℕ) → first <ℤ t → is_inside bounds first ≡ true → is_inside bounds t ≡ true → lives_at Persistent bounds (spelled (Edge edge) names us span bounds.lo) first ≡ false → span.from ≤ at → at ≤ e → e ≤ span.to
      → ((k : ℕ) → span.from ≤ k → k < at → (update_at us k).time ≤ℤ first) → ((k : ℕ) → at ≤ k → k < span.to → first <ℤ (update_at us k).time)
      → ((k : ℕ) → at ≤ k → k < e → is_final_at us k span.to ≡ false) → ((k : ℕ) → e ≤ k → k < span.to → t <ℤ (update_at us k).time)
      → lives_at Persistent bounds (spelled (Edge edge) names us span bounds.lo) t ≡ false
  quiet first t at e less i1 i2 dead from order to before later none beyond =
      let upto : (k : ℕ) → span.from ≤ k → k < at → (update_at us k).time ≤ℤ t = λ k a b. let p = before k a b in omega (arith, ints) in
      let found = place_of us span t at s from rise upto (e - at) e (omega arith) to beyond in
      let low = found.1 in let high = found.2 in
      elim (same_or_more at found.0 low) [
        | inl same ↦ as_before t first at from (omega arith) upto (λ k a b. found.4 k (omega arith) b) before later i2 i1 ∙ dead
        | inr more ↦
            let i = found.0 - 1 in
            let one : i + 1 ≡ found.0 = omega arith in
            let quiet_here = none i (omega arith) (omega arith) in
            let last = last_of_time us i span.to t (omega arith) (found.3 i (omega arith) (omega arith)) (λ k a b. found.4 k (omega arith) b) in
            sym (alive_after edge names us span bounds t found.0 s (omega arith) (omega arith) found.3 found.4 i2 (omega arith))
            ∙ and_false_right (not (is_delete (update_at us i).kind)) (i + 1 == span.to || int_lt (update_at us i).time (update_at us (i + 1)).time) quiet_here last
      ]

module _ (us : List Update) (bounds : Interval) (span : Span) (after first : ℤ) (s : IsSpan us span) (cut : IsCut Persistent bounds us span) (is : first ≡ int_max (after +ℤ pos 1) bounds.lo) where
  first_later : after <ℤ first
  first_later = omega (arith, ints, clamps)

  first_lo : bounds.lo ≤ℤ first
  first_lo = omega (arith, ints, clamps)

  -- no moment after the given one is in the bounds before the first that could be
  none_sooner : (t : ℤ) → after <ℤ t → t <ℤ first → is_inside bounds t ≡ false
  none_sooner t a b = let early : t <ℤ bounds.lo = omega (arith, ints, clamps) in ap (λ x. x && int_lt t bounds.hi) (not_le_test bounds.lo t early)

  none_later : is_inside bounds first ≡ false → (t : ℤ) → after <ℤ t → is_inside bounds t ≡ false
  none_later h t a = elim (cases_Bool (int_lt t first)) [
    | inl e ↦ none_sooner t a (lt_from_test t first e)
    | inr e ↦
        let ge = ge_from_test t first e in
        let end : bounds.hi ≤ℤ first = elim (cases_Bool (int_lt first bounds.hi)) [
          | inl f ↦ absurd (true≢false (sym (inside_test bounds first first_lo (lt_from_test first bounds.hi f)) ∙ h))
          | inr f ↦ ge_from_test first bounds.hi f
        ] in
        ap (λ x. int_le bounds.lo t && x) (not_lt_test t bounds.hi (omega (arith, ints))) ∙ and_right (int_le bounds.lo t) false refl
  ]

  pub next_beyond : is_inside bounds first ≡ false → IsNextContact Persistent bounds us span after None
  next_beyond h = λ edge names fit t a. outside edge names us bounds span t (none_later h t a)

  pub next_first : IsAliveAt Persistent bounds us span first true → IsNextContact Persistent bounds us span after (Some first)
  next_first h = λ edge names fit. (first_later, sym (h edge names fit), λ t a b. outside edge names us bounds span t (none_sooner t a b))

  module _ (rise : TimesRise us) (inside : is_inside bounds first ≡ true) (dead : IsAliveAt Persistent bounds us span first false) (at : ℕ) (from : span.from ≤ at) (to : at ≤ span.to)
      (before : (k : ℕ) → span.from ≤ k → k < at → (update_at us k).time ≤ℤ first) (beyond : (k : ℕ) → at ≤ k → k < span.to → first <ℤ (update_at us k).time) where
    -- up to a place before which no addition is final
    still : (e : ℕ) → at ≤ e → e ≤ span.to → ((k : ℕ) → at ≤ k → k < e → is_final_at us k span.to ≡ false) → (t : ℤ) → after <ℤ t → ((k : ℕ) → e ≤ k → k < span.to → t <ℤ (update_at us k).time)
        → (edge : EdgeName) (names : ℕ → List ℕ) → Fits (Edge edge) us → lives_at Persistent bounds (spelled (Edge edge) names us span bounds.lo) t ≡ false
    still e low high none t a rest edge names fit = elim (cases_Bool (is_inside bounds t)) [
      | inr out ↦ outside edge names us bounds span t out
      | inl in_bounds ↦ elim (three t first) [
        | inl less ↦ absurd (true≢false (sym in_bounds ∙ none_sooner t a less))
        | inr d ↦ elim d [
          | inl same ↦ ap (λ m. lives_at Persistent bounds (spelled (Edge edge) names us span bounds.lo) m) same ∙ sym (dead edge names fit)
          | inr more ↦ quiet edge names us bounds span s fit rise first t at e more inside in_bounds (sym (dead edge names fit)) from low high before beyond none rest
        ]
      ]
    ]
      where
        three : (t f : ℤ) → (t <ℤ f) ⊎ ((t ≡ f) ⊎ (f <ℤ t))
        three t f = elim (cases_Bool (int_lt t f)) [
          | inl e ↦ inl (grind (arith, ints))
          | inr e ↦ elim (cases_Bool (int_lt f t)) [
            | inl g ↦ inr (inr (grind (arith, ints)))
            | inr g ↦ let p = ge_from_test t f e in let q = ge_from_test f t g in inr (inl (omega (arith, ints)))
          ]
        ]

    pub next_none : ((k : ℕ) → at ≤ k → k < span.to → is_final_at us k span.to ≡ false) → IsNextContact Persistent bounds us span after None
    next_none none = λ edge names fit t a. still span.to to (omega arith) none t a (λ k b c. absurd (omega arith)) edge names fit

    final_kept : (a b : Bool) → (not a && b) ≡ true → a ≡ false
    final_kept true b h = cc
    final_kept false b h = refl

    final_last : (a b : Bool) → (not a && b) ≡ true → b ≡ true
    final_last true b h = cc
    final_last false b h = h

    pub next_final : (i : ℕ) → at ≤ i → i < span.to → ((k : ℕ) → at ≤ k → k < i → is_final_at us k span.to ≡ false) → is_final_at us i span.to ≡ true → IsNextContact Persistent bounds us span after (Some (update_at us i).time)
    next_final i low high none final = λ edge names fit.
        let end = s.end in
        let late = beyond i low high in
        let lo = first_lo in
        let more = first_later in
        let m = (update_at us i).time in
        let m_inside : is_inside bounds (update_at us i).time ≡ true = inside_test bounds (update_at us i).time (omega (arith, ints)) (cut.unended i (omega arith) high) in
        let one : i + 1 - 1 ≡ i = omega arith in
        let kept = final_kept (is_delete (update_at us i).kind) _ final in (
          omega (arith, ints),
          sym (alive_after edge names us span bounds (update_at us i).time (i + 1) s (omega arith) (omega arith) (λ k a b. rise k i (omega arith) (omega arith)) (λ k a b. next_is_later i k high a b (final_last (is_delete (update_at us i).kind) _ final)) m_inside (omega arith))
              ∙ (ap (λ n. not (is_delete (update_at us n).kind)) one ∙ ap not kept),
          λ t a b. still i low (omega arith) none t a (λ k c d. let step = rise i k c (omega arith) in omega (arith, ints)) edge names fit,
        )
      where
        next_is_later : (i k : ℕ) → i < span.to → i + 1 ≤ k → k < span.to → (i + 1 == span.to || int_lt (update_at us i).time (update_at us (i + 1)).time) ≡ true → (update_at us i).time <ℤ (update_at us k).time
        next_is_later i k h a b e =
            let end = s.end in
            let t : (i + 1 == span.to) ≡ false = grind (arith, nat_tests) in
            let less = lt_from_test (update_at us i).time (update_at us (i + 1)).time (sym (ap (λ x. x || int_lt (update_at us i).time (update_at us (i + 1)).time) t) ∙ e) in
            let step = rise (i + 1) k a (omega arith) in omega (arith, ints)

-- a span with no event has no contact
pub next_bare : (model : Model) (bounds : Interval) (us : List Update) (span : Span) (after : ℤ) → HasNoEvent span → IsNextContact model bounds us span after None
next_bare model bounds us span after bare edge names fit t a = ap (λ xs. lives_at model bounds xs t) (bare_spelled (Edge edge) names us fit span bounds.lo bare) ∙ nothing model
  where
    nothing : (m : Model) → lives_at m bounds [] t ≡ false
    nothing Instants = refl
    nothing Persistent = elim (is_inside bounds t) as (λ b. (b && false) ≡ false) [ true ↦ refl | false ↦ refl ]

-- after the bounds there is no contact
pub next_past : (model : Model) (bounds : Interval) (us : List Update) (span : Span) (after : ℤ) → IsSpan us span → IsAllowed model us → IsCut model bounds us span → bounds.hi ≤ℤ after → IsNextContact model bounds us span after None
next_past Instants bounds us span after s none cut le edge names fit t a = sym (alive_instants edge names us span bounds t false s none cut.carried (λ k b c e. let high = cut.unended k b c in omega (arith, ints)))
next_past Persistent bounds us span after s none cut le edge names fit t a = outside edge names us bounds span t (ap (λ x. int_le bounds.lo t && x) (not_lt_test t bounds.hi (omega (arith, ints))) ∙ and_right (int_le bounds.lo t) false refl)

-- a span that is cut is taken
pub taken_of_cut : (model : Model) (bounds : Interval) (us : List Update) (span : Span) → IsCut model bounds us span → IsTaken model bounds us span
taken_of_cut model bounds us span cut = inr cut
