-- A window of what a span spells, by the parts of the span.
use Rattle.std.proofs.Common.{◌≡◌, ◌≤ℤ◌, ◌<ℤ◌, Bool, true, false, ◌&&◌, List, [], ◌∷◌, ◌++◌, refl, sym, ◌∙◌, ap, subst, arith, inl, inr, append-nil}
use Rattle.std.specs.Prelude.{int_lt, int_le}
use Rattle.std.specs.List.{filter, AllByRecursion}
use Rattle.std.proofs.lemmas.Int.{ints}
use Rattle.std.proofs.lemmas.Bool.{and_right, cases_Bool, cond-false}
use Rattle.std.proofs.lemmas.List.Elements.{filter-append}
use Rattle.graph_model.specs.declared.events.Event.{Event}
use Rattle.graph_model.specs.declared.events.Model.TheVariants.{Event as Instants, Persistent}
use Rattle.graph_model.specs.Interval.{Interval, is_empty}
use Rattle.graph_model.specs.Compare.{live_events}
use Rattle.graph_model.specs.Window.{carried_events, is_early, is_within, clip_list}
use Rattle.world_laws.proofs.Filters.{filter_all, filter_none, each_weaker}
use Rattle.world_laws.proofs.Times.{le_from_test, lt_from_test, gt_from_test, ge_from_test, lt_test, not_lt_test, not_le_test, inside_test}
use Rattle.world_laws.proofs.Live.{carried_again}
use Rattle.world_laws.proofs.Nested.{carried_times}

-- a filter of parts, one after another
filter_four : (p : Event → Bool) (cs js is ks : List Event) → filter p (cs ++ (js ++ (is ++ ks))) ≡ filter p cs ++ (filter p js ++ (filter p is ++ filter p ks))
filter_four p cs js is ks = filter-append p cs (js ++ (is ++ ks)) ∙ ap (λ ys. filter p cs ++ ys) (filter-append p js (is ++ ks) ∙ ap (λ ys. filter p js ++ ys) (filter-append p is ks))

four : (a b c d a' b' c' d' : List Event) → a ≡ a' → b ≡ b' → c ≡ c' → d ≡ d' → a ++ (b ++ (c ++ d)) ≡ a' ++ (b' ++ (c' ++ d'))
four a b c d a' b' c' d' p q r s = λ i. p i ++ (q i ++ (r i ++ s i))

-- an event before an interval, or after it, is not inside
before_within : (i : Interval) (x : Event) → x.time <ℤ i.lo → is_within i x ≡ false
before_within i x h = ap (λ t. t && int_lt x.time i.hi) (not_le_test i.lo x.time h)

after_within : (i : Interval) (x : Event) → i.hi ≤ℤ x.time → is_within i x ≡ false
after_within i x h = ap (λ t. int_le i.lo x.time && t) (not_lt_test x.time i.hi h) ∙ and_right (int_le i.lo x.time) false refl

-- nothing is inside an interval with no moment
pub none_within : (i : Interval) → is_empty i ≡ true → (xs : List Event) → filter (is_within i) xs ≡ []
none_within i h xs = filter_none (is_within i) xs (each (λ x. outside x) xs)
  where
    outside : (x : Event) → is_within i x ≡ false
    outside x = let le = le_from_test i.hi i.lo h in elim (cases_Bool (int_le i.lo x.time)) [
      | inl e ↦ let k = le_from_test i.lo x.time e in after_within i x (omega (arith, ints))
      | inr e ↦ before_within i x (gt_from_test i.lo x.time e)
    ]

    each : ((x : Event) → is_within i x ≡ false) → (xs : List Event) → AllByRecursion (λ x. is_within i x ≡ false) xs
    each f [] = tt
    each f (x ∷ xs) = (f x, each f xs)

-- the parts of a span: those before the window, inside it, and after it
pub record AreParts (bounds cut : Interval) (js is ks : List Event) : Type 0 where
  pub begun : AllByRecursion (λ x. bounds.lo ≤ℤ x.time) js
  pub early : AllByRecursion (λ x. x.time <ℤ cut.lo) js
  pub inside_lo : AllByRecursion (λ x. cut.lo ≤ℤ x.time) is
  pub inside_hi : AllByRecursion (λ x. x.time <ℤ cut.hi) is
  pub late : AllByRecursion (λ x. cut.hi ≤ℤ x.time) ks

module _ (bounds cut : Interval) (js is ks : List Event) (parts : AreParts bounds cut js is ks) (some : cut.lo <ℤ cut.hi) (later : bounds.lo ≤ℤ cut.lo) where
  js_outside : filter (is_within cut) js ≡ []
  js_outside = filter_none (is_within cut) js (each_weaker (λ x. x.time <ℤ cut.lo) (λ x. is_within cut x ≡ false) (λ x h. before_within cut x h) js parts.early)

  is_kept : filter (is_within cut) is ≡ is
  is_kept = filter_all (is_within cut) is (both is parts.inside_lo parts.inside_hi)
    where
      both : (xs : List Event) → AllByRecursion (λ x. cut.lo ≤ℤ x.time) xs → AllByRecursion (λ x. x.time <ℤ cut.hi) xs → AllByRecursion (λ x. is_within cut x ≡ true) xs
      both [] h k = tt
      both (x ∷ xs) h k = (inside_test cut x.time h.0 k.0, both xs h.1 k.1)

  ks_outside : filter (is_within cut) ks ≡ []
  ks_outside = filter_none (is_within cut) ks (each_weaker (λ x. cut.hi ≤ℤ x.time) (λ x. is_within cut x ≡ false) (λ x h. after_within cut x h) ks parts.late)

  -- what a window shows of a span in the event model
  pub instants_clip : clip_list Instants cut (js ++ (is ++ ks)) ≡ is
  instants_clip = filter_four (is_within cut) [] js is ks ∙ (four [] _ _ _ [] [] is [] refl js_outside is_kept ks_outside ∙ append-nil is)

  js_early : filter (is_early cut) js ≡ js
  js_early = filter_all (is_early cut) js (each_weaker (λ x. x.time <ℤ cut.lo) (λ x. is_early cut x ≡ true) (λ x h. lt_test x.time cut.lo h) js parts.early)

  is_not_early : filter (is_early cut) is ≡ []
  is_not_early = filter_none (is_early cut) is (each_weaker (λ x. cut.lo ≤ℤ x.time) (λ x. is_early cut x ≡ false) (λ x h. not_lt_test x.time cut.lo h) is parts.inside_lo)

  ks_not_early : filter (is_early cut) ks ≡ []
  ks_not_early = filter_none (is_early cut) ks (each_weaker (λ x. cut.hi ≤ℤ x.time) (λ x. is_early cut x ≡ false) (λ x h. not_lt_test x.time cut.lo (omega (arith, ints))) ks parts.late)

  not_empty_test : is_empty cut ≡ false
  not_empty_test = not_le_test cut.hi cut.lo some

  module _ (es : List Event) where
    cs : List Event
    cs = carried_events bounds.lo (live_events es)

    -- where the window begins later, what was carried is early for it
    clip_later : bounds.lo <ℤ cut.lo
        → carried_events cut.lo (live_events (filter (is_early cut) (carried_events bounds.lo (live_events es) ++ (js ++ (is ++ ks))))) ++ filter (is_within cut) (carried_events bounds.lo (live_events es) ++ (js ++ (is ++ ks)))
        ≡ carried_events cut.lo (live_events (es ++ js)) ++ is
    clip_later less =
        let c = carried_events bounds.lo (live_events es) in
        let c_early : filter (is_early cut) c ≡ c = filter_all (is_early cut) c (each_weaker (λ x. x.time ≡ bounds.lo) (λ x. is_early cut x ≡ true) (λ x e. lt_test x.time cut.lo (subst (λ z. z <ℤ cut.lo) (sym e) less)) c (carried_times bounds.lo (live_events es))) in
        let c_out : filter (is_within cut) c ≡ [] = filter_none (is_within cut) c (each_weaker (λ x. x.time ≡ bounds.lo) (λ x. is_within cut x ≡ false) (λ x e. before_within cut x (subst (λ z. z <ℤ cut.lo) (sym e) less)) c (carried_times bounds.lo (live_events es))) in
        let early : filter (is_early cut) (c ++ (js ++ (is ++ ks))) ≡ c ++ js = filter_four (is_early cut) c js is ks ∙ (four _ _ _ _ c js [] [] c_early js_early is_not_early ks_not_early ∙ ap (λ ys. c ++ ys) (append-nil js)) in
        let within : filter (is_within cut) (c ++ (js ++ (is ++ ks))) ≡ is = filter_four (is_within cut) c js is ks ∙ (four _ _ _ _ [] [] is [] c_out js_outside is_kept ks_outside ∙ append-nil is) in
        ap (λ ys. carried_events cut.lo (live_events ys) ++ filter (is_within cut) (c ++ (js ++ (is ++ ks)))) early
        ∙ (ap (λ ys. carried_events cut.lo (live_events (c ++ js)) ++ ys) within
        ∙ ap (λ ys. ys ++ is) (carried_again bounds.lo cut.lo es js))

    -- where the window begins at the same moment, what was carried is inside it
    clip_same : bounds.lo ≡ cut.lo
        → carried_events cut.lo (live_events (filter (is_early cut) (carried_events bounds.lo (live_events es) ++ (js ++ (is ++ ks))))) ++ filter (is_within cut) (carried_events bounds.lo (live_events es) ++ (js ++ (is ++ ks)))
        ≡ carried_events cut.lo (live_events (es ++ js)) ++ is
    clip_same same =
        let c = carried_events bounds.lo (live_events es) in
        let none : js ≡ [] = nothing js parts.begun parts.early in
        let c_late : filter (is_early cut) c ≡ [] = filter_none (is_early cut) c (each_weaker (λ x. x.time ≡ bounds.lo) (λ x. is_early cut x ≡ false) (λ x e. not_lt_test x.time cut.lo (at_beginning x e)) c (carried_times bounds.lo (live_events es))) in
        let c_in : filter (is_within cut) c ≡ c = filter_all (is_within cut) c (each_weaker (λ x. x.time ≡ bounds.lo) (λ x. is_within cut x ≡ true) (λ x e. inside_test cut x.time (at_beginning x e) (before_end x e)) c (carried_times bounds.lo (live_events es))) in
        let early : filter (is_early cut) (c ++ (js ++ (is ++ ks))) ≡ [] = filter_four (is_early cut) c js is ks ∙ (four _ _ _ _ [] [] [] [] c_late (ap (filter (is_early cut)) none) is_not_early ks_not_early) in
        let within : filter (is_within cut) (c ++ (js ++ (is ++ ks))) ≡ c ++ is = filter_four (is_within cut) c js is ks ∙ (four _ _ _ _ c [] is [] c_in js_outside is_kept ks_outside ∙ ap (λ ys. c ++ ys) (append-nil is)) in
        ap (λ ys. carried_events cut.lo (live_events ys) ++ filter (is_within cut) (c ++ (js ++ (is ++ ks)))) early
        ∙ (within
        ∙ (ap (λ t. carried_events t (live_events es) ++ is) same
        ∙ ap (λ ys. carried_events cut.lo (live_events ys) ++ is) (sym (append-nil es) ∙ ap (λ ys. es ++ ys) (sym none))))
      where
        nothing : (xs : List Event) → AllByRecursion (λ x. bounds.lo ≤ℤ x.time) xs → AllByRecursion (λ x. x.time <ℤ cut.lo) xs → xs ≡ []
        nothing [] h k = refl
        nothing (x ∷ xs) h k = let p = h.0 in let q = k.0 in absurd (omega (arith, ints))

        at_beginning : (x : Event) → x.time ≡ bounds.lo → cut.lo ≤ℤ x.time
        at_beginning x e = omega (arith, ints)

        before_end : (x : Event) → x.time ≡ bounds.lo → x.time <ℤ cut.hi
        before_end x e = omega (arith, ints)

    -- what a window shows of a span in the persistent model
    pub persistent_clip : clip_list Persistent cut (carried_events bounds.lo (live_events es) ++ (js ++ (is ++ ks))) ≡ carried_events cut.lo (live_events (es ++ js)) ++ is
    persistent_clip =
        cond-false (is_empty cut) _ _ not_empty_test
        ∙ (elim (cases_Bool (int_lt bounds.lo cut.lo)) [
          | inl e ↦ clip_later (lt_from_test bounds.lo cut.lo e)
          | inr e ↦ let ge = ge_from_test bounds.lo cut.lo e in clip_same (omega (arith, ints))
        ])
