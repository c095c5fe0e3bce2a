-- The events before a mark, and those between two.
use Rattle.std.proofs.Common.{◌≡◌, inl, inr, append-nil, ℕ, ℤ, zero, suc, ◌+◌, ◌-◌, ◌<◌, ◌≤◌, ◌<ℤ◌, ◌≤ℤ◌, Bool, true, false, not, ◌&&◌, ◌||◌, List, [], ◌∷◌, ◌++◌, cond, length, get_or, take, drop, refl, sym, ◌∙◌, ap, subst, arith}
use Rattle.std.specs.Prelude.{◌==◌, int_le, int_lt, None}
use Rattle.std.specs.Option.{option_map_or}
use Rattle.std.specs.List.{filter, last_or}
use Rattle.std.specs.Prelude.{slice_range}
use Rattle.std.specs.Prelude.{pos}
use Rattle.std.proofs.Common.{w64, to_z, of_z}
use mir.Val.{SFits}
use Rattle.std.proofs.lemmas.Int.{ints, to_z-of_z}
use Rattle.std.proofs.lemmas.Bool.{cases_lt, eq-eqb, or_left, true≢false}
use Rattle.std.proofs.lemmas.List.{drop-take, get_or_default, length-take, take_more}
use Rattle.std.proofs.Math.ListN.{drop_of_length-le}
use Rattle.std.proofs.lemmas.List.Elements.{filter-append}
use Rattle.world_laws.proofs.Distinct.{last_or-append}
use Rattle.world_laws.proofs.Times.{ge_from_test, le_test, lt_from_test, lt_test, not_le_test, not_lt_test}
use Rattle.event_sweep.specs.Numbers.{is_listed}
use Rattle.event_sweep.specs.Swept.{AreEarlier, IsMark, IsPassed, TimesRise, ends_kept, events_before, events_between, has_event, is_between, is_carried, is_of, is_shown}
use Rattle.event_sweep.specs.declared.held_events.HeldEvent.{HeldEvent}

-- ---- what stands before a mark, and from it on

-- a mark behind the first event is one among the others
tail_mark : (x : HeldEvent) (xs : List HeldEvent) (m : ℕ) (t : ℤ) → IsMark (x ∷ xs) (suc m) t → IsMark xs m t
tail_mark x xs m t h = record {
  within = let w = h.within in omega (arith, w);
  before = λ k d lt below. h.before (suc k) d (omega (arith, lt)) (omega (arith, below));
  from = λ k d le below. h.from (suc k) d (omega (arith, le)) (omega (arith, below));
}

-- a mark at the first event is one before all others
later_mark : (x : HeldEvent) (xs : List HeldEvent) (t : ℤ) → IsMark (x ∷ xs) 0 t → IsMark xs 0 t
later_mark x xs t h = record {
  within = omega arith;
  before = λ k d lt below. absurd (omega (arith, lt));
  from = λ k d le below. h.from (suc k) d (omega arith) (omega (arith, below));
}

first_before : (x : HeldEvent) (xs : List HeldEvent) (m : ℕ) (t : ℤ) → IsMark (x ∷ xs) (suc m) t → x.time <ℤ t
first_before x xs m t h = h.before 0 x (omega arith) (omega arith)

first_from : (x : HeldEvent) (xs : List HeldEvent) (t : ℤ) → IsMark (x ∷ xs) 0 t → t ≤ℤ x.time
first_from x xs t h = h.from 0 x (omega arith) (omega arith)

-- the events before a mark are those before its moment
pub before_mark : (t : ℤ) (held : List HeldEvent) (m : ℕ) → IsMark held m t → take m held ≡ events_before t held
before_mark t [] zero h = refl
before_mark t [] (suc m) h = refl
before_mark t (x ∷ xs) zero h =
    before_mark t xs 0 (later_mark x xs t h)
    ∙ sym (ap (λ b. cond b (x ∷ events_before t xs) (events_before t xs)) (not_lt_test x.time t (first_from x xs t h)))
before_mark t (x ∷ xs) (suc m) h =
    ap (λ l. x ∷ l) (before_mark t xs m (tail_mark x xs m t h))
    ∙ sym (ap (λ b. cond b (x ∷ events_before t xs) (events_before t xs)) (lt_test x.time t (first_before x xs m t h)))

out_early : (a b : ℤ) (x : HeldEvent) → x.time <ℤ a → is_between a b x ≡ false
out_early a b x h = ap (λ t. t && int_lt x.time b) (not_le_test a x.time h)

out_late : (a b : ℤ) (x : HeldEvent) → b ≤ℤ x.time → is_between a b x ≡ false
out_late a b x h = ap (λ t. int_le a x.time && t) (not_lt_test x.time b h) ∙ none (int_le a x.time)
  where
    none : (t : Bool) → (t && false) ≡ false
    none true = refl
    none false = refl

inside : (a b : ℤ) (x : HeldEvent) → a ≤ℤ x.time → x.time <ℤ b → is_between a b x ≡ true
inside a b x h k = λ i. le_test a x.time h i && lt_test x.time b k i

abbrev the_empty : List HeldEvent
the_empty = []

nothing : (i : ℕ) → drop i the_empty ≡ the_empty
nothing zero = refl
nothing (suc i) = refl

-- the events between two marks are those from the one moment up to the other
pub between_marks : (a b : ℤ) (held : List HeldEvent) (i j : ℕ) → IsMark held i a → IsMark held j b → drop i (take j held) ≡ events_between a b held
between_marks a b [] zero zero h k = refl
between_marks a b [] zero (suc j) h k = refl
between_marks a b [] (suc i) zero h k = refl
between_marks a b [] (suc i) (suc j) h k = refl
between_marks a b (x ∷ xs) zero zero h k =
    between_marks a b xs 0 0 (later_mark x xs a h) (later_mark x xs b k)
    ∙ sym (ap (λ t. cond t (x ∷ events_between a b xs) (events_between a b xs)) (out_late a b x (first_from x xs b k)))
between_marks a b (x ∷ xs) zero (suc j) h k =
    ap (λ l. x ∷ l) (between_marks a b xs 0 j (later_mark x xs a h) (tail_mark x xs j b k))
    ∙ sym (ap (λ t. cond t (x ∷ events_between a b xs) (events_between a b xs)) (inside a b x (first_from x xs a h) (first_before x xs j b k)))
between_marks a b (x ∷ xs) (suc i) zero h k =
    sym (nothing i)
    ∙ (between_marks a b xs i 0 (tail_mark x xs i a h) (later_mark x xs b k)
    ∙ sym (ap (λ t. cond t (x ∷ events_between a b xs) (events_between a b xs)) (out_late a b x (first_from x xs b k))))
between_marks a b (x ∷ xs) (suc i) (suc j) h k =
    between_marks a b xs i j (tail_mark x xs i a h) (tail_mark x xs j b k)
    ∙ sym (ap (λ t. cond t (x ∷ events_between a b xs) (events_between a b xs)) (out_early a b x (first_before x xs i a h)))

-- and they are a part of the list
pub slice_between : (a b : ℤ) (held : List HeldEvent) (i j : ℕ) → IsMark held i a → IsMark held j b → slice_range held i j ≡ events_between a b held
slice_between a b held i j h k = sym (drop_take i j held) ∙ between_marks a b held i j h k
  where
    drop_take : (i j : ℕ) (xs : List HeldEvent) → drop i (take j xs) ≡ take (j - i) (drop i xs)
    drop_take i j xs = elim (cases_lt i j) [
      | inl less ↦ (let e : j ≡ i + (j - i) = omega (arith, less) in ap (λ n. drop i (take n xs)) e ∙ drop-take i (j - i) xs)
      | inr more ↦
          let e : j - i ≡ 0 = omega (arith, more) in
          let l = length-take j xs in
          drop_of_length-le (take j xs) (omega (arith, l, more)) ∙ sym (ap (λ n. take n (drop i xs)) e)
    ]

-- ---- marks

-- what is read past the end
abbrev pub no_event : HeldEvent
no_event = record { time = pos 0; number = 0; deletes = false }

-- a moment that is read and compared
pub late_from : (x t : ℤ) → SFits w64 x → SFits w64 t → int_lt (to_z w64 (of_z w64 x)) (to_z w64 (of_z w64 t)) ≡ false → t ≤ℤ x
late_from x t f g h = ge_from_test x t ((λ i. int_lt (sym (to_z-of_z w64 x f) i) (sym (to_z-of_z w64 t g) i)) ∙ h)

pub early_from : (x t : ℤ) → SFits w64 x → SFits w64 t → int_lt (to_z w64 (of_z w64 x)) (to_z w64 (of_z w64 t)) ≡ true → x <ℤ t
early_from x t f g h = lt_from_test x t ((λ i. int_lt (sym (to_z-of_z w64 x f) i) (sym (to_z-of_z w64 t g) i)) ∙ h)

-- all events are earlier than a moment before which the last of them is
pub all_earlier : (held : List HeldEvent) (mark : ℕ) (t : ℤ) (d : HeldEvent) → TimesRise held → 0 < mark → mark ≤ length held → (get_or held (mark - 1) d).time <ℤ t → AreEarlier held mark t
all_earlier held mark t d rise some within last k e lt below =
    let own = subst (λ (x : HeldEvent). x.time <ℤ t) (get_or_default held (mark - 1) d e (omega (arith, some, within))) last in
    elim (cases_lt k (mark - 1)) [
      | inl less ↦ (let up = rise k (mark - 1) e less (omega (arith, some, within)) in omega (arith, ints, up, own))
      | inr more ↦ (let same : k ≡ mark - 1 = omega (arith, more, lt, some) in subst (λ i. (get_or held i e).time <ℤ t) (sym same) own)
    ]

-- a place whose event is the first that is not earlier
pub mark_here : (held : List HeldEvent) (mark : ℕ) (t : ℤ) (d : HeldEvent) → TimesRise held → mark < length held → AreEarlier held mark t → t ≤ℤ (get_or held mark d).time → IsMark held mark t
mark_here held mark t d rise within earlier here = record {
  within = omega (arith, within);
  before = earlier;
  from = λ k e le below.
      let own = subst (λ (x : HeldEvent). t ≤ℤ x.time) (get_or_default held mark d e within) here in
      elim (cases_lt mark k) [
        | inl less ↦ (let up = rise mark k e less below in omega (arith, ints, up, own))
        | inr more ↦ (let same : mark ≡ k = omega (arith, more, le) in subst (λ i. t ≤ℤ (get_or held i e).time) same own)
      ];
}

-- one more event that is earlier
pub one_earlier : (held : List HeldEvent) (mark : ℕ) (t : ℤ) (d : HeldEvent) → mark < length held → AreEarlier held mark t → (get_or held mark d).time <ℤ t → AreEarlier held (mark + 1) t
one_earlier held mark t d within earlier here k e lt below =
    let own = subst (λ (x : HeldEvent). x.time <ℤ t) (get_or_default held mark d e within) here in
    elim (cases_lt k mark) [
      | inl less ↦ earlier k e less below
      | inr more ↦ (let same : k ≡ mark = omega (arith, more, lt) in subst (λ i. (get_or held i e).time <ℤ t) (sym same) own)
    ]

-- ---- what is carried

-- whether the last event of a number, with one more event, is no deletion
pub ends_more : (xs : List HeldEvent) (x : HeldEvent) (n : ℕ) → ends_kept (xs ++ x ∷ []) n ≡ cond (x.number == n) (not x.deletes) (ends_kept xs n)
ends_more xs x n = ap (λ l. option_map_or (λ (y : HeldEvent). not y.deletes) (last_or None l) false) (filter-append (is_of n) xs (x ∷ [])) ∙ by (x.number == n) refl
  where
    by : (t : Bool) → (x.number == n) ≡ t → option_map_or (λ (y : HeldEvent). not y.deletes) (last_or None (filter (is_of n) xs ++ filter (is_of n) (x ∷ []))) false ≡ cond (x.number == n) (not x.deletes) (ends_kept xs n)
    by true e =
        (λ i. option_map_or (λ (y : HeldEvent). not y.deletes) (last_or None (filter (is_of n) xs ++ cond (e i) (x ∷ []) [])) false)
        ∙ (ap (λ o. option_map_or (λ (y : HeldEvent). not y.deletes) o false) (last_or-append None (filter (is_of n) xs) (x ∷ []))
        ∙ sym (ap (λ t. cond t (not x.deletes) (ends_kept xs n)) e))
    by false e =
        (λ i. option_map_or (λ (y : HeldEvent). not y.deletes) (last_or None (filter (is_of n) xs ++ cond (e i) (x ∷ []) [])) false)
        ∙ (ap (λ l. option_map_or (λ (y : HeldEvent). not y.deletes) (last_or None l) false) (append-nil (filter (is_of n) xs))
        ∙ sym (ap (λ t. cond t (not x.deletes) (ends_kept xs n)) e))

-- what is carried over one more event
pub carried_more : (carries : Bool) (held : List HeldEvent) (mark : ℕ) (d : HeldEvent) (old new : List ℕ) → mark < length held → IsPassed carries held mark old
    → ((n : ℕ) → is_listed new n ≡ cond (carries && ((get_or held mark d).number == n)) (not (get_or held mark d).deletes) (is_listed old n))
    → IsPassed carries held (mark + 1) new
carried_more carries held mark d old new within h step = record {
  within = omega (arith, within);
  exactly = λ n.
      step n
      ∙ (ap (λ t. cond (carries && ((get_or held mark d).number == n)) (not (get_or held mark d).deletes) t) (h.exactly n)
      ∙ (by carries n ∙ sym (ap (λ l. carries && ends_kept l n) (take_more held mark d within) ∙ ap (λ t. carries && t) (ends_more (take mark held) (get_or held mark d) n))));
}
  where
    by : (t : Bool) (n : ℕ) → cond (t && ((get_or held mark d).number == n)) (not (get_or held mark d).deletes) (t && ends_kept (take mark held) n)
        ≡ (t && cond ((get_or held mark d).number == n) (not (get_or held mark d).deletes) (ends_kept (take mark held) n))
    by true n = refl
    by false n = refl

-- ---- what a window lists

-- the marks of a window, and what is carried over the events before the first
pub record AreMarks (carries : Bool) (held : List HeldEvent) (i j : ℕ) (a b : ℤ) (carried : List ℕ) : Type 0 where
  pub passed : IsPassed carries held i carried
  pub first : IsMark held i a
  pub last : IsMark held j b

-- numbers that are carried and those of events between the marks
pub all_shown : (carries : Bool) (held : List HeldEvent) (i j : ℕ) (a b : ℤ) (carried listed : List ℕ)
    → AreMarks carries held i j a b carried
    → ((n : ℕ) → is_listed listed n ≡ (has_event (slice_range held i j) n || is_listed carried n))
    → (n : ℕ) → is_listed listed n ≡ is_shown carries held a b n
all_shown carries held i j a b carried listed h all n =
    all n
    ∙ ((λ t. has_event (slice_between a b held i j h.first h.last t) n || is_listed carried n)
    ∙ ap (λ t. has_event (events_between a b held) n || t) (h.passed.exactly n ∙ ap (λ l. is_carried carries l n) (before_mark a held i h.first)))

-- where additions do not last nothing is carried
pub none_carried : (carries : Bool) (held : List HeldEvent) (mark : ℕ) (carried : List ℕ) → IsPassed carries held mark carried → carries ≡ false → carried ≡ []
none_carried carries held mark [] h e = refl
none_carried carries held mark (x ∷ xs) h e = absurd (true≢false (sym (or_left (x == x) (is_listed xs x) (eq-eqb x x refl)) ∙ (h.exactly x ∙ ap (λ t. t && ends_kept (take mark held) x) e)))

-- there no more are listed than there are events between the marks
pub few_shown : (carries : Bool) (held : List HeldEvent) (i j : ℕ) (a b : ℤ) (carried listed : List ℕ)
    → AreMarks carries held i j a b carried
    → length listed ≤ length carried + length (slice_range held i j) → carries ≡ false → length listed ≤ length (events_between a b held)
few_shown carries held i j a b carried listed h few e =
    let none : length carried ≡ 0 = ap (λ l. length l) (none_carried carries held i carried h.passed e) in
    let same : length (slice_range held i j) ≡ length (events_between a b held) = ap (λ l. length l) (slice_between a b held i j h.first h.last) in
    omega (arith, few, none, same)

-- the same mark, among the same events and for the same moment
pub same_mark : (xs ys : List HeldEvent) (i : ℕ) (s t : ℤ) → xs ≡ ys → s ≡ t → IsMark xs i s → IsMark ys i t
same_mark xs ys i s t e f h = subst (IsMark ys i) f (subst (λ l. IsMark l i s) e h)
