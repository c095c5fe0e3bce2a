-- An edge that lasts is alive at some moment where some addition is followed by none of its events at the same time.
use Rattle.std.proofs.Common.{◌≡◌, ℤ, ◌≤ℤ◌, ◌<ℤ◌, Bool, true, false, not, ◌&&◌, ◌||◌, List, [], ◌∷◌, ◌++◌, refl, sym, ◌∙◌, ap, arith, inl, inr, append_assoc}
use Rattle.std.specs.Prelude.{int_le, IsTrue, ◌↔◌}
use Rattle.std.specs.List.{AllByRecursion, filter, list_any}
use Rattle.std.proofs.lemmas.Bool.{not-true, cases_Bool, cond-true, cond-false, or_left, or_right, or_cases, and_parts, and_from, true≢false}
use Rattle.std.proofs.lemmas.Int.{ints}
use Rattle.graph_model.specs.declared.events.Event.{Event}
use Rattle.graph_model.specs.declared.events.EdgeName.{EdgeName}
use Rattle.graph_model.specs.declared.events.Entity.TheVariants.{Edge}
use Rattle.graph_model.specs.declared.events.Model.{Model}
use Rattle.graph_model.specs.declared.events.Model.TheVariants.{Event as Instants, Persistent}
use Rattle.graph_model.specs.Interval.{Interval, is_inside}
use Rattle.graph_model.specs.Entity.{is_addition, is_about}
use Rattle.graph_model.specs.Presence.{ends_in_addition, lives_at, edge_present}
use Rattle.graph_model.specs.World.{World, IsLawful, events_of, event_cmp}
use Rattle.world_laws.specs.LastAddition.{HasLastAddition}
use Rattle.world_laws.proofs.Filters.{each_weaker, each_kept}
use Rattle.world_laws.proofs.InOrder.{IsInOrder-filter}
use Rattle.world_laws.proofs.Listed.{in_order_from_arranged}
use Rattle.world_laws.proofs.Lawful.{each_passes}
use Rattle.world_laws.proofs.Named.{each_fails, none_pass}
use Rattle.world_laws.proofs.Windows.{TimesRise-in_order}
use Rattle.world_laws.proofs.Times.{le_test, le_from_test, gt_from_test, not_le_test}
use Rattle.world_laws.proofs.Nested.{TimesRise}

-- some addition is followed by no event at the same time
abbrev pub final_any : List Event → Bool
final_any [] = false
final_any (x ∷ xs) = (is_addition x && not (list_any (λ y. int_le y.time x.time) xs)) || final_any xs

-- whether the last event of those up to a moment is an addition
abbrev pub lasting : List Event → ℤ → Bool
lasting xs m = ends_in_addition (filter (λ x. int_le x.time m) xs)

timely : (m : ℤ) (x : Event) → Bool
timely m x = int_le x.time m

-- an earlier event does not matter where there is a later one
ends_later : (x : Event) (m : ℤ) (xs : List Event) → list_any (λ y. int_le y.time m) xs ≡ true → ends_in_addition (x ∷ filter (λ y. int_le y.time m) xs) ≡ ends_in_addition (filter (λ y. int_le y.time m) xs)
ends_later x m [] h = cc
ends_later x m (y ∷ xs) h = elim (cases_Bool (int_le y.time m)) [
  | inl e ↦ ap (λ zs. ends_in_addition (x ∷ zs)) (cond-true (int_le y.time m) _ _ e) ∙ sym (ap ends_in_addition (cond-true (int_le y.time m) _ _ e))
  | inr e ↦ ap (λ zs. ends_in_addition (x ∷ zs)) (cond-false (int_le y.time m) _ _ e) ∙ (ends_later x m xs (ap (λ b. b || list_any (λ z. int_le z.time m) xs) (sym e) ∙ h) ∙ sym (ap ends_in_addition (cond-false (int_le y.time m) _ _ e)))
]

-- alone it is the last
none_later : (m : ℤ) (xs : List Event) → list_any (λ y. int_le y.time m) xs ≡ false → filter (λ y. int_le y.time m) xs ≡ []
none_later m [] h = refl
none_later m (y ∷ xs) h = elim (cases_Bool (int_le y.time m)) [
  | inl e ↦ absurd (true≢false (sym (ap (λ b. b || list_any (λ z. int_le z.time m) xs) e) ∙ h))
  | inr e ↦ cond-false (int_le y.time m) _ _ e ∙ none_later m xs (ap (λ b. b || list_any (λ z. int_le z.time m) xs) (sym e) ∙ h)
]

-- a list with an item that passes has one up to that item's time
own_time : (y : Event) → int_le y.time y.time ≡ true
own_time y = le_test y.time y.time (omega (arith, ints))

-- what comes first does not matter for the events after it
module _ (x : Event) (all : List Event) where
  lasting_after : (ys : List Event) → AllByRecursion (λ y. x.time ≤ℤ y.time) ys → AllByRecursion (λ y. list_any (λ z. int_le z.time y.time) all ≡ true) ys
      → list_any (λ y. lasting (x ∷ all) y.time) ys ≡ list_any (λ y. lasting all y.time) ys
  lasting_after [] h k = refl
  lasting_after (y ∷ ys) h k =
      let first : lasting (x ∷ all) y.time ≡ lasting all y.time =
      ap ends_in_addition (cond-true (int_le x.time y.time) _ _ (le_test x.time y.time h.0)) ∙ ends_later x y.time all k.0 in
      λ i. first i || lasting_after ys h.1 k.1 i

-- each event is up to its own time
each_own : (all : List Event) (front ys : List Event) → all ≡ front ++ ys → AllByRecursion (λ y. list_any (λ z. int_le z.time y.time) all ≡ true) ys
each_own all front [] e = tt
each_own all front (y ∷ ys) e = (ap (list_any (λ z. int_le z.time y.time)) e ∙ any_in front, each_own all (front ++ y ∷ []) ys (e ∙ sym (append_assoc front (y ∷ []) ys)))
  where
    any_in : (front : List Event) → list_any (λ z. int_le z.time y.time) (front ++ y ∷ ys) ≡ true
    any_in [] = ap (λ b. b || list_any (λ z. int_le z.time y.time) ys) (own_time y)
    any_in (w ∷ ws) = ap (λ b. int_le w.time y.time || b) (any_in ws) ∙ or_true (int_le w.time y.time)
      where
        or_true : (b : Bool) → (b || true) ≡ true
        or_true true = refl
        or_true false = refl

-- where an event is followed by one at its time, that one is alive if it is
module _ (x : Event) (xs : List Event) where
  alive_too : (ys : List Event) → AllByRecursion (λ y. x.time ≤ℤ y.time) ys → list_any (λ y. int_le y.time x.time) ys ≡ true → lasting xs x.time ≡ true → list_any (λ y. lasting xs y.time) ys ≡ true
  alive_too [] h k l = cc
  alive_too (y ∷ ys) h k l = elim (cases_Bool (int_le y.time x.time)) [
    | inl e ↦ let le = le_from_test y.time x.time e in let ge = h.0 in
        let same : y.time ≡ x.time = omega (arith, ints) in
        ap (λ b. b || list_any (λ y. lasting xs y.time) ys) (ap (lasting xs) same ∙ l)
    | inr e ↦ ap (λ b. lasting xs y.time || b) (alive_too ys h.1 (ap (λ b. b || list_any (λ z. int_le z.time x.time) ys) (sym e) ∙ k) l) ∙ or_true (lasting xs y.time)
  ]
    where
      or_true : (b : Bool) → (b || true) ≡ true
      or_true true = refl
      or_true false = refl

absorb : (a b : Bool) → (a ≡ true → b ≡ true) → (a || b) ≡ b
absorb true b h = sym (h refl)
absorb false b h = refl

present_more : (x : Event) (xs : List Event) → AllByRecursion (λ y. x.time ≤ℤ y.time) xs → (t : Bool) → list_any (λ y. int_le y.time x.time) xs ≡ t
    → (lasting (x ∷ xs) x.time || list_any (λ y. lasting xs y.time) xs) ≡ ((is_addition x && not t) || list_any (λ y. lasting xs y.time) xs)
present_more x xs h true e =
    let same : lasting (x ∷ xs) x.time ≡ lasting xs x.time = ap ends_in_addition (cond-true (int_le x.time x.time) _ _ (own_time x)) ∙ ends_later x x.time xs e in
    ap (λ b. b || list_any (λ y. lasting xs y.time) xs) same
    ∙ (absorb (lasting xs x.time) (list_any (λ y. lasting xs y.time) xs) (alive_too x xs xs h e)
    ∙ sym (nothing (is_addition x) (list_any (λ y. lasting xs y.time) xs)))
  where
    nothing : (a b : Bool) → ((a && false) || b) ≡ b
    nothing true b = refl
    nothing false b = refl
present_more x xs h false e =
    let same : lasting (x ∷ xs) x.time ≡ is_addition x = ap ends_in_addition (cond-true (int_le x.time x.time) _ _ (own_time x)) ∙ ap (λ zs. ends_in_addition (x ∷ zs)) (none_later x.time xs e) in
    ap (λ b. b || list_any (λ y. lasting xs y.time) xs) (same ∙ sym (all_of (is_addition x)))
  where
    all_of : (a : Bool) → (a && true) ≡ a
    all_of true = refl
    all_of false = refl

-- a list whose times never fall
pub present_final : (xs : List Event) → TimesRise xs → list_any (λ x. lasting xs x.time) xs ≡ final_any xs
present_final [] h = refl
present_final (x ∷ xs) h =
    ap (λ b. lasting (x ∷ xs) x.time || b) (lasting_after x xs xs h.0 (each_own xs [] xs refl))
    ∙ (present_more x xs h.0 (list_any (λ y. int_le y.time x.time) xs) refl
    ∙ ap (λ b. (is_addition x && not (list_any (λ y. int_le y.time x.time) xs)) || b) (present_final xs h.1))

-- inside the bounds, where the edge is alive
pub present_inside : (bounds : Interval) (xs ys : List Event) → AllByRecursion (λ x. is_inside bounds x.time ≡ true) ys → list_any (λ x. lives_at Persistent bounds xs x.time) ys ≡ list_any (λ x. lasting xs x.time) ys
present_inside bounds xs [] h = refl
present_inside bounds xs (y ∷ ys) h = λ i. (h.0 i && lasting xs y.time) || present_inside bounds xs ys h.1 i

-- some addition is followed by later events alone
final_from : (before : List Event) (x : Event) (after : List Event) → is_addition x ≡ true → AllByRecursion (λ y. x.time <ℤ y.time) after → final_any (before ++ x ∷ after) ≡ true
final_from [] x after h k =
    or_left (is_addition x && not (list_any (λ y. int_le y.time x.time) after)) (final_any after)
    (and_from (is_addition x) (not (list_any (λ y. int_le y.time x.time) after)) h
    (ap not (none_pass (λ y. int_le y.time x.time) after (each_weaker (λ y. x.time <ℤ y.time) (λ y. int_le y.time x.time ≡ false) (λ y m. not_le_test y.time x.time m) after k))))
final_from (y ∷ before) x after h k = or_right (is_addition y && not (list_any (λ z. int_le z.time y.time) (before ++ x ∷ after))) (final_any (before ++ x ∷ after)) (final_from before x after h k)

final_to : (xs : List Event) → final_any xs ≡ true → HasLastAddition xs
final_to [] h = absurd (true≢false (sym h))
final_to (x ∷ xs) h = elim (or_cases (is_addition x && not (list_any (λ y. int_le y.time x.time) xs)) (final_any xs) h) [
  | inl e ↦
      let k = and_parts (is_addition x) (not (list_any (λ y. int_le y.time x.time) xs)) e in
      ([], (x, (xs, refl, k.0, each_weaker (λ y. int_le y.time x.time ≡ false) (λ y. x.time <ℤ y.time) (λ y m. gt_from_test y.time x.time m) xs (each_fails (λ y. int_le y.time x.time) xs (not-true (list_any (λ y. int_le y.time x.time) xs) k.1)))))
  | inr e ↦ let r = final_to xs e in (x ∷ r.0, (r.1.0, (r.1.1.0, ap (λ ys. x ∷ ys) r.1.1.1, r.1.1.2, r.1.1.3)))
]

final_back : (xs : List Event) → HasLastAddition xs → final_any xs ≡ true
final_back xs r = ap final_any r.1.1.1 ∙ final_from r.0 r.1.0 r.1.1.0 r.1.1.2 r.1.1.3

-- an edge that lasts is present where some addition of it is followed by none of its events at the same time
edge_final : (model : Model) (bounds : Interval) (h : List Event) → model ≡ Persistent → AllByRecursion (λ x. is_inside bounds x.time ≡ true) h → TimesRise h → list_any (λ x. lives_at model bounds h x.time) h ≡ final_any h
edge_final Instants bounds h m inside rise = cc
edge_final Persistent bounds h m inside rise = present_inside bounds h h inside ∙ present_final h rise

pub edge_present-final : (w : World) (edge : EdgeName) → IsLawful w → w.model ≡ Persistent → edge_present w edge ≡ final_any (events_of w (Edge edge))
edge_present-final w edge lawful m =
    let h = events_of w (Edge edge) in
    edge_final w.model w.bounds h m
    (each_kept (λ x. is_inside w.bounds x.time ≡ true) (is_about (Edge edge)) w.events (each_passes (λ x. is_inside w.bounds x.time) w.events lawful.inside))
    (TimesRise-in_order h (IsInOrder-filter event_cmp (is_about (Edge edge)) w.events (in_order_from_arranged w.events lawful.arranged)))

pub lasting_present : (w : World) (edge : EdgeName) → IsLawful w → w.model ≡ Persistent → IsTrue (edge_present w edge) ↔ HasLastAddition (events_of w (Edge edge))
lasting_present w edge lawful m =
    (λ h. final_to (events_of w (Edge edge)) (sym (edge_present-final w edge lawful m) ∙ h), λ h. edge_present-final w edge lawful m ∙ final_back (events_of w (Edge edge)) h)
