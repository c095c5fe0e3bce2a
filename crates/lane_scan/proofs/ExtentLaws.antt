-- One more time among others.
use Rattle.std.proofs.Common.{◌≡◌, ◌+◌, ℕ, ℤ, List, [], ◌∷◌, ◌++◌, length, Option, None, Some, refl, sym, ◌∙◌, ap, arith}
use Rattle.std.specs.Int.{int_max, int_min}
use Rattle.std.proofs.lemmas.Int.{ints, clamps}
use Rattle.view_trait.specs.Extent.{earlier_of, later_of}
use Rattle.std.proofs.lemmas.List.{length_push}
use Rattle.view_trait.specs.declared.extent_of_view.WorldExtent.{WorldExtent}
use Rattle.lane_scan.specs.Rows.{least_time, greatest_time, extent_of_times}

-- the least of three times, and the greatest
min_assoc : (a b c : ℤ) → int_min a (int_min b c) ≡ int_min (int_min a b) c
min_assoc a b c = omega (arith, ints, clamps)

max_assoc : (a b c : ℤ) → int_max a (int_max b c) ≡ int_max (int_max a b) c
max_assoc a b c = omega (arith, ints, clamps)

earlier_assoc : (a : ℤ) (b : Option ℤ) (c : ℤ) → earlier_of (Some a) (earlier_of b (Some c)) ≡ earlier_of (earlier_of (Some a) b) (Some c)
earlier_assoc a None c = refl
earlier_assoc a (Some b) c = ap (λ m. Some m) (min_assoc a b c)

later_assoc : (a : ℤ) (b : Option ℤ) (c : ℤ) → later_of (Some a) (later_of b (Some c)) ≡ later_of (later_of (Some a) b) (Some c)
later_assoc a None c = refl
later_assoc a (Some b) c = ap (λ m. Some m) (max_assoc a b c)

pub least_time-push : (ts : List ℤ) (t : ℤ) → least_time (ts ++ t ∷ []) ≡ earlier_of (least_time ts) (Some t)
least_time-push [] t = refl
least_time-push (s ∷ ts) t = ap (earlier_of (Some s)) (least_time-push ts t) ∙ earlier_assoc s (least_time ts) t

pub greatest_time-push : (ts : List ℤ) (t : ℤ) → greatest_time (ts ++ t ∷ []) ≡ later_of (greatest_time ts) (Some t)
greatest_time-push [] t = refl
greatest_time-push (s ∷ ts) t = ap (later_of (Some s)) (greatest_time-push ts t) ∙ later_assoc s (greatest_time ts) t

pub extent-push : (before : List ℤ) (t : ℤ) (e r : WorldExtent) → e ≡ extent_of_times before → r.events ≡ e.events + 1 → r.first ≡ earlier_of e.first (Some t) → r.last ≡ later_of e.last (Some t) → r ≡ extent_of_times (before ++ t ∷ [])
extent-push before t e r is events first last =
    let make : ℕ → Option ℤ → Option ℤ → WorldExtent = λ n a b. record { events = n; first = a; last = b } in
    let n : r.events ≡ length (before ++ t ∷ []) = events ∙ (ap (λ (x : WorldExtent). x.events + 1) is ∙ sym (length_push before t)) in
    let a : r.first ≡ least_time (before ++ t ∷ []) = first ∙ (ap (λ (x : WorldExtent). earlier_of x.first (Some t)) is ∙ sym (least_time-push before t)) in
    let b : r.last ≡ greatest_time (before ++ t ∷ []) = last ∙ (ap (λ (x : WorldExtent). later_of x.last (Some t)) is ∙ sym (greatest_time-push before t)) in
    ap (λ m. make m r.first r.last) n ∙ (ap (λ x. make (length (before ++ t ∷ [])) x r.last) a ∙ ap (λ y. make (length (before ++ t ∷ [])) (least_time (before ++ t ∷ [])) y) b)
