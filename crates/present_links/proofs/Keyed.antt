-- Tests of items, and how many items pass.
use Rattle.std.proofs.Common.{◌≡◌, ℕ, suc, ◌+◌, ◌≤◌, Bool, true, false, ◌&&◌, ◌||◌, List, [], ◌∷◌, cond, length, take, refl, sym, ◌∙◌, ap, arith, inl, inr}
use Rattle.std.specs.Prelude.{nat_lt}
use Rattle.std.specs.List.{filter, list_any}
use Rattle.std.proofs.lemmas.Int.{clamps}
use Rattle.std.proofs.lemmas.Bool.{cases_Bool, true≢false, lt-ltb}
use Rattle.std.proofs.lemmas.List.{length-take}
use Rattle.world_laws.proofs.Members.{any_filter, any_both, any_same}
use Rattle.graph_store.specs.Places.{places_from}

-- items that pass one of two tests, of which none passes both
pub count_either : {X : Type 0} (p q both : X → Bool) → ((x : X) → q x ≡ true → p x ≡ false) → ((x : X) → both x ≡ (p x || q x)) → (xs : List X) → length (filter both xs) ≡ length (filter p xs) + length (filter q xs)
count_either p q both apart is [] = refl
count_either {X} p q both apart is (x ∷ xs) = counted (p x) (q x) (both x) (is x) (apart x) (count_either p q both apart is xs)
  where
    counted : (s t u : Bool) → u ≡ (s || t) → (t ≡ true → s ≡ false) → length (filter both xs) ≡ length (filter p xs) + length (filter q xs)
        → length (cond u (x ∷ filter both xs) (filter both xs)) ≡ length (cond s (x ∷ filter p xs) (filter p xs)) + length (cond t (x ∷ filter q xs) (filter q xs))
    counted true true u e h rest = absurd (true≢false (h refl))
    counted true false u e h rest = rw e (omega (arith, rest))
    counted false true u e h rest = rw e (omega (arith, rest))
    counted false false u e h rest = rw e rest

-- the places of items are as many as the items
pub length-places : {X : Type 0} (i : ℕ) (p : X → Bool) (xs : List X) → length (places_from i p xs) ≡ length (filter p xs)
length-places i p [] = refl
length-places i p (x ∷ xs) = by (p x) (length-places (suc i) p xs)
  where
    by : (t : Bool) → length (places_from (suc i) p xs) ≡ length (filter p xs) → length (cond t (i ∷ places_from (suc i) p xs) (places_from (suc i) p xs)) ≡ length (cond t (x ∷ filter p xs) (filter p xs))
    by true h = ap suc h
    by false h = h

pub short_take : {X : Type 0} (k : ℕ) (xs : List X) → length (take k xs) ≤ k
short_take k xs = rw (length-take k xs) (omega (arith, clamps))

-- an item is among those that pass a test where it is there and passes
pub any_same_kept : {X : Type 0} (same : X → X → Bool) → ((x y : X) → same x y ≡ true → x ≡ y) → (p : X → Bool) (x : X) (xs : List X) → list_any (same x) (filter p xs) ≡ (p x && list_any (same x) xs)
any_same_kept {X} same exact p x xs =
    any_filter p (same x) xs
    ∙ (any_same (λ y. p y && same x y) (λ y. p x && same x y) each xs ∙ any_both (p x) (same x) xs)
  where
    none : (s t : Bool) → (s && false) ≡ (t && false)
    none true true = refl
    none true false = refl
    none false true = refl
    none false false = refl

    each : (y : X) → (p y && same x y) ≡ (p x && same x y)
    each y = elim (cases_Bool (same x y)) [
      | inl e ↦ ap (λ z. p z && same x y) (sym (exact x y e))
      | inr e ↦ rw e (none (p y) (p x))
    ]

-- some item passes a test where not none are kept by it
pub any_counted : {X : Type 0} (p : X → Bool) (xs : List X) → list_any p xs ≡ nat_lt 0 (length (filter p xs))
any_counted p [] = refl
any_counted p (x ∷ xs) = by (p x) (any_counted p xs)
  where
    by : (t : Bool) → list_any p xs ≡ nat_lt 0 (length (filter p xs)) → (t || list_any p xs) ≡ nat_lt 0 (length (cond t (x ∷ filter p xs) (filter p xs)))
    by true h = sym (lt-ltb 0 (length (x ∷ filter p xs)) (omega arith))
    by false h = h
