-- Tests of lists, distinct items, and lists that grow.
use Rattle.std.proofs.Common.{◌≡◌, ℕ, zero, suc, ◌+◌, ◌<◌, Bool, true, false, ◌||◌, List, [], ◌∷◌, ◌++◌, length, map, take, get_or, refl, sym, ◌∙◌, ap, subst, inl, inr, arith}
use Rattle.std.specs.List.{filter, list_any, IsDistinct, AllByRecursion}
use Rattle.std.proofs.lemmas.Bool.{cond_both, or_cases, false_from_ne_true, true≢false}
use Rattle.std.proofs.lemmas.Map.Keys.{IsDistinct-head, IsDistinct-tail, IsDistinct-cons, IsDistinct-from_apart}
use Rattle.std.proofs.lemmas.List.{map-append, take_more}
use Rattle.world_laws.proofs.Filters.{each_kept}
pub use Rattle.world_laws.proofs.ListItems.{any_map}
use Rattle.world_laws.proofs.Members.{both_true}
use Rattle.world_laws.proofs.Present.{some_passes}
pub use Rattle.world_laws.proofs.SortedKeys.{distinct_filter}

-- tests that agree on the items of a list find the same
pub any_each : {X : Type 0} (p q : X → Bool) (xs : List X) → AllByRecursion (λ x. p x ≡ q x) xs → list_any p xs ≡ list_any q xs
any_each p q [] h = refl
any_each p q (x ∷ xs) h = rw (h.0, any_each p q xs h.1) refl

pub any_either : {X : Type 0} (p q : X → Bool) (xs : List X) → list_any (λ x. p x || q x) xs ≡ (list_any p xs || list_any q xs)
any_either p q [] = refl
any_either p q (x ∷ xs) = ap (λ t. (p x || q x) || t) (any_either p q xs) ∙ regrouped (p x) (q x) (list_any p xs) (list_any q xs)
  where
    regrouped : (a b c d : Bool) → ((a || b) || (c || d)) ≡ ((a || c) || (b || d))
    regrouped true b c d = refl
    regrouped false true true d = refl
    regrouped false true false d = refl
    regrouped false false c d = refl

-- lists with the same items pass the same tests
pub any_of_same : {X : Type 0} (same : X → X → Bool) → ((x : X) → same x x ≡ true) → ((x y : X) → same x y ≡ true → x ≡ y) → (xs ys : List X)
    → ((x : X) → list_any (same x) xs ≡ list_any (same x) ys) → (p : X → Bool) → list_any p xs ≡ list_any p ys
any_of_same {X} same own exact xs ys h p = both_true (list_any p xs) (list_any p ys) (among xs ys h) (among ys xs (λ x. sym (h x)))
  where
    among : (these those : List X) → ((x : X) → list_any (same x) these ≡ list_any (same x) those) → list_any p these ≡ true → list_any p those ≡ true
    among these those k e =
        let a = some_passes p these e in
        let b = some_passes (same a.0) those (sym (k a.0) ∙ a.2 (same a.0) (own a.0)) in
        b.2 p (subst (λ z. p z ≡ true) (exact a.0 b.0 b.1) a.1)

-- an item that passes a test has a place
pub some_place : {X : Type 0} (p : X → Bool) (xs : List X) (d : X) → list_any p xs ≡ true → (k : ℕ) × (k < length xs) × (p (get_or xs k d) ≡ true)
some_place p [] d h = absurd (true≢false (sym h))
some_place p (x ∷ xs) d h = elim (or_cases (p x) (list_any p xs) h) [
  | inl e ↦ (zero, omega arith, e)
  | inr e ↦ let k = some_place p xs d e in (suc k.0, omega (arith, k.1), k.2)
]

-- ---- distinct items

-- images are distinct where different items have different images
pub distinct_map : {X Y : Type 0} (same : X → X → Bool) (alike : Y → Y → Bool) (f : X → Y) (P : X → Type 0) → ((x y : X) → P x → P y → alike (f x) (f y) ≡ true → same x y ≡ true) → (xs : List X)
    → AllByRecursion P xs → IsDistinct same xs → IsDistinct alike (map f xs)
distinct_map same alike f P apart [] h d = IsDistinct-from_apart alike [] (λ i j e lt in_range. absurd (omega arith))
distinct_map {X} same alike f P apart (x ∷ xs) h d =
    IsDistinct-cons alike (f x) (map f xs) (heads xs h.1 (IsDistinct-head same x xs d)) (distinct_map same alike f P apart xs h.1 (IsDistinct-tail same x xs d))
  where
    heads : (ys : List X) → AllByRecursion P ys → AllByRecursion (λ y. same x y ≡ false) ys → AllByRecursion (λ y. alike (f x) y ≡ false) (map f ys)
    heads [] k e = tt
    heads (y ∷ ys) k e = (false_from_ne_true (alike (f x) (f y)) (λ t. true≢false (sym (apart x y h.0 k.0 t) ∙ e.0)), heads ys k.1 e.1)

-- ---- lists that grow

-- one item more whose name passes
pub names_push : {X : Type 0} (key : X → List ℕ) (p : List ℕ → Bool) (xs ys : List X) (x : X) (name : List ℕ) → ys ≡ xs ++ x ∷ [] → key x ≡ name → p name ≡ true → map key ys ≡ map key xs ++ filter p (name ∷ [])
names_push key p xs ys x name more same passes =
    ap (map key) more ∙ (map-append key xs (x ∷ []) ∙ ap (λ zs. map key xs ++ zs) (ap (λ z. z ∷ []) same ∙ rw passes refl))

-- images of the first items of a list, with one more
pub rows_push : {X Y R : Type 0} (f : Y → R) (g : X → R) (ys more : List Y) (y : Y) (xs : List X) (i : ℕ) (d : X) → more ≡ ys ++ y ∷ [] → map f ys ≡ map g (take i xs) → i < length xs → f y ≡ g (get_or xs i d) → map f more ≡ map g (take (i + 1) xs)
rows_push f g ys more y xs i d is before below same =
    ap (map f) is
    ∙ (map-append f ys (y ∷ [])
    ∙ ((λ k. before k ++ same k ∷ [])
    ∙ (sym (map-append g (take i xs) (get_or xs i d ∷ [])) ∙ ap (map g) (sym (take_more xs i d below)))))
