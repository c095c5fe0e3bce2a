-- Items that are sorted, and then left once each, are the defined rising list.
use Rattle.std.proofs.Common.{◌≡◌, Bool, true, false, ◌||◌, List, [], ◌∷◌, cond, map, refl, sym, ◌∙◌, ap, subst}
use Rattle.std.specs.List.{list_any, dedup, dedup_from}
use Rattle.std.specs.List.Sorted.{IsPermutation, IsSorted, IsStrictlySortedBy}
use Rattle.std.specs.List.Retain.{IsFiltered, DiffersFromLast}
use Rattle.std.specs.Cmp.{IsTotalOrder}
use Rattle.std.specs.Ordering.{eq_by_cmp, is_eq, is_lt, is_gt}
use Rattle.std.specs.declared.cmp.Ordering.{Ordering}
use Rattle.std.specs.declared.cmp.Ordering.TheVariants.{Less, Equal, Greater}
use Rattle.std.proofs.lemmas.List.Filters.{dedup_is}
use Rattle.std.proofs.lemmas.List.Kept.{IsStrictlySortedBy-dedup}
use Rattle.std.proofs.lemmas.List.Sorted.{list_any-IsPermutation}
use Rattle.graph_model.specs.Rising.{Rises, put_rising, rising}
use Rattle.world_laws.proofs.RisingFixed.{rising_fixed}
use Rattle.world_laws.proofs.RisingItems.{Rises-rising, any_rising}

is_equal : (o : Ordering) → is_eq o ≡ true → o ≡ Equal
is_equal Less h = cc
is_equal Equal h = refl
is_equal Greater h = cc

module _ {X : Type 0} (cmp : X → X → Ordering) (total : IsTotalOrder cmp) (exact : (x y : X) → cmp x y ≡ Equal → x ≡ y) where
  -- items that are strictly sorted rise
  rises_sorted : (xs : List X) → IsStrictlySortedBy cmp xs → Rises cmp xs
  unfolding IsStrictlySortedBy
  rises_sorted [] h = tt
  rises_sorted (x ∷ xs) h = (h.0, rises_sorted xs h.1)

  -- two lists with the same items have one rising list
  pub rising_same : (xs ys : List X) → ((p : X → Bool) → list_any p xs ≡ list_any p ys) → rising cmp xs ≡ rising cmp ys
  rising_same xs ys h =
      rising_fixed cmp total exact (rising cmp xs) (rising cmp ys) (Rises-rising cmp total xs) (Rises-rising cmp total ys)
      (λ x. any_rising cmp (λ y. is_eq (cmp x y)) (λ y z e. ap (λ a. is_eq (cmp x a)) (exact y z e)) xs
      ∙ (h (λ y. is_eq (cmp x y))
      ∙ sym (any_rising cmp (λ y. is_eq (cmp x y)) (λ y z e. ap (λ a. is_eq (cmp x a)) (exact y z e)) ys)))

  module _ (same : X → X → Bool) (ties : (x y : X) → same x y ≡ eq_by_cmp cmp x y) where
    any_dedup_from : (p : X → Bool) (k : X) (xs : List X) → list_any p (dedup_from same k xs) ≡ (p k || list_any p xs)
    any_dedup_from p k [] = refl
    any_dedup_from p k (x ∷ xs) = by (same x k) refl (any_dedup_from p k xs) (any_dedup_from p x xs)
      where
        twice : (a b : Bool) → (a || (a || b)) ≡ (a || b)
        twice true b = refl
        twice false b = refl

        by : (t : Bool) → same x k ≡ t → list_any p (dedup_from same k xs) ≡ (p k || list_any p xs) → list_any p (dedup_from same x xs) ≡ (p x || list_any p xs)
            → list_any p (cond t (dedup_from same k xs) (k ∷ dedup_from same x xs)) ≡ (p k || (p x || list_any p xs))
        by true e here there =
            let is : x ≡ k = exact x k (is_equal (cmp x k) (sym (ties x k) ∙ e)) in
            here ∙ (sym (twice (p k) (list_any p xs)) ∙ ap (λ j. p k || (p j || list_any p xs)) (sym is))
        by false e here there = ap (λ t. p k || t) there

    any_dedup : (p : X → Bool) (xs : List X) → list_any p (dedup same xs) ≡ list_any p xs
    any_dedup p [] = refl
    any_dedup p (x ∷ xs) = any_dedup_from p x xs

    -- what a sort and then a dedup leave of items is their rising list
    pub settled : (xs ys zs : List X) → IsPermutation xs ys → IsSorted cmp ys → IsFiltered (DiffersFromLast same) [] ys zs → zs ≡ rising cmp xs
    settled xs ys zs moved sorted left =
        let is : zs ≡ dedup same ys = dedup_is same ys zs left in
        rising_fixed cmp total exact zs (rising cmp xs)
        (rises_sorted zs (subst (IsStrictlySortedBy cmp) (sym is) (IsStrictlySortedBy-dedup total ties ys sorted)))
        (Rises-rising cmp total xs)
        (λ x. ap (list_any (λ y. is_eq (cmp x y))) is
        ∙ (any_dedup (λ y. is_eq (cmp x y)) ys
        ∙ (sym (list_any-IsPermutation (λ y. is_eq (cmp x y)) xs ys moved)
        ∙ sym (any_rising cmp (λ y. is_eq (cmp x y)) (λ y z e. ap (λ a. is_eq (cmp x a)) (exact y z e)) xs))))

-- images rise as the items do, where they are compared by their images
module _ {X Y : Type 0} (cmp : Y → Y → Ordering) (f : X → Y) where
  map_put : (x : X) (ys : List X) → map f (put_rising (λ a b. cmp (f a) (f b)) x ys) ≡ put_rising cmp (f x) (map f ys)
  map_put x [] = refl
  map_put x (y ∷ ys) = by (cmp (f x) (f y)) (map_put x ys)
    where
      by : (o : Ordering) → map f (put_rising (λ a b. cmp (f a) (f b)) x ys) ≡ put_rising cmp (f x) (map f ys)
          → map f (cond (is_lt o) (x ∷ y ∷ ys) (cond (is_gt o) (y ∷ put_rising (λ a b. cmp (f a) (f b)) x ys) (y ∷ ys)))
          ≡ cond (is_lt o) (f x ∷ f y ∷ map f ys) (cond (is_gt o) (f y ∷ put_rising cmp (f x) (map f ys)) (f y ∷ map f ys))
      by Less h = refl
      by Equal h = refl
      by Greater h = ap (λ zs. f y ∷ zs) h

  pub map_rising : (xs : List X) → map f (rising (λ a b. cmp (f a) (f b)) xs) ≡ rising cmp (map f xs)
  map_rising [] = refl
  map_rising (x ∷ xs) = map_put x (rising (λ a b. cmp (f a) (f b)) xs) ∙ ap (put_rising cmp (f x)) (map_rising xs)
