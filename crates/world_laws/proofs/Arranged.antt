-- A list in order is a permutation of what it was made of, and keeps the succession of what compares equal.
use Rattle.std.proofs.Common.{◌≡◌, true, false, List, [], ◌∷◌, refl, sym, ◌∙◌, ap}
use Rattle.std.specs.List.{filter, AllByRecursion}
use Rattle.std.specs.List.Sorted.{IsPermutation}
use Rattle.std.specs.Cmp.{IsTotalOrder}
use Rattle.std.specs.declared.cmp.Ordering.{Ordering}
use Rattle.std.specs.declared.cmp.Ordering.TheVariants.{Less, Equal, Greater}
use Rattle.std.specs.Ordering.{is_gt, is_eq}
use Rattle.std.proofs.lemmas.Bool.{cond_both}
use Rattle.std.proofs.lemmas.List.Sorted.{IsPermutation-refl, IsPermutation-cons, IsPermutation-trans, IsPermutation-middle}
use Rattle.graph_model.specs.Rising.{put_in_order, in_order, IsInOrder}
use Rattle.world_laws.proofs.Filters.{each_weaker, kept_pass}
use Rattle.world_laws.proofs.InOrder.{filter_in_order, in_order_already}

module _ {X : Type 0} (cmp : X → X → Ordering) where
  put_permutes : (x : X) (ys : List X) → IsPermutation (x ∷ ys) (put_in_order cmp x ys)
  put_permutes x [] = IsPermutation-refl (x ∷ [])
  put_permutes x (y ∷ ys) =
      cond_both (is_gt (cmp x y)) (y ∷ put_in_order cmp x ys) (x ∷ y ∷ ys) (IsPermutation (x ∷ y ∷ ys))
      (λ e. IsPermutation-trans (x ∷ y ∷ ys) (y ∷ x ∷ ys) (y ∷ put_in_order cmp x ys) (IsPermutation-middle (x ∷ []) y ys) (IsPermutation-cons y (x ∷ ys) (put_in_order cmp x ys) (put_permutes x ys)))
      (λ e. IsPermutation-refl (x ∷ y ∷ ys))

  -- the items of a list are those of the list in order
  pub in_order_permutes : (xs : List X) → IsPermutation xs (in_order cmp xs)
  in_order_permutes [] = IsPermutation-refl []
  in_order_permutes (x ∷ xs) = IsPermutation-trans (x ∷ xs) (x ∷ in_order cmp xs) (in_order cmp (x ∷ xs)) (IsPermutation-cons x xs (in_order cmp xs) (in_order_permutes xs)) (put_permutes x (in_order cmp xs))

  module _ (total : IsTotalOrder cmp) where
    is_eq-Equal : (o : Ordering) → is_eq o ≡ true → o ≡ Equal
    is_eq-Equal Less h = cc
    is_eq-Equal Equal h = refl
    is_eq-Equal Greater h = cc

    -- what compares equal to one item is in order
    IsInOrder-tied : (x : X) (ys : List X) → AllByRecursion (λ y. is_eq (cmp x y) ≡ true) ys → IsInOrder cmp ys
    IsInOrder-tied x [] h = tt
    IsInOrder-tied x (y ∷ ys) h =
        (each_weaker (λ z. is_eq (cmp x z) ≡ true) (λ z. is_gt (cmp y z) ≡ false) (λ z k. ap is_gt (sym (total.congr x y z (is_eq-Equal (cmp x y) h.0)) ∙ is_eq-Equal (cmp x z) k)) ys h.1, IsInOrder-tied x ys h.1)

    -- what compares equal to one item stays as it came
    pub in_order_stable : (x : X) (xs : List X) → filter (λ y. is_eq (cmp x y)) (in_order cmp xs) ≡ filter (λ y. is_eq (cmp x y)) xs
    in_order_stable x xs =
        filter_in_order cmp total (λ y. is_eq (cmp x y)) xs
        ∙ in_order_already cmp (filter (λ y. is_eq (cmp x y)) xs) (IsInOrder-tied x (filter (λ y. is_eq (cmp x y)) xs) (kept_pass (λ y. is_eq (cmp x y)) xs))
