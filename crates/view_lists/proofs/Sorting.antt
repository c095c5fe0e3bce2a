-- Lists in an order: their images, and sorted lists with the same items.
use Rattle.std.proofs.Common.{◌≡◌, ℕ, zero, suc, ◌<◌, Bool, true, false, ◌||◌, List, [], ◌∷◌, cond, length, map, get_or, refl, sym, ◌∙◌, ap, arith}
use Rattle.std.specs.List.{filter, list_any, sum_by, AllByRecursion}
use Rattle.std.specs.List.Sorted.{IsPermutation, IsSortedBy}
use Rattle.std.specs.Cmp.{IsTotalOrder}
use Rattle.std.specs.declared.cmp.Ordering.{Ordering}
use Rattle.std.specs.declared.cmp.Ordering.TheVariants.{Less, Equal, Greater}
use Rattle.std.specs.Ordering.{is_eq, is_lt, is_gt, ordering_reverse}
use Rattle.std.proofs.lemmas.Bool.{cond-true, cond-false}
use Rattle.std.proofs.lemmas.Cmp.{tied_itself}
use Rattle.std.proofs.lemmas.List.Sums.{sum_by-cons}
use Rattle.std.proofs.lemmas.List.Sorted.{sorted_far, ranks_by, sum_by-IsPermutation}
use Rattle.graph_model.specs.Rising.{put_in_order, in_order, IsInOrder}
use Rattle.world_laws.proofs.InOrder.{each_in_order, IsInOrder-in_order, fixed_by_filters}
use Rattle.world_laws.proofs.Arranged.{in_order_permutes}
use Rattle.world_laws.proofs.ListItems.{each_from}
use Rattle.world_laws.proofs.Order.{is_eq-Equal}

-- ---- images

module _ {X Y : Type 0} (cmp : X → X → Ordering) (other : Y → Y → Ordering) (f : X → Y) where
  -- whether the image of an item is greater than that of another exactly where the item is
  abbrev pub AsGreat : X → X → Type 0
  AsGreat x y = is_gt (cmp x y) ≡ is_gt (other (f x) (f y))

  -- so it is of each item and those after it
  abbrev pub Alike : List X → Type 0
  Alike [] = Unit {0}
  Alike (x ∷ xs) = AllByRecursion (AsGreat x) xs × Alike xs

  put_mapped : (x : X) (ys : List X) → AllByRecursion (AsGreat x) ys → map f (put_in_order cmp x ys) ≡ put_in_order other (f x) (map f ys)
  put_mapped x [] h = refl
  put_mapped x (y ∷ ys) h = by (is_gt (cmp x y)) refl (put_mapped x ys h.1)
    where
      by : (t : Bool) → is_gt (cmp x y) ≡ t → map f (put_in_order cmp x ys) ≡ put_in_order other (f x) (map f ys) → map f (put_in_order cmp x (y ∷ ys)) ≡ put_in_order other (f x) (f y ∷ map f ys)
      by true e rest =
          ap (λ t. map f (cond t (y ∷ put_in_order cmp x ys) (x ∷ y ∷ ys))) e
          ∙ (ap (λ zs. f y ∷ zs) rest ∙ sym (cond-true (is_gt (other (f x) (f y))) (f y ∷ put_in_order other (f x) (map f ys)) (f x ∷ f y ∷ map f ys) (sym h.0 ∙ e)))
      by false e rest =
          ap (λ t. map f (cond t (y ∷ put_in_order cmp x ys) (x ∷ y ∷ ys))) e
          ∙ sym (cond-false (is_gt (other (f x) (f y))) (f y ∷ put_in_order other (f x) (map f ys)) (f x ∷ f y ∷ map f ys) (sym h.0 ∙ e))

  -- the images of items in order are the images in order
  pub in_order_mapped : (xs : List X) → Alike xs → map f (in_order cmp xs) ≡ in_order other (map f xs)
  in_order_mapped [] h = refl
  in_order_mapped (x ∷ xs) h = put_mapped x (in_order cmp xs) (each_in_order cmp (AsGreat x) xs h.0) ∙ ap (put_in_order other (f x)) (in_order_mapped xs h.1)

-- ---- what a sort gives

turned : (o p : Ordering) → o ≡ ordering_reverse p → is_lt p ≡ false → is_gt o ≡ false
turned o Less e h = cc
turned o Equal e h = ap is_gt e
turned o Greater e h = ap is_gt e

in_order_from : {X : Type 0} (cmp : X → X → Ordering) (xs : List X) → ((i j : ℕ) (d : X) → i < j → j < length xs → is_gt (cmp (get_or xs i d) (get_or xs j d)) ≡ false) → IsInOrder cmp xs
in_order_from cmp [] h = tt
in_order_from cmp (x ∷ xs) h = (each_from (λ y. is_gt (cmp x y) ≡ false) xs x (λ j below. h zero (suc j) x (omega arith) (omega arith)), in_order_from cmp xs (λ i j d less below. h (suc i) (suc j) d (omega arith) (omega arith)))

copies : {X : Type 0} → ℕ → X → List X
copies zero x = []
copies (suc n) x = x ∷ copies n x

module _ {X : Type 0} (cmp : X → X → Ordering) (total : IsTotalOrder cmp) where
  abbrev before : X → X → Bool
  before x y = is_lt (cmp x y)

  in_order_sorted : (xs : List X) → IsSortedBy (λ x y. is_lt (cmp x y)) xs → IsInOrder cmp xs
  in_order_sorted xs sorted = in_order_from cmp xs (λ i j d less below.
      turned (cmp (get_or xs i d) (get_or xs j d)) (cmp (get_or xs j d) (get_or xs i d)) (total.antisymm (get_or xs i d) (get_or xs j d))
      (sorted_far before (ranks_by total (λ x. x)) xs sorted i j d (omega arith) below))

  module _ (exact : (x y : X) → cmp x y ≡ Equal → x ≡ y) where
    abbrev one : X → X → ℕ
    one k x = cond (is_eq (cmp k x)) 1 0

    kept_copies : (k : X) (xs : List X) → filter (λ x. is_eq (cmp k x)) xs ≡ copies (sum_by (one k) xs) k
    unfolding copies
    kept_copies k [] = refl
    kept_copies k (x ∷ xs) = by (is_eq (cmp k x)) refl (kept_copies k xs)
      where
        by : (t : Bool) → is_eq (cmp k x) ≡ t → filter (λ y. is_eq (cmp k y)) xs ≡ copies (sum_by (one k) xs) k → filter (λ y. is_eq (cmp k y)) (x ∷ xs) ≡ copies (sum_by (one k) (x ∷ xs)) k
        by true e rest =
            let is : x ≡ k = sym (exact k x (is_eq-Equal (cmp k x) e)) in
            let head : one k x ≡ 1 = ap (λ t. cond t 1 0) e in
            let count : sum_by (one k) (x ∷ xs) ≡ suc (sum_by (one k) xs) = sum_by-cons (one k) x xs ∙ omega (arith, head) in
            cond-true (is_eq (cmp k x)) (x ∷ filter (λ y. is_eq (cmp k y)) xs) (filter (λ y. is_eq (cmp k y)) xs) e
            ∙ ((λ i. is i ∷ rest i) ∙ ap (λ n. copies n k) (sym count))
        by false e rest =
            let head : one k x ≡ 0 = ap (λ t. cond t 1 0) e in
            let count : sum_by (one k) (x ∷ xs) ≡ sum_by (one k) xs = sum_by-cons (one k) x xs ∙ omega (arith, head) in
            cond-false (is_eq (cmp k x)) (x ∷ filter (λ y. is_eq (cmp k y)) xs) (filter (λ y. is_eq (cmp k y)) xs) e
            ∙ (rest ∙ ap (λ n. copies n k) (sym count))

    -- where only equal items compare equal, sorted items are the items in order
    pub sorted_fixed : (xs ys : List X) → IsPermutation xs ys → IsSortedBy (λ x y. is_lt (cmp x y)) ys → ys ≡ in_order cmp xs
    sorted_fixed xs ys moved sorted =
        fixed_by_filters cmp total (λ k x. is_eq (cmp k x)) (λ x. x) (λ x. ap is_eq (tied_itself total x)) (λ x y e. ap is_eq e)
        ys (in_order cmp xs) (in_order_sorted ys sorted) (IsInOrder-in_order cmp total xs)
        (λ k. kept_copies k ys
        ∙ (ap (λ n. copies n k) (sum_by-IsPermutation (one k) xs ys moved ∙ sym (sum_by-IsPermutation (one k) xs (in_order cmp xs) (in_order_permutes cmp xs)))
        ∙ sym (kept_copies k (in_order cmp xs))))

-- ---- whether something is there

abbrev pub nonempty : {X : Type 0} → List X → Bool
nonempty [] = false
nonempty (x ∷ xs) = true

pub any_is : {X : Type 0} (p : X → Bool) (xs : List X) → list_any p xs ≡ nonempty (filter p xs)
any_is p [] = refl
any_is p (x ∷ xs) = elim (p x) as (λ t. (t || list_any p xs) ≡ nonempty (cond t (x ∷ filter p xs) (filter p xs))) [ true ↦ refl | false ↦ any_is p xs ]
