-- A list that rises strictly is fixed by what is in it.
use Rattle.std.proofs.Common.{◌≡◌, ◌∙◌, ◌∷◌, [], ◌||◌, Bool, true, false, List, refl, sym, ap}
use Rattle.std.specs.List.{list_any, AllByRecursion}
use Rattle.std.specs.Cmp.{IsTotalOrder, tied_itself}
use Rattle.std.specs.declared.cmp.Ordering.{Ordering}
use Rattle.std.specs.declared.cmp.Ordering.TheVariants.{Less, Equal, Greater}
use Rattle.std.specs.Ordering.{is_eq, is_gt, ordering_reverse}
use Rattle.graph_model.specs.Rising.{Rises, put_in_order, in_order}
use Rattle.world_laws.proofs.Filters.{each_weaker}
use Rattle.world_laws.proofs.RisingItems.{or_swapped}

-- some item passes a test before a list is put in order exactly where one does after
any_put_in_order : {X : Type 0} (cmp : X → X → Ordering) (p : X → Bool) (x : X) (ys : List X) → list_any p (put_in_order cmp x ys) ≡ (p x || list_any p ys)
any_put_in_order cmp p x [] = refl
any_put_in_order cmp p x (y ∷ ys) = by (is_gt (cmp x y)) refl (any_put_in_order cmp p x ys)
  where
    by : (t : Bool) → is_gt (cmp x y) ≡ t → list_any p (put_in_order cmp x ys) ≡ (p x || list_any p ys) → list_any p (put_in_order cmp x (y ∷ ys)) ≡ (p x || (p y || list_any p ys))
    by true is more = rw is (ap (λ t. p y || t) more ∙ or_swapped (p y) (p x) (list_any p ys))
    by false is more = rw is refl

pub any_in_order : {X : Type 0} (cmp : X → X → Ordering) (p : X → Bool) (xs : List X) → list_any p (in_order cmp xs) ≡ list_any p xs
any_in_order cmp p [] = refl
any_in_order cmp p (x ∷ xs) = any_put_in_order cmp p x (in_order cmp xs) ∙ ap (λ t. p x || t) (any_in_order cmp p xs)

module _ {X : Type 0} (cmp : X → X → Ordering) (total : IsTotalOrder cmp) (exact : (x y : X) → cmp x y ≡ Equal → x ≡ y) where
  same : X → X → Bool
  same x y = is_eq (cmp x y)

  same_itself : (x : X) → same x x ≡ true
  unfolding same
  same_itself x = ap is_eq (tied_itself total x)

  same_exact : (x y : X) → same x y ≡ true → x ≡ y
  unfolding same
  same_exact x y h = exact x y (tied (cmp x y) h)
    where
      tied : (o : Ordering) → is_eq o ≡ true → o ≡ Equal
      tied Less h = cc
      tied Equal h = refl
      tied Greater h = cc

  reversed : (x y : X) → cmp x y ≡ Greater → cmp y x ≡ Less
  reversed x y e = total.antisymm y x ∙ ap ordering_reverse e

  -- an item less than all of a list is not in it
  none_below : (x : X) (ys : List X) → AllByRecursion (λ y. cmp x y ≡ Less) ys → list_any (same x) ys ≡ false
  unfolding same
  none_below x [] h = refl
  none_below x (y ∷ ys) h = rw (h.0, none_below x ys h.1) refl

  below_all : (x y : X) (ys : List X) → cmp x y ≡ Less → Rises cmp (y ∷ ys) → AllByRecursion (λ z. cmp x z ≡ Less) (y ∷ ys)
  below_all x y ys less rises = (less, each_weaker (λ z. cmp y z ≡ Less) (λ z. cmp x z ≡ Less) (λ z k. total.trans x y z less k) ys rises.0)

  -- what is in one is in the other
  HaveSame : List X → List X → Type 0
  HaveSame xs ys = (x : X) → list_any (same x) xs ≡ list_any (same x) ys

  pub rising_fixed : (xs ys : List X) → Rises cmp xs → Rises cmp ys → ((x : X) → list_any (λ y. is_eq (cmp x y)) xs ≡ list_any (λ y. is_eq (cmp x y)) ys) → xs ≡ ys
  unfolding same HaveSame
  rising_fixed [] [] hx hy h = refl
  rising_fixed [] (y ∷ ys) hx hy h = cc (rw (same_itself y) at (h y))
  rising_fixed (x ∷ xs) [] hx hy h = cc (rw (same_itself x) at (h x))
  rising_fixed (x ∷ xs) (y ∷ ys) hx hy h = by (cmp x y) refl (rising_fixed xs ys hx.1 hy.1)
    where
      tails : (b : Bool) (z : X) → x ≡ y → same z x ≡ b → list_any (same z) xs ≡ list_any (same z) ys
      tails true z e at_first =
          let is : z ≡ x = same_exact z x at_first in
          let first : list_any (same x) xs ≡ false = none_below x xs hx.0 in
          let second : list_any (same x) ys ≡ false = rw e (none_below y ys hy.0) in
          rw is (first ∙ sym second)
      tails false z e other =
          let at_y : same z y ≡ false = rw (← e) other in
          rw (other, at_y) at (h z)

      by : (o : Ordering) → cmp x y ≡ o → (HaveSame xs ys → xs ≡ ys) → x ∷ xs ≡ y ∷ ys
      by Less e more =
          let none : list_any (same x) (y ∷ ys) ≡ false = none_below x (y ∷ ys) (below_all x y ys e hy) in
          cc (rw (same_itself x, none) at (h x))
      by Equal e more =
          let first : x ≡ y = exact x y e in
          let rest : xs ≡ ys = more (λ z. tails (same z x) z first refl) in
          cc
      by Greater e more =
          let none : list_any (same y) (x ∷ xs) ≡ false = none_below y (x ∷ xs) (below_all y x xs (reversed x y e) hx) in
          cc (rw (same_itself y, none) at (h y))
