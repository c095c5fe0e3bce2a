-- Items sorted by a key: where their keys are the members of a table that pass a test, they are the list that rises with those members.
use Rattle.std.proofs.Common.{◌≡◌, ℕ, zero, suc, ◌<◌, Bool, true, false, ◌&&◌, List, [], ◌∷◌, length, map, get_or, refl, sym, ◌∙◌, ap, subst, arith}
use Rattle.std.specs.List.{filter, list_any, IsDistinct, AllByRecursion}
use Rattle.std.specs.List.Sorted.{IsPermutation, IsSortedBy}
use Rattle.std.specs.Cmp.{IsTotalOrder, eq_by_cmp_equiv}
use Rattle.std.specs.declared.cmp.Ordering.{Ordering}
use Rattle.std.specs.declared.cmp.Ordering.TheVariants.{Less, Equal, Greater}
use Rattle.std.specs.Ordering.{is_eq, is_lt, ordering_reverse}
use Rattle.std.proofs.lemmas.Bool.{cond_both, and_from}
use Rattle.std.proofs.lemmas.Cmp.{on_total}
use Rattle.std.proofs.lemmas.List.Sorted.{sorted_far, ranks_by, list_any-IsPermutation, IsPermutation-map}
use Rattle.std.proofs.lemmas.Map.Keys.{IsDistinct-head, IsDistinct-tail, IsDistinct-cons, IsDistinct-from_apart, IsDistinct-IsPermutation, apart_from_distinct}
use Rattle.std.proofs.lemmas.Map.Made.{is_member-filter}
use Rattle.graph_model.specs.Rising.{Rises}
use Rattle.world_laws.proofs.Filters.{each_kept}
use Rattle.world_laws.proofs.ListItems.{each_from}
use Rattle.world_laws.proofs.Answers.{Rises-map}
use Rattle.world_laws.proofs.Order.{is_eq-Equal}
use Rattle.world_laws.proofs.RisingFixed.{rising_fixed}

-- ---- distinct items

-- items that pass a test are distinct where all are
pub distinct_filter : {X : Type 0} (same : X → X → Bool) (p : X → Bool) (xs : List X) → IsDistinct same xs → IsDistinct same (filter p xs)
distinct_filter same p [] h = h
distinct_filter same p (x ∷ xs) h =
    let more = distinct_filter same p xs (IsDistinct-tail same x xs h) in
    cond_both (p x) (x ∷ filter p xs) (filter p xs) (IsDistinct same)
    (λ e. IsDistinct-cons same x (filter p xs) (each_kept (λ y. same x y ≡ false) p xs (IsDistinct-head same x xs h)) more)
    (λ e. more)

-- items whose keys are distinct
pub distinct_keys : {X K : Type 0} (key : X → K) (same : K → K → Bool) (xs : List X) → IsDistinct same (map key xs) → IsDistinct (λ x y. same (key x) (key y)) xs
distinct_keys key same [] h = IsDistinct-from_apart (λ x y. same (key x) (key y)) [] (λ i j d less below. absurd (omega arith))
distinct_keys {X} key same (x ∷ xs) h =
    IsDistinct-cons (λ x y. same (key x) (key y)) x xs (heads xs (IsDistinct-head same (key x) (map key xs) h)) (distinct_keys key same xs (IsDistinct-tail same (key x) (map key xs) h))
  where
    heads : (ys : List X) → AllByRecursion (λ y. same (key x) y ≡ false) (map key ys) → AllByRecursion (λ y. same (key x) (key y) ≡ false) ys
    heads [] k = tt
    heads (y ∷ ys) k = (k.0, heads ys k.1)

-- ---- what a sort gives

-- a list rises where each item is less than those at later places
pub rises_from : {X : Type 0} (cmp : X → X → Ordering) (xs : List X) → ((i j : ℕ) (d : X) → i < j → j < length xs → cmp (get_or xs i d) (get_or xs j d) ≡ Less) → Rises cmp xs
rises_from cmp [] h = tt
rises_from cmp (x ∷ xs) h = (each_from (λ y. cmp x y ≡ Less) xs x (λ j below. h zero (suc j) x (omega arith) (omega arith)), rises_from cmp xs (λ i j d less below. h (suc i) (suc j) d (omega arith) (omega arith)))

less_from : (o p : Ordering) → o ≡ ordering_reverse p → is_eq o ≡ false → is_lt p ≡ false → o ≡ Less
less_from o Less e apart up = cc
less_from o Equal e apart up = absurd (let no : true ≡ false = sym (ap is_eq e) ∙ apart in cc)
less_from o Greater e apart up = e

-- items that differ, sorted, rise
pub rises_sorted : {X : Type 0} (cmp : X → X → Ordering) → IsTotalOrder cmp → (xs : List X) → IsDistinct (λ x y. is_eq (cmp x y)) xs → IsSortedBy (λ x y. is_lt (cmp x y)) xs → Rises cmp xs
rises_sorted cmp total xs once sorted = rises_from cmp xs (λ i j d less below.
    less_from (cmp (get_or xs i d) (get_or xs j d)) (cmp (get_or xs j d) (get_or xs i d)) (total.antisymm (get_or xs i d) (get_or xs j d))
    (apart_from_distinct (λ x y. is_eq (cmp x y)) xs i j d once less below)
    (sorted_far (λ x y. is_lt (cmp x y)) (ranks_by total (λ x. x)) xs sorted i j d (omega arith) below))

-- ---- keys

module _ {X K : Type 0} (key : X → K) (cmp : K → K → Ordering) (total : IsTotalOrder cmp) where
  -- the keys of items that are sorted by them rise, where they differ
  pub sorted_keys_rise : (xs ys : List X) → IsDistinct (λ a b. is_eq (cmp a b)) (map key xs) → IsPermutation xs ys → IsSortedBy (λ x y. is_lt (cmp (key x) (key y))) ys → Rises cmp (map key ys)
  sorted_keys_rise xs ys once moved sorted =
      let apart = distinct_keys key (λ a b. is_eq (cmp a b)) xs once in
      let still : IsDistinct (λ x y. is_eq (cmp (key x) (key y))) ys = IsDistinct-IsPermutation (λ x y. is_eq (cmp (key x) (key y))) (λ x y. (eq_by_cmp_equiv total).symm (key x) (key y)) xs ys moved apart in
      Rises-map (λ x y. cmp (key x) (key y)) cmp key (λ x y e. e) ys (rises_sorted (λ x y. cmp (key x) (key y)) (on_total key total) ys still sorted)

  module _ (exact : (a b : K) → cmp a b ≡ Equal → a ≡ b) (p : K → Bool) (names : List K) (known : (b : K) → p b ≡ true → list_any (λ a. is_eq (cmp b a)) names ≡ true) where
    -- the members of a table that pass a test are all that pass it
    pub kept_members : (b : K) → list_any (λ a. is_eq (cmp b a)) (filter p names) ≡ p b
    kept_members b =
        is_member-filter (eq_by_cmp_equiv total) p b (λ a e. ap p (exact b a (is_eq-Equal (cmp b a) e))) names
        ∙ kept (p b) (list_any (λ a. is_eq (cmp b a)) names) (known b)
      where
        kept : (s t : Bool) → (s ≡ true → t ≡ true) → (t && s) ≡ s
        kept true t h = and_from t true (h refl) refl
        kept false true h = refl
        kept false false h = refl

    -- so are the keys of a permutation of items with these keys
    pub sorted_members : (xs ys : List X) → map key xs ≡ filter p names → IsPermutation xs ys → (b : K) → list_any (λ a. is_eq (cmp b a)) (map key ys) ≡ p b
    sorted_members xs ys is moved b =
        sym (list_any-IsPermutation (λ a. is_eq (cmp b a)) (map key xs) (map key ys) (IsPermutation-map key xs ys moved))
        ∙ (ap (list_any (λ a. is_eq (cmp b a))) is ∙ kept_members b)

    -- sorted, they are the list that rises with those that pass
    pub sorted_names : (all : List K) → Rises cmp all → ((b : K) → list_any (λ a. is_eq (cmp b a)) all ≡ p b) → IsDistinct (λ a b. is_eq (cmp a b)) names
        → (xs ys : List X) → map key xs ≡ filter p names → IsPermutation xs ys → IsSortedBy (λ x y. is_lt (cmp (key x) (key y))) ys → map key ys ≡ all
    sorted_names all rise has once xs ys is moved sorted =
        let apart : IsDistinct (λ a b. is_eq (cmp a b)) (map key xs) = subst (IsDistinct (λ a b. is_eq (cmp a b))) (sym is) (distinct_filter (λ a b. is_eq (cmp a b)) p names once) in
        rising_fixed cmp total exact (map key ys) all (sorted_keys_rise xs ys apart moved sorted) rise (λ b. sorted_members xs ys is moved b ∙ sym (has b))
