-- Parents that lead to the least number of a set, and what stays where one of them is changed.
use Rattle.std.proofs.Common.{◌≡◌, ◌≢◌, ℕ, zero, suc, ◌+◌, ◌<◌, ◌≤◌, Bool, List, [], ◌∷◌, ◌++◌, length, map, set, get_or, refl, sym, ◌∙◌, ap, inl, inr, arith, eq-eqb, get_or-set_same, get_or-set_other}
use Rattle.std.specs.Prelude.{◌==◌, if◌then◌else◌, slice_get, Some}
use Rattle.std.specs.List.{range_with_len}
use Rattle.std.proofs.lemmas.Bool.{cases_lt, cases_Bool, cond-true, cond-false, eqb-true, false_from_ne_true, le-ltb, lt-ltb, true≢false}
use Rattle.std.proofs.Math.ListN.{length-set}
use Rattle.std.proofs.lemmas.List.{ext_get_or}
use Rattle.std.proofs.lemmas.Simd.{map-map}
use Rattle.std.proofs.lemmas.List.FromFn.{get_or-map-range_with_len, get_or-range_with_len, length-map-range_with_len, length-range_with_len, map-range_with_len_more}
use Rattle.std.proofs.lemmas.Option.{get_or_from_slice_get, slice_get-get_or, slice_get_within}
use Rattle.disjoint_sets.specs.Sets.{AreParents, above, least_numbers, joined}

abbrev pub parent : List ℕ → ℕ → ℕ
parent parents i = get_or parents i 0

-- the least number of the set of one
abbrev pub least : List ℕ → ℕ → ℕ
least parents i = above parents i i

-- a number that is its own parent is above itself
pub own : (parents : List ℕ) (n i : ℕ) → parent parents i ≡ i → above parents n i ≡ i
own parents zero i h = refl
own parents (suc n) i h = ap (above parents n) h ∙ own parents n i h

-- what is the same for each number and its parent, and is a number that is its own parent, is the least number of a set
above_is : (parents : List ℕ) (f : ℕ → ℕ) → AreParents parents → ((i : ℕ) → i < length parents → f (parent parents i) ≡ f i) → ((i : ℕ) → i < length parents → parent parents i ≡ i → f i ≡ i)
    → (n i : ℕ) → i ≤ n → i < length parents → above parents n i ≡ f i
above_is parents f h same root zero i le lt = sym (root i lt (let low = h i lt in omega arith))
above_is parents f h same root (suc n) i le lt = elim (cases_Bool (parent parents i == i)) [
  | inl e ↦ own parents (suc n) i (eqb-true (parent parents i) i e) ∙ sym (root i lt (eqb-true (parent parents i) i e))
  | inr e ↦
      let low = h i lt in
      let apart : parent parents i ≢ i = λ s. true≢false (sym (eq-eqb (parent parents i) i s) ∙ e) in
      let less : parent parents i < i = below (parent parents i) i low apart in
      above_is parents f h same root n (parent parents i) (omega arith) (omega arith) ∙ same i lt
]
  where
    below : (a b : ℕ) → a ≤ b → a ≢ b → a < b
    below a b le apart = elim (cases_lt a b) [ inl lt ↦ lt | inr ge ↦ absurd (apart (let e : a ≡ b = omega arith in e)) ]

module _ (parents : List ℕ) (h : AreParents parents) where
  -- more parents than the number lead no further
  once_more : (n i : ℕ) → i ≤ n → i < length parents → above parents n i ≡ above parents (suc n) i
  once_more zero i le lt = let low = h i lt in (let e : i ≡ parent parents i = omega arith in e)
  once_more (suc n) i le lt = elim (cases_lt (parent parents i) i) [
    | inl less ↦ once_more n (parent parents i) (omega arith) (omega arith)
    | inr ge ↦ let low = h i lt in let p : parent parents i ≡ i = omega arith in own parents (suc n) i p ∙ sym (own parents (suc (suc n)) i p)
  ]

  enough : (n m i : ℕ) → i ≤ n → n ≤ m → i < length parents → above parents n i ≡ above parents m i
  enough n zero i low le lt = ap (λ k. above parents k i) (let e : n ≡ zero = omega arith in e)
  enough n (suc m) i low le lt = elim (cases_lt n (suc m)) [
    | inl less ↦ enough n m i low (omega arith) lt ∙ once_more m i (omega arith) lt
    | inr ge ↦ ap (λ k. above parents k i) (let e : n ≡ suc m = omega arith in e)
  ]

  -- a number has the least number of its parent
  pub least_same : (i : ℕ) → i < length parents → least parents (parent parents i) ≡ least parents i
  least_same zero lt = let low = h 0 lt in ap (least parents) (let e : parent parents 0 ≡ 0 = omega arith in e)
  least_same (suc m) lt = elim (cases_lt (parent parents (suc m)) (suc m)) [
    | inl less ↦ enough (parent parents (suc m)) m (parent parents (suc m)) (omega arith) (omega arith) (omega arith)
    | inr ge ↦ let low = h (suc m) lt in ap (least parents) (let e : parent parents (suc m) ≡ suc m = omega arith in e)
  ]

  -- which is its own parent
  top : (n i : ℕ) → i ≤ n → i < length parents → parent parents (above parents n i) ≡ above parents n i
  top zero i le lt = let low = h i lt in (let e : parent parents i ≡ i = omega arith in e)
  top (suc n) i le lt = elim (cases_lt (parent parents i) i) [
    | inl less ↦ top n (parent parents i) (omega arith) (omega arith)
    | inr ge ↦ let low = h i lt in let p : parent parents i ≡ i = omega arith in let e = own parents (suc n) i p in ap (parent parents) e ∙ (p ∙ sym e)
  ]

  pub least_top : (i : ℕ) → i < length parents → parent parents (least parents i) ≡ least parents i
  least_top i lt = top i i (omega arith) lt

  -- and not greater than the number
  not_greater : (n i : ℕ) → i < length parents → above parents n i ≤ i
  not_greater zero i lt = omega arith
  not_greater (suc n) i lt = let low = h i lt in let up = not_greater n (parent parents i) (omega arith) in omega arith

  pub least_low : (i : ℕ) → i < length parents → least parents i ≤ i
  least_low i lt = not_greater i i lt

-- ---- the list of the least numbers

pub numbers_are : (parents : List ℕ) (f : ℕ → ℕ) → ((i : ℕ) → i < length parents → least parents i ≡ f i) → least_numbers parents ≡ map f (range_with_len 0 (length parents))
numbers_are parents f h =
    let n = length parents in
    let long = length-map-range_with_len (least parents) 0 n in
    let other = length-map-range_with_len f 0 n in
    ext_get_or 0 (least_numbers parents) (map f (range_with_len 0 n)) (omega (arith, long, other)) (λ i lt.
    let below : i < n = omega (arith, lt, long) in
    get_or-map-range_with_len (least parents) 0 n i i 0 below (omega arith) ∙ (h i below ∙ sym (get_or-map-range_with_len f 0 n i i 0 below (omega arith))))

pub length-least : (parents : List ℕ) → length (least_numbers parents) ≡ length parents
length-least parents = length-map-range_with_len (least parents) 0 (length parents)

pub least_at : (parents : List ℕ) (i : ℕ) → i < length parents → get_or (least_numbers parents) i 0 ≡ least parents i
least_at parents i lt = get_or-map-range_with_len (least parents) 0 (length parents) i i 0 lt (omega arith)

-- ---- one number gets another parent

module _ (parents : List ℕ) (h : AreParents parents) (x y : ℕ) (lt_x : x < length parents) (le : y ≤ x) where
  abbrev changed : List ℕ
  changed = set parents x y

  pub parents_changed : AreParents changed
  parents_changed i lt = elim (cases_Bool (i == x)) [
    | inl e ↦
        let is = eqb-true i x e in
        let new : parent changed i ≡ y = ap (parent changed) is ∙ get_or-set_same parents x y 0 lt_x in
        omega arith
    | inr e ↦
        let old : parent changed i ≡ parent parents i = get_or-set_other parents x i y 0 (λ s. true≢false (sym (eq-eqb i x s) ∙ e)) in
        let long = length-set parents x y in
        let low = h i (omega (arith, lt, long)) in
        omega arith
  ]

  -- what is still the same for each number and its parent, and for the one whose parent is new, is the least number
  least_changed : (f : ℕ → ℕ) → ((i : ℕ) → i < length parents → f (parent parents i) ≡ f i) → ((i : ℕ) → i < length parents → i ≢ x → parent parents i ≡ i → f i ≡ i) → f y ≡ f x → (y ≡ x → f x ≡ x)
      → (i : ℕ) → i < length parents → least changed i ≡ f i
  least_changed f same root new own_parent i lt =
      let long = length-set parents x y in
      above_is changed f parents_changed
      (λ j below. elim (cases_Bool (j == x)) [
        | inl e ↦ let is = eqb-true j x e in ap f (ap (parent changed) is ∙ get_or-set_same parents x y 0 lt_x) ∙ (new ∙ ap f (sym is))
        | inr e ↦ ap f (get_or-set_other parents x j y 0 (λ s. true≢false (sym (eq-eqb j x s) ∙ e))) ∙ same j (omega (arith, below, long))
      ])
      (λ j below alone. elim (cases_Bool (j == x)) [
        | inl e ↦
            let is = eqb-true j x e in
            let own : y ≡ x = sym (get_or-set_same parents x y 0 lt_x) ∙ (ap (parent changed) (sym is) ∙ (alone ∙ is)) in
            ap f is ∙ (own_parent own ∙ sym is)
        | inr e ↦
            let apart : j ≢ x = λ s. true≢false (sym (eq-eqb j x s) ∙ e) in
            root j (omega (arith, below, long)) apart (sym (get_or-set_other parents x j y 0 apart) ∙ alone)
      ])
      i i (omega arith) (omega (arith, lt, long))

  changed_are : (f : ℕ → ℕ) → ((i : ℕ) → i < length parents → least changed i ≡ f i) → least_numbers changed ≡ map f (range_with_len 0 (length parents))
  changed_are f is =
      let long = length-set parents x y in
      numbers_are changed f (λ i lt. is i (omega (arith, lt, long))) ∙ ap (λ n. map f (range_with_len 0 n)) long

-- a number gets the parent of its parent
module _ (parents : List ℕ) (h : AreParents parents) (x : ℕ) (lt : x < length parents) where
  abbrev pub second : ℕ
  second = parent parents (parent parents x)

  first_low : parent parents x ≤ x
  first_low = h x lt

  second_low : second ≤ parent parents x
  second_low = let low = first_low in h (parent parents x) (omega arith)

  pub second_below : second ≤ x
  second_below = let a = first_low in let b = second_low in omega arith

  second_least : least parents second ≡ least parents x
  second_least = let low = first_low in least_same parents h (parent parents x) (omega arith) ∙ least_same parents h x lt

  pub halved_parents : AreParents (set parents x second)
  halved_parents = parents_changed parents h x second lt second_below

  halved_at : (i : ℕ) → i < length parents → least (set parents x second) i ≡ least parents i
  halved_at = least_changed parents h x second lt second_below (least parents) (least_same parents h) (λ i below apart alone. own parents i i alone) second_least
      (λ e. own parents x x (let a = first_low in let b = second_low in (let is : parent parents x ≡ x = omega arith in is)))

  pub halved : least_numbers (set parents x second) ≡ least_numbers parents
  halved = changed_are parents h x second lt second_below (least parents) halved_at

  pub halved_next : least (set parents x second) second ≡ least parents x
  halved_next = let low = second_below in halved_at second (omega arith) ∙ second_least

-- the greater of two numbers that are least in their sets gets the lesser as its parent
module _ (parents : List ℕ) (h : AreParents parents) (x y : ℕ) (lt_x : x < length parents) (le : y ≤ x) (alone_x : parent parents x ≡ x) (alone_y : parent parents y ≡ y) where
  abbrev to : ℕ → ℕ
  to n = if n == x then y else n

  to_x : to x ≡ y
  to_x = cond-true (x == x) y x (eq-eqb x x refl)

  to_other : (n : ℕ) → n ≢ x → to n ≡ n
  to_other n apart = cond-false (n == x) y n (false_from_ne_true (n == x) (λ e. apart (eqb-true n x e)))

  to_y : to y ≡ y
  to_y = elim (cases_Bool (y == x)) [
    | inl e ↦ cond-true (y == x) y y e
    | inr e ↦ cond-false (y == x) y y e
  ]

  pub linked_parents : AreParents (set parents x y)
  linked_parents = parents_changed parents h x y lt_x le

  pub linked : least_numbers (set parents x y) ≡ map to (least_numbers parents)
  linked =
      changed_are parents h x y lt_x le (λ i. to (least parents i))
      (least_changed parents h x y lt_x le (λ i. to (least parents i))
      (λ i lt. ap to (least_same parents h i lt))
      (λ i lt apart alone. ap to (own parents i i alone) ∙ to_other i apart)
      (ap to (own parents y y alone_y) ∙ (to_y ∙ sym (ap to (own parents x x alone_x) ∙ to_x)))
      (λ e. ap to (own parents x x alone_x) ∙ (to_x ∙ e)))
      ∙ sym (map-map to (least parents) (range_with_len 0 (length parents)))

-- ---- as the functions have them

-- the set that is read is the one that was asked
pub found : (parents : List ℕ) (i at : ℕ) → i < length parents → least parents i ≡ at → slice_get (least_numbers parents) i ≡ Some at
found parents i at lt is =
    let long = length-least parents in
    slice_get-get_or (least_numbers parents) i 0 (omega (arith, lt, long)) ∙ ap (λ n. Some n) (least_at parents i lt ∙ is)

-- a least number, in other parents of the same sets
pub found_top : (old new : List ℕ) (i at : ℕ) → AreParents new → least_numbers new ≡ least_numbers old → i < length old → slice_get (least_numbers old) i ≡ Some at → slice_get new at ≡ Some at
found_top old new i at h same lt is =
    let long = length-least old in
    let longer = length-least new in
    let lens = ap length same in
    let below : i < length new = omega (arith, lt, long, longer, lens) in
    let here : least new i ≡ at = sym (least_at new i below) ∙ (ap (λ ns. get_or ns i 0) same ∙ get_or_from_slice_get (least_numbers old) i at 0 is) in
    let low = least_low new h i below in
    slice_get-get_or new at 0 (omega (arith, low, here, below)) ∙ ap (λ n. Some n) (ap (parent new) (sym here) ∙ (least_top new h i below ∙ here))

-- joined, by the lesser of two least numbers
pub joined_left : (parents : List ℕ) (a b : ℕ) → AreParents parents → slice_get parents a ≡ Some a → slice_get parents b ≡ Some b → a < b
    → AreParents (set parents b a) × (least_numbers (set parents b a) ≡ joined a b (least_numbers parents))
joined_left parents a b h own_a own_b less =
    let lt = slice_get_within parents b b own_b in
    let alone_a = get_or_from_slice_get parents a a 0 own_a in
    let alone_b = get_or_from_slice_get parents b b 0 own_b in
    let le : a ≤ b = omega arith in (
      linked_parents parents h b a lt le alone_b alone_a,
      linked parents h b a lt le alone_b alone_a ∙ ap (λ (t : Bool). map (λ n. if t then (if n == b then a else n) else (if n == a then b else n)) (least_numbers parents)) (sym (lt-ltb a b less)),
    )

pub joined_right : (parents : List ℕ) (a b : ℕ) → AreParents parents → slice_get parents a ≡ Some a → slice_get parents b ≡ Some b → b ≤ a
    → AreParents (set parents a b) × (least_numbers (set parents a b) ≡ joined a b (least_numbers parents))
joined_right parents a b h own_a own_b le =
    let lt = slice_get_within parents a a own_a in
    let alone_a = get_or_from_slice_get parents a a 0 own_a in
    let alone_b = get_or_from_slice_get parents b b 0 own_b in (
      linked_parents parents h a b lt le alone_a alone_b,
      linked parents h a b lt le alone_a alone_b ∙ ap (λ (t : Bool). map (λ n. if t then (if n == b then a else n) else (if n == a then b else n)) (least_numbers parents)) (sym (le-ltb a b le)),
    )

-- numbers that are each alone in their set
map_same : (xs : List ℕ) → map (λ n. n) xs ≡ xs
map_same [] = refl
map_same (x ∷ xs) = ap (λ ys. x ∷ ys) (map_same xs)

pub range_more : (n : ℕ) → range_with_len 0 (n + 1) ≡ range_with_len 0 n ++ n ∷ []
range_more n = sym (map_same (range_with_len 0 (n + 1))) ∙ (map-range_with_len_more (λ i. i) 0 n n (omega arith) ∙ ap (λ ns. ns ++ n ∷ []) (map_same (range_with_len 0 n)))

module _ (n : ℕ) (parents : List ℕ) (is : parents ≡ range_with_len 0 n) where
  alone_at : (i : ℕ) → i < length parents → parent parents i ≡ i
  alone_at i lt =
      let long = length-range_with_len 0 n in
      let size = ap length is in
      ap (λ ns. get_or ns i 0) is ∙ (get_or-range_with_len 0 n i 0 (omega (arith, lt, long, size)) ∙ (let e : 0 + i ≡ i = omega arith in e))

  pub alone_parents : AreParents parents
  alone_parents i lt = let e = alone_at i lt in omega arith

  pub alone_least : least_numbers parents ≡ range_with_len 0 n
  alone_least =
      numbers_are parents (λ i. i) (λ i lt. own parents i i (alone_at i lt))
      ∙ (map_same (range_with_len 0 (length parents)) ∙ ap (range_with_len 0) (ap length is ∙ length-range_with_len 0 n))
