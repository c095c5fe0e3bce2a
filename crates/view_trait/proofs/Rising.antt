-- Numbers that rise, searched and put in their places.
use Rattle.std.proofs.Common.{◌≡◌, ℕ, zero, suc, ◌<◌, ◌≤◌, ◌⊎◌, Bool, true, false, ◌||◌, List, [], ◌∷◌, cond, length, get_or, refl, sym, ◌∙◌, ap, subst, arith, inl, inr, eqb}
use Rattle.std.specs.Prelude.{Result, Ok, Err, is_ok, ◌==◌}
use Rattle.std.specs.List.Sorted.{IsBinarySearchResult, IsPermutation, IsSorted}
use Rattle.std.specs.List.Retain.{IsFiltered, DiffersFromLast}
use Rattle.std.proofs.lemmas.List.Sorted.{searched}
use Rattle.std.proofs.lemmas.Cmp.{nat_cmp_total}
use Rattle.std.specs.List.{insert}
use Rattle.std.specs.declared.cmp.Ordering.TheVariants.{Less, Equal, Greater}
use Rattle.std.specs.Ordering.{nat_cmp, is_eq, is_lt, is_gt}
use Rattle.std.specs.Cmp.{nat_cmp_is, unsigned_tied}
use Rattle.std.proofs.lemmas.Bool.{eqb-true, ne_eqb}
use Rattle.std.proofs.lemmas.Bool.Decides.{nat_tests}
use Rattle.graph_model.specs.Rising.{put_rising, rising, Rises}
use Rattle.world_laws.proofs.RisingItems.{Rises-put, Rises-rising}
use Rattle.world_laws.proofs.ListItems.{each_at}
use Rattle.view_trait.specs.Numbered.{is_listed}
use Rattle.view_trait.proofs.Settled.{settled}

pub less_is : (x y : ℕ) → x < y → nat_cmp x y ≡ Less
less_is x y h = sym (nat_cmp_is x y Less h)

equal_is : (x y : ℕ) → x ≡ y → nat_cmp x y ≡ Equal
equal_is x y h = sym (nat_cmp_is x y Equal h)

greater_is : (x y : ℕ) → y < x → nat_cmp x y ≡ Greater
greater_is x y h = sym (nat_cmp_is x y Greater h)

three_ways : (x y : ℕ) → (x < y) ⊎ ((x ≡ y) ⊎ (y < x))
three_ways x y = grind arith

pub less_from : (x y : ℕ) → nat_cmp x y ≡ Less → x < y
less_from x y h = elim (three_ways x y) [
  | inl a ↦ a
  | inr b ↦ elim b [
    | inl e ↦ absurd (let no = sym (equal_is x y e) ∙ h in cc)
    | inr g ↦ absurd (let no = sym (greater_is x y g) ∙ h in cc)
  ]
]

-- a number is less than those after it
after_first : (x : ℕ) (xs : List ℕ) (j : ℕ) → Rises nat_cmp (x ∷ xs) → j < length xs → x < get_or xs j 0
after_first x xs j h lt = less_from x (get_or xs j 0) (each_at (λ y. nat_cmp x y ≡ Less) xs j 0 h.0 lt)

pub numbers_rise : (xs : List ℕ) → Rises nat_cmp xs → (i j : ℕ) → i ≤ j → j < length xs → get_or xs i 0 ≤ get_or xs j 0
numbers_rise [] h i j le lt = absurd (omega arith)
numbers_rise (x ∷ xs) h zero zero le lt = omega arith
numbers_rise (x ∷ xs) h zero (suc j) le lt = let a = after_first x xs j h (omega arith) in omega arith
numbers_rise (x ∷ xs) h (suc i) zero le lt = absurd (omega arith)
numbers_rise (x ∷ xs) h (suc i) (suc j) le lt = numbers_rise xs h.1 i j (omega arith) (omega arith)

put_less : (x y : ℕ) (ys : List ℕ) → x < y → put_rising nat_cmp x (y ∷ ys) ≡ x ∷ y ∷ ys
put_less x y ys h = ap (λ o. cond (is_lt o) (x ∷ y ∷ ys) (cond (is_gt o) (y ∷ put_rising nat_cmp x ys) (y ∷ ys))) (less_is x y h)

put_equal : (x y : ℕ) (ys : List ℕ) → x ≡ y → put_rising nat_cmp x (y ∷ ys) ≡ y ∷ ys
put_equal x y ys h = ap (λ o. cond (is_lt o) (x ∷ y ∷ ys) (cond (is_gt o) (y ∷ put_rising nat_cmp x ys) (y ∷ ys))) (equal_is x y h)

put_greater : (x y : ℕ) (ys : List ℕ) → y < x → put_rising nat_cmp x (y ∷ ys) ≡ y ∷ put_rising nat_cmp x ys
put_greater x y ys h = ap (λ o. cond (is_lt o) (x ∷ y ∷ ys) (cond (is_gt o) (y ∷ put_rising nat_cmp x ys) (y ∷ ys))) (greater_is x y h)

-- a number that is there
pub put_found : (x : ℕ) (xs : List ℕ) (i : ℕ) → Rises nat_cmp xs → i < length xs → get_or xs i 0 ≡ x → put_rising nat_cmp x xs ≡ xs
put_found x [] i h lt is = absurd (omega arith)
put_found x (y ∷ ys) zero h lt is = put_equal x y ys (sym is)
put_found x (y ∷ ys) (suc i) h lt is =
    let below : y < get_or ys i 0 = after_first y ys i h (omega arith) in
    put_greater x y ys (omega (arith, is)) ∙ ap (λ zs. y ∷ zs) (put_found x ys i h.1 (omega arith) is)

-- and one that is not
pub put_new : (x : ℕ) (xs : List ℕ) (i : ℕ) → i ≤ length xs → ((k : ℕ) → k < i → get_or xs k 0 < x) → ((k : ℕ) → i ≤ k → k < length xs → x < get_or xs k 0) → put_rising nat_cmp x xs ≡ insert xs i x
put_new x [] zero le before after = refl
put_new x [] (suc i) le before after = absurd (omega arith)
put_new x (y ∷ ys) zero le before after = put_less x y ys (after 0 (omega arith) (omega arith))
put_new x (y ∷ ys) (suc i) le before after =
    put_greater x y ys (before 0 (omega arith)) ∙ ap (λ zs. y ∷ zs) (put_new x ys i (omega arith) (λ k a. before (suc k) (omega arith)) (λ k a b. after (suc k) (omega arith) (omega arith)))

listed_at : (n : ℕ) (xs : List ℕ) (i : ℕ) → i < length xs → get_or xs i 0 ≡ n → is_listed xs n ≡ true
listed_at n [] i lt is = absurd (omega arith)
listed_at n (x ∷ xs) zero lt is = ap (λ b. b || is_listed xs n) (let t : eqb x n ≡ true = grind (arith, nat_tests, is) in t)
listed_at n (x ∷ xs) (suc i) lt is = ap (λ b. eqb x n || b) (listed_at n xs i (omega arith) is) ∙ or_true (eqb x n)
  where
    or_true : (b : Bool) → (b || true) ≡ true
    or_true true = refl
    or_true false = refl

unlisted : (n : ℕ) (xs : List ℕ) → ((k : ℕ) → k < length xs → get_or xs k 0 ≡ n → ⊥) → is_listed xs n ≡ false
unlisted n [] h = refl
unlisted n (x ∷ xs) h = ap (λ b. b || is_listed xs n) (ne_eqb x n (h 0 (omega arith))) ∙ unlisted n xs (λ k a e. h (suc k) (omega arith) e)

-- where a search has found a number, or its place
pub listed_found : (n : ℕ) (xs : List ℕ) (i : ℕ) → (i < length xs) × (get_or xs i 0 ≡ n) → is_listed xs n ≡ true
listed_found n xs i h = listed_at n xs i h.0 h.1

pub listed_missed : (n : ℕ) (xs : List ℕ) (i : ℕ) → (i ≤ length xs) × ((k : ℕ) → k < i → get_or xs k 0 < n) × ((k : ℕ) → i ≤ k → k < length xs → n < get_or xs k 0) → is_listed xs n ≡ false
listed_missed n xs i h = unlisted n xs (λ k a e. elim (side k) [
  | inl lt ↦ let less = h.1 k lt in omega (arith, e)
  | inr le ↦ let more = h.2 k le a in omega (arith, e)
])
  where
    side : (k : ℕ) → (k < i) ⊎ (i ≤ k)
    side k = grind arith

-- what a search among numbers that rise says
pub listed_search : (xs : List ℕ) (n : ℕ) (r : Result ℕ ℕ) → Rises nat_cmp xs → IsBinarySearchResult (λ y. nat_cmp y n) xs r → is_ok r ≡ is_listed xs n
listed_search xs n (Ok i) h k = sym (listed_found n xs i (searched xs n (Ok i) k (numbers_rise xs h)))
listed_search xs n (Err i) h k = sym (listed_missed n xs i (searched xs n (Err i) k (numbers_rise xs h)))

pub found_search : (xs : List ℕ) (n i : ℕ) → Rises nat_cmp xs → IsBinarySearchResult (λ y. nat_cmp y n) xs (Ok i) → put_rising nat_cmp n xs ≡ xs
found_search xs n i h k = let r = searched xs n (Ok i) k (numbers_rise xs h) in put_found n xs i h r.0 r.1

pub new_search : (xs : List ℕ) (n i : ℕ) → Rises nat_cmp xs → IsBinarySearchResult (λ y. nat_cmp y n) xs (Err i) → put_rising nat_cmp n xs ≡ insert xs i n
new_search xs n i h k = let r = searched xs n (Err i) k (numbers_rise xs h) in put_new n xs i r.0 r.1 r.2

-- numbers that rise do so with one more
pub rises_after : (xs ys : List ℕ) (n i : ℕ) → Rises nat_cmp xs → put_rising nat_cmp n xs ≡ insert xs i n → ys ≡ insert xs i n → Rises nat_cmp ys
rises_after xs ys n i h e is = subst (Rises nat_cmp) (e ∙ sym is) (Rises-put nat_cmp nat_cmp_total n xs h)

-- a number that is put is listed beside the others
listed_twice : (a b d : Bool) → a ≡ b → (b || d) ≡ ((b || d) || a)
listed_twice true true d h = refl
listed_twice true false d h = cc
listed_twice false true d h = cc
listed_twice false false true h = refl
listed_twice false false false h = refl

listed_later : (a b d : Bool) → (b || (d || a)) ≡ ((b || d) || a)
listed_later a true d = refl
listed_later a false d = refl

listed_before : (a b d : Bool) → (a || (b || d)) ≡ ((b || d) || a)
listed_before true true d = refl
listed_before true false true = refl
listed_before true false false = refl
listed_before false true d = refl
listed_before false false true = refl
listed_before false false false = refl

pub listed_put : (p : ℕ) (xs : List ℕ) (n : ℕ) → is_listed (put_rising nat_cmp p xs) n ≡ (is_listed xs n || eqb p n)
listed_put p [] n = listed_before (eqb p n) false false
listed_put p (y ∷ ys) n = elim (three_ways p y) [
  | inl a ↦ ap (λ zs. is_listed zs n) (put_less p y ys a) ∙ listed_before (eqb p n) (eqb y n) (is_listed ys n)
  | inr b ↦ elim b [
    | inl e ↦ ap (λ zs. is_listed zs n) (put_equal p y ys e) ∙ listed_twice (eqb p n) (eqb y n) (is_listed ys n) (ap (λ m. eqb m n) e)
    | inr g ↦ ap (λ zs. is_listed zs n) (put_greater p y ys g) ∙ (ap (λ b. eqb y n || b) (listed_put p ys n) ∙ listed_later (eqb p n) (eqb y n) (is_listed ys n))
  ]
]

-- ---- numbers that are sorted, and then left once each

exact_numbers : (x y : ℕ) → nat_cmp x y ≡ Equal → x ≡ y
exact_numbers x y e = eqb-true x y (sym (unsigned_tied x y) ∙ ap is_eq e)

pub numbers_settled : (xs ys zs : List ℕ) → IsPermutation xs ys → IsSorted nat_cmp ys → IsFiltered (DiffersFromLast (λ (x y : ℕ). x == y)) [] ys zs → zs ≡ rising nat_cmp xs
numbers_settled xs ys zs moved sorted left = settled nat_cmp nat_cmp_total exact_numbers (λ (x y : ℕ). x == y) (λ x y. sym (unsigned_tied x y)) xs ys zs moved sorted left

pub Rises-numbers : (xs : List ℕ) → Rises nat_cmp (rising nat_cmp xs)
Rises-numbers xs = Rises-rising nat_cmp nat_cmp_total xs
