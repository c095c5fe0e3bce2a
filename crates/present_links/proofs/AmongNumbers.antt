-- Places of numbers among some that rise.
use Rattle.std.proofs.Common.{◌≡◌, ℕ, zero, suc, ◌+◌, ◌<◌, ◌≤◌, true, false, List, [], ◌∷◌, length, refl, sym, ◌∙◌, ap, subst, inl, inr, arith}
use Rattle.std.specs.Prelude.{nat_lt, ◌==◌, Result, Ok, Err, IfNone}
use Rattle.std.specs.Result.{result_ok}
use Rattle.std.specs.List.Sorted.{IsBinarySearchResult}
use Rattle.view_trait.proofs.Rising.{listed_search}
use Rattle.std.specs.List.{AllByRecursion}
use Rattle.std.specs.Ordering.{MatchOrdering, nat_cmp}
use Rattle.std.specs.declared.cmp.Ordering.TheVariants.{Less}
use Rattle.std.proofs.lemmas.Cmp.{ranked}
use Rattle.std.proofs.lemmas.Bool.{cases_lt, cases_Bool, lt-ltb, ltb-true, eq-eqb, ne_eqb, eqb-true, or_cases, or_left, or_right, true≢false, false_from_ne_true}
use Rattle.graph_model.specs.Rising.{Rises}
use Rattle.world_laws.proofs.Filters.{each_weaker}
use Rattle.view_trait.specs.Numbered.{is_listed}
use Rattle.present_links.specs.Adjacent.{number_at, place_among}
use Rattle.present_links.proofs.SortedPlaces.{Climbs}

-- a number is less than another where they compare so
pub less_number : (a b : ℕ) → nat_cmp a b ≡ Less → a < b
less_number a b e = subst (λ o. MatchOrdering o (a < b) (a ≡ b) (b < a)) e (ranked a b (nat_cmp a b) refl)

pub climbs_numbers : (xs : List ℕ) → Rises nat_cmp xs → Climbs (λ m. m) xs
climbs_numbers [] h = omega arith
climbs_numbers (x ∷ xs) h = (each_weaker (λ y. nat_cmp x y ≡ Less) (λ y. x ≤ y) (λ y e. (let lt = less_number x y e in omega (arith, lt))) xs h.0, climbs_numbers xs h.1)

-- no more numbers than n are less than n
place_from : (b : ℕ) (xs : List ℕ) (n : ℕ) → Rises nat_cmp xs → AllByRecursion (λ y. b ≤ y) xs → b ≤ n → place_among xs n + b ≤ n
place_from b [] n h low le = omega (arith, le)
place_from b (x ∷ xs) n h low le = elim (cases_lt x n) [
  | inl lt ↦
      let e : nat_lt x n ≡ true = lt-ltb x n lt in
      let more = place_from (x + 1) xs n h.1 (each_weaker (λ y. nat_cmp x y ≡ Less) (λ y. x + 1 ≤ y) (λ y k. (let l = less_number x y k in omega (arith, l))) xs h.0) (omega (arith, lt)) in
      rw e (omega (arith, more, low.0))
  | inr ge ↦
      let e : nat_lt x n ≡ false = false_from_ne_true (nat_lt x n) (λ k. (let lt = ltb-true x n k in absurd (omega (arith, lt, ge)))) in
      rw e (omega (arith, le))
]

pub place_small : (xs : List ℕ) (n : ℕ) → Rises nat_cmp xs → place_among xs n ≤ n
place_small xs n h = let small = place_from 0 xs n h (every xs) (omega arith) in omega (arith, small)
  where
    every : (ys : List ℕ) → AllByRecursion (λ y. 0 ≤ y) ys
    every [] = tt
    every (y ∷ ys) = (omega arith, every ys)

-- the number in a place has that place
pub place_at : (xs : List ℕ) (v : ℕ) → Rises nat_cmp xs → v < length xs → place_among xs (number_at xs v) ≡ v
place_at [] v h lt = absurd (omega (arith, lt))
place_at (x ∷ xs) zero h lt = let e : nat_lt x x ≡ false = false_from_ne_true (nat_lt x x) (λ k. (let l = ltb-true x x k in absurd (omega (arith, l)))) in rw e refl
place_at (x ∷ xs) (suc v) h lt =
    let below : x < number_at xs v = above xs v h.0 (omega (arith, lt)) in
    let e : nat_lt x (number_at xs v) ≡ true = lt-ltb x (number_at xs v) below in
    let more = place_at xs v h.1 (omega (arith, lt)) in
    rw e (omega (arith, more))
  where
    above : (ys : List ℕ) (k : ℕ) → AllByRecursion (λ y. nat_cmp x y ≡ Less) ys → k < length ys → x < number_at ys k
    above [] k each l = absurd (omega (arith, l))
    above (y ∷ ys) zero each l = less_number x y each.0
    above (y ∷ ys) (suc k) each l = above ys k each.1 (omega (arith, l))

-- a number that is listed has a place
pub place_listed : (xs : List ℕ) (n : ℕ) → is_listed xs n ≡ true → (v : ℕ) × (v < length xs) × (number_at xs v ≡ n)
place_listed [] n h = absurd (true≢false (sym h))
place_listed (x ∷ xs) n h = elim (or_cases (x == n) (is_listed xs n) h) [
  | inl e ↦ (zero, omega arith, eqb-true x n e)
  | inr e ↦ let r = place_listed xs n e in (suc r.0, omega (arith, r.1), r.2)
]

-- what is not listed is in no place
pub not_listed : (xs : List ℕ) (n : ℕ) → ((v : ℕ) → v < length xs → number_at xs v ≡ n → 1 ≤ 0) → is_listed xs n ≡ false
not_listed xs n none = false_from_ne_true (is_listed xs n) (λ h. (let r = place_listed xs n h in absurd (omega (arith, none r.0 r.1 r.2))))

-- so it is less than their number
pub place_below : (xs : List ℕ) (n : ℕ) → Rises nat_cmp xs → is_listed xs n ≡ true → place_among xs n < length xs
place_below xs n h on =
    let r = place_listed xs n on in
    let is : place_among xs n ≡ r.0 = ap (place_among xs) (sym r.2) ∙ place_at xs r.0 h r.1 in
    omega (arith, is, r.1)

-- a number is in a place where the place is its own
pub same_place : (xs : List ℕ) (n v : ℕ) → Rises nat_cmp xs → is_listed xs n ≡ true → v < length xs → (place_among xs n == v) ≡ (n == number_at xs v)
same_place xs n v h on lt =
    let r = place_listed xs n on in
    let is : place_among xs n ≡ r.0 = ap (place_among xs) (sym r.2) ∙ place_at xs r.0 h r.1 in
    elim (cases_Bool (n == number_at xs v)) [
      | inl e ↦ eq-eqb (place_among xs n) v (ap (place_among xs) (eqb-true n (number_at xs v) e) ∙ place_at xs v h lt) ∙ sym e
      | inr e ↦ ne_eqb (place_among xs n) v (λ same. true≢false (sym (eq-eqb n (number_at xs v) (sym r.2 ∙ ap (number_at xs) (sym is ∙ same))) ∙ e)) ∙ sym e
    ]

-- the number in a place is listed
pub listed_at : (xs : List ℕ) (v : ℕ) → v < length xs → is_listed xs (number_at xs v) ≡ true
listed_at [] v lt = absurd (omega (arith, lt))
listed_at (x ∷ xs) zero lt = or_left (x == x) (is_listed xs x) (eq-eqb x x refl)
listed_at (x ∷ xs) (suc v) lt = or_right (x == number_at xs v) (is_listed xs (number_at xs v)) (listed_at xs v (omega (arith, lt)))

-- where a search finds nothing, nothing is listed
pub none_found : (xs : List ℕ) (n : ℕ) (r : Result ℕ ℕ) → Rises nat_cmp xs → IsBinarySearchResult (λ y. nat_cmp y n) xs r → IfNone (result_ok r) (is_listed xs n ≡ false)
none_found xs n (Ok i) h k = tt
none_found xs n (Err i) h k = sym (listed_search xs n (Err i) h k)
