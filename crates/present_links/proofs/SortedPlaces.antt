-- How many numbers come before one, where they rise.
use Rattle.std.proofs.Common.{◌≡◌, ℕ, zero, suc, ◌+◌, ◌-◌, ◌<◌, ◌≤◌, Bool, true, false, List, [], ◌∷◌, length, map, take, drop, get_or, cond, refl, sym, ◌∙◌, ap, inl, inr, arith}
use Rattle.std.specs.Prelude.{nat_lt, ◌==◌, slice_range}
use Rattle.std.specs.List.{AllByRecursion, filter, prefix_len}
use Rattle.std.specs.List.Sorted.{IsNonDecreasingBy, IsPartitionPoint}
use Rattle.std.proofs.lemmas.Bool.{cases_lt, cases_eq, lt-ltb, ltb-true, eq-eqb, ne_eqb, true≢false}
use Rattle.world_laws.proofs.Filters.{each_weaker}

-- the place where a list that a test parts goes over is as long as its first part
pub parted_at : {X : Type 0} (p : X → Bool) (xs : List X) (i : ℕ) → i ≤ length xs → IsPartitionPoint (λ x. p x ≡ true) (λ x. p x ≡ false) xs i → i ≡ prefix_len p xs
parted_at p [] i le h = omega (arith, le)
parted_at p (x ∷ xs) zero le h = let e : p x ≡ false = h.1 zero x (omega arith) (omega arith) in rw e refl
parted_at p (x ∷ xs) (suc i) le h =
    let e : p x ≡ true = h.0 zero x (omega arith) (omega arith) in
    let more = parted_at p xs i (omega (arith, le)) (λ k d low high. h.0 (suc k) d (omega arith) (omega (arith, high)), λ k d low high. h.1 (suc k) d (omega (arith, low)) (omega (arith, high))) in
    rw e (omega (arith, more))

pub prefix-le-length : {X : Type 0} (p : X → Bool) (xs : List X) → prefix_len p xs ≤ length xs
prefix-le-length p [] = omega arith
prefix-le-length p (x ∷ xs) = by (p x) (prefix-le-length p xs)
  where
    by : (t : Bool) → prefix_len p xs ≤ length xs → cond t (1 + prefix_len p xs) 0 ≤ length (x ∷ xs)
    by true h = omega (arith, h)
    by false h = omega arith

-- of a test that more items pass it is as long at least
pub prefix_weaker : {X : Type 0} (p q : X → Bool) → ((x : X) → p x ≡ true → q x ≡ true) → (xs : List X) → prefix_len p xs ≤ prefix_len q xs
prefix_weaker p q more [] = omega arith
prefix_weaker p q more (x ∷ xs) = by (p x) (q x) (more x) (prefix_weaker p q more xs)
  where
    by : (s t : Bool) → (s ≡ true → t ≡ true) → prefix_len p xs ≤ prefix_len q xs → cond s (1 + prefix_len p xs) 0 ≤ cond t (1 + prefix_len q xs) 0
    by true true k h = omega (arith, h)
    by true false k h = absurd (true≢false (sym (k refl)))
    by false t k h = omega arith

module _ {X : Type 0} (key : X → ℕ) where
  -- keys that do not fall
  abbrev pub Climbs : List X → Type 0
  Climbs [] = 0 ≤ 0
  Climbs (x ∷ xs) = AllByRecursion (λ y. key x ≤ key y) xs × Climbs xs

  each_at : (b : ℕ) (xs : List X) → AllByRecursion (λ y. b ≤ key y) xs → (k : ℕ) (d : X) → k < length xs → b ≤ key (get_or xs k d)
  each_at b [] h k d lt = absurd (omega (arith, lt))
  each_at b (x ∷ xs) h zero d lt = h.0
  each_at b (x ∷ xs) h (suc k) d lt = each_at b xs h.1 k d (omega (arith, lt))

  pub climbs_by : (xs : List X) → Climbs xs → IsNonDecreasingBy key xs
  climbs_by [] h i j d le lt = absurd (omega (arith, lt))
  climbs_by (x ∷ xs) h zero zero d le lt = omega arith
  climbs_by (x ∷ xs) h zero (suc j) d le lt = each_at (key x) xs h.0 j d (omega (arith, lt))
  climbs_by (x ∷ xs) h (suc i) zero d le lt = absurd (omega (arith, le))
  climbs_by (x ∷ xs) h (suc i) (suc j) d le lt = climbs_by xs h.1 i j d (omega (arith, le)) (omega (arith, lt))

  -- none comes before what is no more than the first
  none_before : (v : ℕ) (xs : List X) → AllByRecursion (λ y. v ≤ key y) xs → prefix_len (λ y. nat_lt (key y) v) xs ≡ 0
  none_before v [] h = refl
  none_before v (x ∷ xs) h = elim (cases_lt (key x) v) [
    | inl lt ↦ absurd (omega (arith, lt, h.0))
    | inr ge ↦ let e : nat_lt (key x) v ≡ false = not_less (key x) v ge in rw e refl
  ]
    where
      not_less : (a b : ℕ) → b ≤ a → nat_lt a b ≡ false
      not_less a b ge = by (nat_lt a b) refl
        where
          by : (t : Bool) → nat_lt a b ≡ t → t ≡ false
          by true e = absurd (let lt = ltb-true a b e in omega (arith, lt, ge))
          by false e = refl

  none_equal : (v : ℕ) (xs : List X) → AllByRecursion (λ y. v < key y) xs → filter (λ y. key y == v) xs ≡ []
  none_equal v [] h = refl
  none_equal v (x ∷ xs) h = let e : (key x == v) ≡ false = ne_eqb (key x) v (λ same. (let more = h.0 in omega (arith, more, same))) in rw e (none_equal v xs h.1)

  one : (a : ℕ) → 1 + a ≡ suc a
  one a = omega arith

  -- a part that begins behind the first item
  part_behind : (y : ℕ) (ys : List ℕ) (a b : ℕ) → slice_range (y ∷ ys) (1 + a) (1 + b) ≡ slice_range ys a b
  part_behind y ys a b = (λ i. slice_range (y ∷ ys) (one a i) (one b i)) ∙ ap (λ k. take k (drop a ys)) (less a b)
    where
      less : (a b : ℕ) → suc b - suc a ≡ b - a
      less a b = omega arith

  -- and one that begins with it
  part_first : (y : ℕ) (ys : List ℕ) (b : ℕ) → slice_range (y ∷ ys) 0 (1 + b) ≡ y ∷ slice_range ys 0 b
  part_first y ys b = ap (λ k. take k (y ∷ ys)) (all b) ∙ ap (λ k. y ∷ take k ys) (same b)
    where
      all : (b : ℕ) → 1 + b - 0 ≡ suc b
      all b = omega arith

      same : (b : ℕ) → b ≡ b - 0
      same b = omega arith

  -- the images of those with a key are the part between the place of the key and that of the next
  pub part_of_key : (f : X → ℕ) (v : ℕ) (xs : List X) → Climbs xs
      → slice_range (map f xs) (prefix_len (λ y. nat_lt (key y) v) xs) (prefix_len (λ y. nat_lt (key y) (v + 1)) xs) ≡ map f (filter (λ y. key y == v) xs)
  part_of_key f v [] h = refl
  part_of_key f v (x ∷ xs) h = elim (cases_lt (key x) v) [
    | inl lt ↦
        let a : nat_lt (key x) v ≡ true = lt-ltb (key x) v lt in
        let b : nat_lt (key x) (v + 1) ≡ true = lt-ltb (key x) (v + 1) (omega (arith, lt)) in
        let e : (key x == v) ≡ false = ne_eqb (key x) v (λ same. omega (arith, lt, same)) in
        rw (a, b, e) (part_behind (f x) (map f xs) (prefix_len (λ y. nat_lt (key y) v) xs) (prefix_len (λ y. nat_lt (key y) (v + 1)) xs) ∙ part_of_key f v xs h.1)
    | inr ge ↦ elim (cases_eq (key x) v) [
      | inl same ↦
          let a : nat_lt (key x) v ≡ false = not_less (key x) v ge in
          let b : nat_lt (key x) (v + 1) ≡ true = lt-ltb (key x) (v + 1) (omega (arith, same)) in
          let e : (key x == v) ≡ true = eq-eqb (key x) v same in
          let none : prefix_len (λ y. nat_lt (key y) v) xs ≡ 0 = none_before v xs (each_weaker (λ y. key x ≤ key y) (λ y. v ≤ key y) (λ y k. omega (arith, k, same)) xs h.0) in
          rw (a, b, e) (part_first (f x) (map f xs) (prefix_len (λ y. nat_lt (key y) (v + 1)) xs) ∙ ap (λ ys. f x ∷ ys) (sym (ap (λ k. slice_range (map f xs) k (prefix_len (λ y. nat_lt (key y) (v + 1)) xs)) none) ∙ part_of_key f v xs h.1))
      | inr ne ↦
          let more : v < key x = omega (arith, ge, ne) in
          let a : nat_lt (key x) v ≡ false = not_less (key x) v ge in
          let b : nat_lt (key x) (v + 1) ≡ false = not_less (key x) (v + 1) (omega (arith, more)) in
          let e : (key x == v) ≡ false = ne_eqb (key x) v ne in
          rw (a, b, e) (sym (ap (map f) (none_equal v xs (each_weaker (λ y. key x ≤ key y) (λ y. v < key y) (λ y k. omega (arith, k, more)) xs h.0))))
    ]
  ]
    where
      not_less : (a b : ℕ) → b ≤ a → nat_lt a b ≡ false
      not_less a b le = by (nat_lt a b) refl
        where
          by : (t : Bool) → nat_lt a b ≡ t → t ≡ false
          by true e = absurd (let lt = ltb-true a b e in omega (arith, lt, le))
          by false e = refl
