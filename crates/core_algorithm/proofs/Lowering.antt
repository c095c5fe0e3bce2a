-- A node moves to the bucket below.
use Rattle.std.proofs.Common.{◌≡◌, ℕ, ◌+◌, ◌<◌, ◌≤◌, Bool, true, false, cond, eqb, List, [], ◌∷◌, ◌++◌, length, map, set, take, drop, get_or, refl, sym, ap, ◌∙◌, subst, inl, inr, arith}
use Rattle.std.proofs.lemmas.Bool.{cases_eq, eq-eqb, ne_eqb}
use Rattle.std.proofs.lemmas.List.{length-set, length-map, get_or-set_same, get_or-set_other, take_more, take-append-drop}
use Rattle.std.proofs.lemmas.List.Sums.{get_or-le-sum_by}
use Rattle.link_chain.specs.Buckets.{BucketLists, bucket_at, count_of, how_often, take_out, put_first}
use Rattle.link_chain.proofs.BucketLaws.{bucket_at-take, count_of-take}
use Rattle.core_algorithm.specs.Peeled.{is_left, degree_of, shelf_count, AreShelved}
use Rattle.core_algorithm.proofs.OnePeeled.{left_in}

-- how often an item stands in a bucket after a move
pub count_moved : (i v d b : ℕ) (lists : List (List ℕ)) → d < length lists
    → count_of v (bucket_at (put_first i d (map (take_out i) lists)) b) ≡ cond (eqb i v) (cond (eqb d b) 1 0) (count_of v (bucket_at lists b))
count_moved i v d b lists lt =
    let ys = map (take_out i) lists in
    let mt : d < length ys = omega (arith, lt, length-map lists (take_out i)) in
    let at = ap (count_of v) (bucket_at-take i lists b) ∙ count_of-take v i (bucket_at lists b) in
    elim (cases_eq b d) [
      | inl same ↦
          let e : bucket_at (put_first i d ys) b ≡ i ∷ bucket_at ys b =
          subst (λ (m : ℕ). bucket_at (put_first i d ys) m ≡ i ∷ bucket_at ys m) (sym same) (get_or-set_same ys d (i ∷ bucket_at ys d) [] mt) in
          let g : eqb d b ≡ true = eq-eqb d b (sym same) in
          rw (e, g) (first_of (eqb i v) (count_of v (bucket_at ys b)) (count_of v (bucket_at lists b)) at)
      | inr ne ↦
          let e : bucket_at (put_first i d ys) b ≡ bucket_at ys b = get_or-set_other ys d b (i ∷ bucket_at ys d) [] ne in
          let g : eqb d b ≡ false = ne_eqb d b (λ same. ne (sym same)) in
          rw (e, g) at
    ]
  where
    first_of : (t : Bool) (m n : ℕ) → m ≡ cond t 0 n → cond t 1 0 + m ≡ cond t 1 n
    first_of true m n h = omega (arith, h)
    first_of false m n h = omega (arith, h)

pub stands : (buckets : BucketLists) (left : List Bool) (degrees : List ℕ) (i : ℕ) → AreShelved buckets left degrees → is_left left i ≡ true → 0 < how_often i buckets.lists
stands buckets left degrees i shelved here =
    let d = degree_of degrees i in
    let one : shelf_count left degrees i d ≡ 1 = rw (here, eq-eqb d d refl) refl in
    omega (arith, get_or-le-sum_by (count_of i) buckets.lists d [] (omega (arith, shelved.small i here, shelved.shelves)), shelved.count i d, one)

pub lowered : (old new : BucketLists) (left : List Bool) (degrees : List ℕ) (i d : ℕ) → AreShelved old left degrees → is_left left i ≡ true → d < degree_of degrees i
    → new.items ≡ old.items → new.lists ≡ put_first i d (map (take_out i) old.lists) → AreShelved new left (set degrees i d)
lowered old new left degrees i d shelved here lt items_is lists_is =
    let it : i < length degrees = omega (arith, left_in left i here, shelved.lengths) in
    let dt : d < length old.lists = omega (arith, lt, shelved.small i here, shelved.shelves) in
    record {
      items = items_is ∙ shelved.items;
      shelves = ap length lists_is ∙ length-set (map (take_out i) old.lists) d (i ∷ bucket_at (map (take_out i) old.lists) d) ∙ length-map old.lists (take_out i) ∙ shelved.shelves;
      lengths = length-set degrees i d ∙ shelved.lengths;
      small = λ v e. elim (cases_eq v i) [
        | inl same ↦ subst (λ (m : ℕ). degree_of (set degrees i d) m < length left) (sym same)
            (rw (get_or-set_same degrees i d 0 it) (omega (arith, dt, shelved.shelves)))
        | inr ne ↦ rw (get_or-set_other degrees i v d 0 ne) (shelved.small v e)
      ];
      count = λ v b. ap (λ (xs : List (List ℕ)). count_of v (bucket_at xs b)) lists_is ∙ count_moved i v d b old.lists dt ∙ elim (cases_eq v i) [
        | inl same ↦
            let g : eqb i v ≡ true = eq-eqb i v (sym same) in
            let h : is_left left v ≡ true = ap (is_left left) same ∙ here in
            let k : degree_of (set degrees i d) v ≡ d = ap (degree_of (set degrees i d)) same ∙ get_or-set_same degrees i d 0 it in
            rw (g, h, k) refl
        | inr ne ↦
            let g : eqb i v ≡ false = ne_eqb i v (λ same. ne (sym same)) in
            let k : degree_of (set degrees i d) v ≡ degree_of degrees v = get_or-set_other degrees i v d 0 ne in
            rw (g, k) (shelved.count v b)
      ];
    }

pub degree_is : (degrees : List ℕ) (i d v : ℕ) → i < length degrees → d + 1 ≡ degree_of degrees i → degree_of (set degrees i d) v + cond (eqb i v) 1 0 ≡ degree_of degrees v
degree_is degrees i d v it e = elim (cases_eq v i) [
  | inl same ↦
      let g : eqb i v ≡ true = eq-eqb i v (sym same) in
      let k : degree_of (set degrees i d) v ≡ d = ap (degree_of (set degrees i d)) same ∙ get_or-set_same degrees i d 0 it in
      rw (g, k) (e ∙ ap (degree_of degrees) (sym same))
  | inr ne ↦
      let g : eqb i v ≡ false = ne_eqb i v (λ same. ne (sym same)) in
      rw (g, get_or-set_other degrees i v d 0 ne) (omega arith)
]

pub count_append : (z : ℕ) (xs ys : List ℕ) → count_of z (xs ++ ys) ≡ count_of z xs + count_of z ys
count_append z [] ys = omega arith
count_append z (x ∷ xs) ys = omega (arith, count_append z xs ys)

pub count_more : (z : ℕ) (xs : List ℕ) (i : ℕ) → i < length xs → count_of z (take (i + 1) xs) ≡ count_of z (take i xs) + cond (eqb (get_or xs i 0) z) 1 0
count_more z xs i lt = ap (count_of z) (take_more xs i 0 lt) ∙ count_append z (take i xs) (get_or xs i 0 ∷ []) ∙ omega arith

pub count_take : (z : ℕ) (xs : List ℕ) (i : ℕ) → count_of z (take i xs) ≤ count_of z xs
count_take z xs i = omega (arith, ap (count_of z) (take-append-drop i xs), count_append z (take i xs) (drop i xs))

pub if_same : (u : ℕ) → ◌≡◌ {A = ℕ} (cond (eqb u u) 1 0) 1
if_same u = rw (eq-eqb u u refl) refl
