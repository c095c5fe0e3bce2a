-- What the least bucket says, and how a peeling begins and ends.
use Rattle.std.proofs.Common.{◌≡◌, ℕ, zero, suc, ◌<◌, ◌≤◌, Bool, true, false, cond, eqb, List, [], ◌∷◌, length, set, get_or, sum_by, refl, sym, ap, ◌∙◌, inl, inr, arith}
use Rattle.std.proofs.lemmas.Bool.{cases_eq, cases_lt, eq-eqb, ne_eqb}
use Rattle.std.proofs.lemmas.List.Sums.{sum_by-set}
use Rattle.link_chain.specs.Buckets.{BucketLists, bucket_at, count_of}
use Rattle.std.specs.Prelude.{slice_get, Some}
use Rattle.link_chain.proofs.BucketLaws.{count_of-first}
use Rattle.present_links.specs.Adjacent.{row_at}
use Rattle.core_algorithm.specs.Peeled.{how_many, is_left, degree_of, shelf_count, IsGreatest, AreShelved, IsGraph, IsState}
use Rattle.core_algorithm.proofs.OnePeeled.{left_in}

told : (l : Bool) (m d : ℕ) → 0 < cond l (cond (eqb m d) 1 0) 0 → (l ≡ true) × (m ≡ d)
told true m d some = elim (cases_eq m d) [
  | inl same ↦ (refl, same)
  | inr ne ↦ absurd (let f = ne_eqb m d ne in not_zero (eqb m d) f some)
]
  where
    not_zero : (t : Bool) → t ≡ false → 0 < cond t 1 0 → ⊥
    not_zero true e some = cc
    not_zero false e some = omega (arith, some)
told false m d some = absurd (omega (arith, some))

pub least_is : (buckets : BucketLists) (left : List Bool) (degrees : List ℕ) (v d : ℕ) → AreShelved buckets left degrees → slice_get (bucket_at buckets.lists d) 0 ≡ Some v → (is_left left v ≡ true) × (degree_of degrees v ≡ d)
least_is buckets left degrees v d shelved first =
    told (is_left left v) (degree_of degrees v) d (omega (arith, count_of-first (bucket_at buckets.lists d) v first, shelved.count v d))

one : (left : List Bool) (degrees : List ℕ) (u : ℕ) → is_left left u ≡ true → shelf_count left degrees u (degree_of degrees u) ≡ 1
one left degrees u e = rw (e, eq-eqb (degree_of degrees u) (degree_of degrees u) refl) refl

pub least_of : (buckets : BucketLists) (left : List Bool) (degrees : List ℕ) (d : ℕ) → AreShelved buckets left degrees → ((b : ℕ) → b < d → bucket_at buckets.lists b ≡ [])
    → (u : ℕ) → is_left left u ≡ true → d ≤ degree_of degrees u
least_of buckets left degrees d shelved below u e = elim (cases_lt (degree_of degrees u) d) [
  | inl lt ↦ absurd (omega (arith, one left degrees u e, shelved.count u (degree_of degrees u), ap (count_of u) (below (degree_of degrees u) lt)))
  | inr ge ↦ ge
]

not_left : (buckets : BucketLists) (left : List Bool) (degrees : List ℕ) → AreShelved buckets left degrees → ((b : ℕ) → bucket_at buckets.lists b ≡ [])
    → (u : ℕ) (t : Bool) → is_left left u ≡ t → t ≡ false
not_left buckets left degrees shelved empty u true e =
    absurd (omega (arith, one left degrees u e, shelved.count u (degree_of degrees u), ap (count_of u) (empty (degree_of degrees u))))
not_left buckets left degrees shelved empty u false e = refl

pub all_done : (rows : List (List ℕ)) (buckets : BucketLists) (left : List Bool) (degrees : List ℕ) (level : ℕ) (numbers : List ℕ) → IsState rows buckets left degrees level numbers
    → ((b : ℕ) → bucket_at buckets.lists b ≡ []) → (v : ℕ) → v < length rows → IsGreatest rows v (get_or numbers v 0)
all_done rows buckets left degrees level numbers state empty v lt =
    state.peeled.done v lt (not_left buckets left degrees state.shelved empty v (is_left left v) refl)

-- how many nodes are left
abbrev pub left_count : List Bool → ℕ
left_count left = sum_by (λ b. cond b 1 0) left

pub one_less : (left more : List Bool) (v : ℕ) → is_left left v ≡ true → more ≡ set left v false → left_count more < left_count left
one_less left more v here e =
    let s = sum_by-set (λ b. cond b 1 0) left v false false (left_in left v here) in
    let h : ◌≡◌ {A = ℕ} (cond (get_or left v false) 1 0) 1 = rw here refl in
    omega (arith, s, h, ap left_count e)

how_many_all : (test : ℕ → Bool) (xs : List ℕ) → ((k : ℕ) → k < length xs → test (get_or xs k 0) ≡ true) → how_many test xs ≡ length xs
how_many_all test [] all = refl
how_many_all test (x ∷ xs) all =
    let h : test x ≡ true = all zero (omega arith) in
    let ih = how_many_all test xs (λ k lt. all (suc k) (omega (arith, lt))) in
    rw h (omega (arith, ih))

pub state_begins : (rows : List (List ℕ)) (buckets : BucketLists) (left : List Bool) (degrees numbers : List ℕ) → IsGraph rows → AreShelved buckets left degrees → length left ≡ length rows → length numbers ≡ length rows
    → ((v : ℕ) → v < length rows → is_left left v ≡ true) → ((v : ℕ) → v < length rows → degree_of degrees v ≡ length (row_at rows v)) → IsState rows buckets left degrees 0 numbers
state_begins rows buckets left degrees numbers graph shelved len count all degree = record {
  shelved = shelved;
  peeled = record {
    lefts = len;
    count = count;
    wide = is_left left;
    is_set = λ v e. (omega (arith, left_in left v e, len), omega arith);
    has_left = λ v e. e;
    above = λ other j is_set lt v e. all v (is_set v e).0;
    done = λ v lt e. absurd (let f = all v lt in cc);
  };
  kept = λ v e. let lt : v < length rows = omega (arith, left_in left v e, len) in
      degree v lt ∙ sym (how_many_all (is_left left) (row_at rows v) (λ k kt. all (get_or (row_at rows v) k 0) (graph.within v k lt kt)));
}
