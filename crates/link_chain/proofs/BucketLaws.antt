-- Laws on the lists of buckets, for callers.
use Rattle.std.proofs.Common.{◌≡◌, ◌≢◌, ℕ, zero, suc, ◌+◌, ◌<◌, ◌≤◌, Bool, true, false, cond, eqb, List, [], ◌∷◌, Some, length, map, refl, sym, ap, ◌∙◌, inl, inr, arith}
use Rattle.std.proofs.lemmas.Bool.{cases_eq, eq-eqb, ne_eqb, eqb-true}
use Rattle.std.proofs.lemmas.List.{get_or-set_same, get_or-set_other}
use Rattle.std.proofs.lemmas.List.Sums.{sum_by-cons, sum_by-set}
use Rattle.std.specs.Prelude.{slice_get}
use Rattle.link_chain.specs.Buckets.{bucket_at, count_of, how_often, take_out, put_first}

-- an item that is first in a bucket stands in it
pub count_of-first : (xs : List ℕ) (item : ℕ) → slice_get xs 0 ≡ Some item → 0 < count_of item xs
count_of-first [] item first = absurd (let f = first in cc)
count_of-first (x ∷ xs) item first = let e : x ≡ item = (let f = first in cc) in rw (eq-eqb x item e) (omega arith)

-- what stands in no bucket stands nowhere
pub how_often-none : (item : ℕ) (lists : List (List ℕ)) → ((bucket : ℕ) → count_of item (bucket_at lists bucket) ≡ 0) → how_often item lists ≡ 0
how_often-none item [] none = refl
how_often-none item (xs ∷ xss) none = omega (arith, sum_by-cons (count_of item) xs xss, none zero, how_often-none item xss (λ bucket. none (suc bucket)))

-- what stands in a bucket stands somewhere
pub how_often-some : (item : ℕ) (lists : List (List ℕ)) (bucket : ℕ) → count_of item (bucket_at lists bucket) ≤ how_often item lists
how_often-some item [] bucket = omega arith
how_often-some item (xs ∷ xss) zero = omega (arith, sum_by-cons (count_of item) xs xss)
how_often-some item (xs ∷ xss) (suc bucket) = omega (arith, sum_by-cons (count_of item) xs xss, how_often-some item xss bucket)

-- the buckets after a put
pub bucket_at-put : (item bucket : ℕ) (lists : List (List ℕ)) → bucket < length lists → bucket_at (put_first item bucket lists) bucket ≡ item ∷ bucket_at lists bucket
bucket_at-put item bucket lists lt = get_or-set_same lists bucket (item ∷ bucket_at lists bucket) [] lt

pub bucket_at-put_other : (item bucket other : ℕ) (lists : List (List ℕ)) → other ≢ bucket → bucket_at (put_first item bucket lists) other ≡ bucket_at lists other
bucket_at-put_other item bucket other lists ne = get_or-set_other lists bucket other (item ∷ bucket_at lists bucket) [] ne

pub how_often-put : (z item bucket : ℕ) (lists : List (List ℕ)) → bucket < length lists → how_often z (put_first item bucket lists) ≡ how_often z lists + cond (eqb item z) 1 0
how_often-put z item bucket lists lt = omega (arith, sum_by-set (count_of z) lists bucket (item ∷ bucket_at lists bucket) [] lt)

-- the buckets after an item is taken out
pub bucket_at-take : (item : ℕ) (lists : List (List ℕ)) (bucket : ℕ) → bucket_at (map (take_out item) lists) bucket ≡ take_out item (bucket_at lists bucket)
bucket_at-take item [] bucket = refl
bucket_at-take item (xs ∷ xss) zero = refl
bucket_at-take item (xs ∷ xss) (suc bucket) = bucket_at-take item xss bucket

count_split : (z item x : ℕ) (xs : List ℕ) (b : Bool) → eqb x item ≡ b → count_of z (take_out item xs) ≡ cond (eqb item z) 0 (count_of z xs)
    → count_of z (cond b (take_out item xs) (x ∷ take_out item xs)) ≡ cond (eqb item z) 0 (cond (eqb x z) 1 0 + count_of z xs)
count_split z item x xs true e ih = rw (eqb-true x item e) (taken (eqb item z) (count_of z (take_out item xs)) (count_of z xs) ih)
  where
    taken : (t : Bool) (m n : ℕ) → m ≡ cond t 0 n → m ≡ cond t 0 (cond t 1 0 + n)
    taken true m n e = e
    taken false m n e = omega (arith, e)
count_split z item x xs false e ih = elim (cases_eq item z) [
  | inl same ↦
      let g : eqb item z ≡ true = eq-eqb item z same in
      let h : eqb x z ≡ false = sym (ap (eqb x) same) ∙ e in
      let i : count_of z (take_out item xs) ≡ 0 = ih ∙ rw g refl in
      rw (g, h) (omega (arith, i))
  | inr ne ↦
      let g : eqb item z ≡ false = ne_eqb item z ne in
      let i : count_of z (take_out item xs) ≡ count_of z xs = ih ∙ rw g refl in
      rw g (omega (arith, i))
]

-- an item that is taken out stands nowhere, and each other one as often as before
pub count_of-take : (z item : ℕ) (xs : List ℕ) → count_of z (take_out item xs) ≡ cond (eqb item z) 0 (count_of z xs)
count_of-take z item [] = none (eqb item z)
  where
    none : (t : Bool) → ◌≡◌ {A = ℕ} 0 (cond t 0 0)
    none true = refl
    none false = refl
count_of-take z item (x ∷ xs) = count_split z item x xs (eqb x item) refl (count_of-take z item xs)
