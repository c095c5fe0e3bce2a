-- Buckets after a call, from the fields after it.
use Rattle.std.proofs.Common.{◌≡◌, ◌≢◌, ℕ, zero, suc, ◌<◌, ◌≤◌, min, eqb, List, [], ◌∷◌, Some, length, map, replicate, refl, sym, ap, ◌∙◌, subst, inl, inr, arith}
use Rattle.std.proofs.lemmas.Bool.{cases_lt}
use Rattle.std.proofs.lemmas.List.{length-map, length-replicate, get_or-replicate, get_or-set_other, get_or_past}
use Rattle.std.proofs.lemmas.List.Sums.{sum_by-cons}
use Rattle.std.specs.Prelude.{slice_get}
use Rattle.link_chain.specs.declared.item_buckets.Place.{Place}
use Rattle.link_chain.specs.Buckets.{bucket_at, count_of, how_often, take_out, put_first}
use Rattle.link_chain.specs.Indexes.{nowhere}
use Rattle.link_chain.specs.FirstsAndPlaces.{first_at, place_at, buckets_of, IsRun, AreBuckets, IsLeast, unlinked_places, unlinked_firsts, linked_places, linked_firsts}
use Rattle.link_chain.proofs.BucketLaws.{bucket_at-take}
use Rattle.link_chain.proofs.BucketRuns.{buckets_are, member, count_gone}
use Rattle.link_chain.proofs.BucketMoves.{unlinked, linked, starts, not_empty, apart, firsts_other}

pub record IsMade (firsts : List ℕ) (places : List Place) (want : List (List ℕ)) : Type 0 where
  pub buckets : AreBuckets firsts places (buckets_of firsts places)
  pub lists : buckets_of firsts places ≡ want

made : (firsts : List ℕ) (places : List Place) (want : List (List ℕ)) → AreBuckets firsts places want → IsMade firsts places want
made firsts places want buckets =
    let e = buckets_are firsts places want buckets in
    record { buckets = subst (AreBuckets firsts places) (sym e) buckets; lists = e }

none_in_empty : (n k z : ℕ) → count_of z (bucket_at (replicate n []) k) ≡ 0
none_in_empty zero k z = refl
none_in_empty (suc n) zero z = refl
none_in_empty (suc n) (suc k) z = none_in_empty n k z

pub empty_is : (firsts : List ℕ) (places : List Place) (n : ℕ) → firsts ≡ replicate n nowhere → length places ≤ nowhere → IsMade firsts places (replicate n [])
empty_is firsts places n e few =
    made firsts places (replicate n []) (subst (λ (fs : List ℕ). AreBuckets fs places (replicate n [])) (sym e) (record {
      few = few;
      same = length-replicate n [] ∙ sym (length-replicate n nowhere);
      once = λ b z. omega (arith, none_in_empty n b z);
      runs = λ b lt. let h : b < n = omega (arith, lt, length-replicate n nowhere) in
          rw (get_or-replicate n b nowhere nowhere h, get_or-replicate {A = List ℕ} n b [] [] h) refl;
    }))

pub empty_least : (firsts : List ℕ) (n : ℕ) → firsts ≡ replicate n nowhere → IsLeast firsts n
empty_least firsts n e = subst (λ (fs : List ℕ). IsLeast fs n) (sym e) (record {
  within = omega (arith, length-replicate n nowhere);
  below = λ b lt. get_or-replicate n b nowhere nowhere lt;
  some = λ lt. absurd (omega (arith, lt, length-replicate n nowhere));
})

none_at : (i : ℕ) (lists : List (List ℕ)) → how_often i lists ≡ 0 → (k : ℕ) → count_of i (bucket_at lists k) ≡ 0
none_at i [] none k = refl
none_at i (xs ∷ xss) none zero = omega (arith, none, sum_by-cons (count_of i) xs xss)
none_at i (xs ∷ xss) none (suc k) = none_at i xss (omega (arith, none, sum_by-cons (count_of i) xs xss)) k

pub record Found (i : ℕ) (lists : List (List ℕ)) : Type 0 where
  pub bucket : ℕ
  pub within : bucket < length lists
  pub here : 0 < count_of i (bucket_at lists bucket)

pub found : (i : ℕ) (lists : List (List ℕ)) → 0 < how_often i lists → Found i lists
found i [] some = absurd (omega (arith, some))
found i (xs ∷ xss) some = elim (cases_lt 0 (count_of i xs)) [
  | inl here ↦ record { bucket = zero; within = omega arith; here = here }
  | inr none ↦
      let f = found i xss (omega (arith, some, none, sum_by-cons (count_of i) xs xss)) in
      record { bucket = suc f.bucket; within = omega (arith, f.within); here = f.here }
]

pub put_is : (firsts fs : List ℕ) (places ps : List Place) (now : List (List ℕ)) (i b : ℕ) → buckets_of firsts places ≡ now → AreBuckets firsts places (buckets_of firsts places)
    → i < length places → b < length now → how_often i now ≡ 0 → fs ≡ linked_firsts firsts i b → ps ≡ linked_places firsts places i b → IsMade fs ps (put_first i b now)
put_is firsts fs places ps now i b e buckets it lt none fs_is ps_is =
    let here = subst (AreBuckets firsts places) e buckets in
    made fs ps (put_first i b now)
    (subst (λ (xs : List ℕ). AreBuckets xs ps (put_first i b now)) (sym fs_is)
    (subst (λ (xs : List Place). AreBuckets (linked_firsts firsts i b) xs (put_first i b now)) (sym ps_is)
    (linked firsts places now i b here (omega (arith, lt, here.same)) it (none_at i now none))))

out : (firsts fs : List ℕ) (places ps : List Place) (now : List (List ℕ)) (i : ℕ) → AreBuckets firsts places now
    → 0 < how_often i now → fs ≡ unlinked_firsts firsts places i → ps ≡ unlinked_places places i → AreBuckets fs ps (map (take_out i) now)
out firsts fs places ps now i here some fs_is ps_is =
    let f = found i now some in
    subst (λ (xs : List ℕ). AreBuckets xs ps (map (take_out i) now)) (sym fs_is)
    (subst (λ (xs : List Place). AreBuckets (unlinked_firsts firsts places i) xs (map (take_out i) now)) (sym ps_is)
    (unlinked firsts places now i f.bucket here (omega (arith, f.within, here.same)) f.here))

pub take_is : (firsts fs : List ℕ) (places ps : List Place) (now : List (List ℕ)) (i : ℕ) → buckets_of firsts places ≡ now → AreBuckets firsts places (buckets_of firsts places)
    → 0 < how_often i now → fs ≡ unlinked_firsts firsts places i → ps ≡ unlinked_places places i → IsMade fs ps (map (take_out i) now)
take_is firsts fs places ps now i e buckets some fs_is ps_is =
    made fs ps (map (take_out i) now) (out firsts fs places ps now i (subst (AreBuckets firsts places) e buckets) some fs_is ps_is)

pub move_is : (firsts mid fs : List ℕ) (places half ps : List Place) (now : List (List ℕ)) (i b : ℕ) → buckets_of firsts places ≡ now → AreBuckets firsts places (buckets_of firsts places)
    → i < length places → b < length now → 0 < how_often i now → mid ≡ unlinked_firsts firsts places i → half ≡ unlinked_places places i
    → length half ≡ length places → fs ≡ linked_firsts mid i b → ps ≡ linked_places mid half i b → IsMade fs ps (put_first i b (map (take_out i) now))
move_is firsts mid fs places half ps now i b e buckets it lt some mid_is half_is len fs_is ps_is =
    let here : AreBuckets mid half (map (take_out i) now) = out firsts mid places half now i (subst (AreBuckets firsts places) e buckets) some mid_is half_is in
    let base = linked mid half (map (take_out i) now) i b here (omega (arith, lt, here.same, length-map now (take_out i))) (omega (arith, it, len))
    (λ k. ap (count_of i) (bucket_at-take i now k) ∙ count_gone i (bucket_at now k)) in
    made fs ps (put_first i b (map (take_out i) now))
    (subst (λ (xs : List ℕ). AreBuckets xs ps (put_first i b (map (take_out i) now))) (sym fs_is)
    (subst (λ (xs : List Place). AreBuckets (linked_firsts mid i b) xs (put_first i b (map (take_out i) now))) (sym ps_is) base))

-- the bucket that an item's place names
pub bucket_is : (firsts : List ℕ) (places : List Place) (now : List (List ℕ)) (i : ℕ) → buckets_of firsts places ≡ now → AreBuckets firsts places (buckets_of firsts places)
    → 0 < how_often i now → (place_at places i).bucket < length firsts
bucket_is firsts places now i e buckets some =
    let here = subst (AreBuckets firsts places) e buckets in
    let f = found i now some in
    let lt : f.bucket < length firsts = omega (arith, f.within, here.same) in
    omega (arith, lt, (member places f.bucket nowhere (first_at firsts f.bucket) i (bucket_at now f.bucket) (here.runs f.bucket lt) f.here).1)

-- the buckets below the lowest one stay empty
pub below_is : (firsts fs : List ℕ) (places : List Place) (now : List (List ℕ)) (i low : ℕ) → buckets_of firsts places ≡ now → AreBuckets firsts places (buckets_of firsts places)
    → 0 < how_often i now → IsLeast firsts low → fs ≡ unlinked_firsts firsts places i → (k : ℕ) → k < low → first_at fs k ≡ nowhere
below_is firsts fs places now i low e buckets some least fs_is k lt =
    let here = subst (AreBuckets firsts places) e buckets in
    let f = found i now some in
    let ft : f.bucket < length firsts = omega (arith, f.within, here.same) in
    let w = here.runs f.bucket ft in
    let bucket = (member places f.bucket nowhere (first_at firsts f.bucket) i (bucket_at now f.bucket) w f.here).1 in
    let full = not_empty places f.bucket nowhere (first_at firsts f.bucket) i (bucket_at now f.bucket) here.few w f.here in
    let ne : k ≢ (place_at places i).bucket = λ same. absurd (full (subst (λ (m : ℕ). first_at firsts m ≡ nowhere) (same ∙ bucket) (least.below k lt))) in
    ap (λ (xs : List ℕ). first_at xs k) fs_is
    ∙ firsts_other (eqb (place_at places i).before nowhere) firsts (place_at places i).bucket (place_at places i).after k ne
    ∙ least.below k lt

pub below_move : (firsts mid fs : List ℕ) (places : List Place) (now : List (List ℕ)) (i b low : ℕ) → buckets_of firsts places ≡ now → AreBuckets firsts places (buckets_of firsts places)
    → 0 < how_often i now → IsLeast firsts low → mid ≡ unlinked_firsts firsts places i → fs ≡ linked_firsts mid i b → (k : ℕ) → k < min low b → first_at fs k ≡ nowhere
below_move firsts mid fs places now i b low e buckets some least mid_is fs_is k lt =
    ap (λ (xs : List ℕ). first_at xs k) fs_is
    ∙ get_or-set_other mid b k i nowhere (λ same. absurd (omega (arith, same, lt)))
    ∙ below_is firsts mid places now i low e buckets some least mid_is k (omega (arith, lt))

nothing_in : (places : List Place) (b before f : ℕ) (xs : List ℕ) → length places ≤ nowhere → IsRun places b before f xs → f ≡ nowhere → xs ≡ []
nothing_in places b before f [] few w e = refl
nothing_in places b before f (y ∷ ys) few w e = absurd (omega (arith, w.0.within, few, e))

-- where the first item of a bucket is nowhere, the bucket is empty
pub empty_at : (firsts : List ℕ) (places : List Place) (now : List (List ℕ)) (b : ℕ) → buckets_of firsts places ≡ now → AreBuckets firsts places (buckets_of firsts places)
    → first_at firsts b ≡ nowhere → bucket_at now b ≡ []
empty_at firsts places now b e buckets none =
    let here = subst (AreBuckets firsts places) e buckets in
    elim (cases_lt b (length firsts)) [
      | inl lt ↦ nothing_in places b nowhere (first_at firsts b) (bucket_at now b) here.few (here.runs b lt) none
      | inr ge ↦ get_or_past now b [] (omega (arith, ge, here.same))
    ]

pub least_in : (firsts : List ℕ) (places : List Place) (now : List (List ℕ)) (low : ℕ) → buckets_of firsts places ≡ now → AreBuckets firsts places (buckets_of firsts places)
    → IsLeast firsts low → low < length firsts → first_at firsts low < length places
least_in firsts places now low e buckets least lt =
    let here = subst (AreBuckets firsts places) e buckets in
    let w = here.runs low lt in
    elim (starts places low nowhere (first_at firsts low) (bucket_at now low) w) [
      | inl none ↦ absurd (least.some lt none)
      | inr some ↦ (member places low nowhere (first_at firsts low) (first_at firsts low) (bucket_at now low) w some).0
    ]

-- the first item of the lowest bucket is where its list begins
pub first_is : (firsts : List ℕ) (places : List Place) (now : List (List ℕ)) (low item : ℕ) → buckets_of firsts places ≡ now → AreBuckets firsts places (buckets_of firsts places)
    → IsLeast firsts low → low < length firsts → item ≡ first_at firsts low → slice_get (bucket_at now low) 0 ≡ Some item
first_is firsts places now low item e buckets least lt item_is =
    let here = subst (AreBuckets firsts places) e buckets in
    begins places low nowhere (first_at firsts low) item (bucket_at now low) (here.runs low lt) (least.some lt) item_is
  where
    begins : (places : List Place) (b before f item : ℕ) (xs : List ℕ) → IsRun places b before f xs → f ≢ nowhere → item ≡ f → slice_get xs 0 ≡ Some item
    begins places b before f item [] w ne e = absurd (ne w)
    begins places b before f item (x ∷ xs) w ne e = ap Some (w.0.here ∙ sym e)

none_sum : (z : ℕ) (lists : List (List ℕ)) → ((k : ℕ) → k < length lists → count_of z (bucket_at lists k) ≡ 0) → how_often z lists ≡ 0
none_sum z [] none = refl
none_sum z (xs ∷ xss) none = omega (arith, sum_by-cons (count_of z) xs xss, none zero (omega arith), none_sum z xss (λ k lt. none (suc k) (omega (arith, lt))))

sum_once : (z : ℕ) (lists : List (List ℕ)) → ((b k : ℕ) → b < length lists → k < length lists → 0 < count_of z (bucket_at lists b) → 0 < count_of z (bucket_at lists k) → b ≡ k)
    → ((b : ℕ) → count_of z (bucket_at lists b) ≤ 1) → how_often z lists ≤ 1
sum_once z [] apart once = omega arith
sum_once z (xs ∷ xss) apart once = elim (cases_lt 0 (count_of z xs)) [
  | inl some ↦ omega (
    arith,
    sum_by-cons (count_of z) xs xss,
    once zero,
    none_sum z xss (λ k lt. elim (cases_lt 0 (count_of z (bucket_at xss k))) [
      | inl both ↦ absurd (omega (arith, apart zero (suc k) (omega arith) (omega (arith, lt)) some both))
      | inr none ↦ omega (arith, none)
    ]),
  )
  | inr none ↦ omega (
    arith,
    none,
    sum_by-cons (count_of z) xs xss,
    sum_once z xss (λ b k lt kt here there. omega (arith, apart (suc b) (suc k) (omega (arith, lt)) (omega (arith, kt)) here there)) (λ b. once (suc b)),
  )
]

pub once_is : (firsts : List ℕ) (places : List Place) (now : List (List ℕ)) → buckets_of firsts places ≡ now → AreBuckets firsts places (buckets_of firsts places)
    → (z : ℕ) → how_often z now ≤ 1
once_is firsts places now e buckets z =
    let here = subst (AreBuckets firsts places) e buckets in
    sum_once z now (λ b k lt kt some more. apart firsts places now z b k here (omega (arith, lt, here.same)) (omega (arith, kt, here.same)) some more) (λ b. here.once b z)

-- where no bucket has a first item, all are empty
pub all_empty : (firsts : List ℕ) (places : List Place) (now : List (List ℕ)) (low : ℕ) → buckets_of firsts places ≡ now → AreBuckets firsts places (buckets_of firsts places)
    → IsLeast firsts low → length firsts ≤ low → (b : ℕ) → bucket_at now b ≡ []
all_empty firsts places now low e buckets least ge b =
    let here = subst (AreBuckets firsts places) e buckets in
    elim (cases_lt b low) [
      | inl lt ↦ empty_at firsts places now b e buckets (least.below b lt)
      | inr above ↦ get_or_past now b [] (omega (arith, ge, above, here.same))
    ]
