-- Runs of items, and what a few writes change of them.
use Rattle.std.proofs.Common.{◌≡◌, ◌≢◌, ℕ, zero, suc, ◌+◌, ◌<◌, ◌≤◌, Bool, true, false, cond, eqb, ltb, List, [], ◌∷◌, ◌++◌, length, refl, sym, ap, ◌∙◌, subst, arith}
use Rattle.std.proofs.lemmas.Bool.{lt-ltb, le-ltb, eqb-true, eq-eqb}
use Rattle.std.proofs.lemmas.List.{length-map, get_or-map, ext_get_or}
use Rattle.link_chain.proofs.BucketLaws.{count_of-take}
use Rattle.link_chain.specs.declared.item_buckets.Place.{Place}
use Rattle.link_chain.specs.Buckets.{bucket_at, count_of, take_out}
use Rattle.link_chain.specs.Indexes.{nowhere}
use Rattle.link_chain.specs.FirstsAndPlaces.{first_at, place_at, run, buckets_of, IsSpot, IsRun, AreBuckets}

pub count_front : (x : ℕ) (xs : List ℕ) → 0 < count_of x (x ∷ xs)
count_front x xs = rw (eq-eqb x x refl) (omega arith)

pub count_append : (z : ℕ) (xs ys : List ℕ) → count_of z (xs ++ ys) ≡ count_of z xs + count_of z ys
count_append z [] ys = omega arith
count_append z (x ∷ xs) ys = omega (arith, count_append z xs ys)

pub length-take_out : (i : ℕ) (xs : List ℕ) → length (take_out i xs) + count_of i xs ≡ length xs
length-take_out i [] = omega arith
length-take_out i (x ∷ xs) = grind (arith, length-take_out i xs)

le_cond : (t : Bool) (n : ℕ) → cond t 0 n ≤ n
le_cond true n = omega arith
le_cond false n = omega arith

pub count-take_out : (z i : ℕ) (xs : List ℕ) → count_of z (take_out i xs) ≤ count_of z xs
count-take_out z i xs = omega (arith, count_of-take z i xs, le_cond (eqb i z) (count_of z xs))

pub count_gone : (i : ℕ) (xs : List ℕ) → count_of i (take_out i xs) ≡ 0
count_gone i xs = let e : eqb i i ≡ true = eq-eqb i i refl in count_of-take i i xs ∙ rw e refl

pub take_out-none : (i : ℕ) (xs : List ℕ) → count_of i xs ≡ 0 → take_out i xs ≡ xs
take_out-none i [] none = refl
take_out-none i (x ∷ xs) none = grind (arith, take_out-none i xs)

-- a list of distinct numbers below n is no longer than n
pub fits : (n : ℕ) (xs : List ℕ) → ((z : ℕ) → 0 < count_of z xs → z < n) → ((z : ℕ) → count_of z xs ≤ 1) → length xs ≤ n
fits zero [] below once = omega arith
fits zero (x ∷ xs) below once = absurd (omega (arith, below x (count_front x xs)))
fits (suc n) xs below once =
    omega (
      arith,
      length-take_out n xs,
      once n,
      fits n (take_out n xs)
          (λ z some. let ne : z ≢ n = λ e. absurd (omega (arith, some, count_gone n xs, ap (λ (m : ℕ). count_of m (take_out n xs)) e)) in
          omega (arith, below z (omega (arith, some, count-take_out z n xs)), ne))
          (λ z. omega (arith, once z, count-take_out z n xs)),
    )

member_split : (places : List Place) (z x : ℕ) (b l count : ℕ) (rest : ℕ) (t : Bool) → eqb x z ≡ t → x ≡ l → l < count → (place_at places l).bucket ≡ b
    → (0 < rest → (z < count) × ((place_at places z).bucket ≡ b)) → 0 < cond t 1 0 + rest → (z < count) × ((place_at places z).bucket ≡ b)
member_split places z x b l count rest true e here within bucket ih some =
    let same : l ≡ z = sym here ∙ eqb-true x z e in (omega (arith, same, within), subst (λ (m : ℕ). (place_at places m).bucket ≡ b) same bucket)
member_split places z x b l count rest false e here within bucket ih some = ih (omega arith)

-- what stands in a run is a place of its bucket
pub member : (places : List Place) (b before l z : ℕ) (xs : List ℕ) → IsRun places b before l xs → 0 < count_of z xs → (z < length places) × ((place_at places z).bucket ≡ b)
member places b before l z [] w some = absurd (omega arith)
member places b before l z (x ∷ xs) w some =
    member_split places z x b l (length places) (count_of z xs) (eqb x z) refl w.0.here w.0.within w.0.bucket
    (member places b l (place_at places l).after z xs w.1) some

pub run_is : (places : List Place) (n b before l : ℕ) (xs : List ℕ) → length places ≤ nowhere → length xs ≤ n → IsRun places b before l xs → run places n l ≡ xs
run_is places zero b before l [] few le w = refl
run_is places zero b before l (x ∷ xs) few le w = absurd (omega arith)
run_is places (suc n) b before l [] few le w = let e : ltb l (length places) ≡ false = le-ltb l (length places) (omega (arith, w)) in rw e refl
run_is places (suc n) b before l (x ∷ xs) few le w =
    let e : ltb l (length places) ≡ true = lt-ltb l (length places) w.0.within in
    let ih = run_is places n b l (place_at places l).after xs few (omega arith) w.1 in
    let a = w.0.here in
    rw e (cc (a, ih))

pub run_fits : (places : List Place) (b before l : ℕ) (xs : List ℕ) → IsRun places b before l xs → ((z : ℕ) → count_of z xs ≤ 1) → length xs ≤ length places
run_fits places b before l xs w once = fits (length places) xs (λ z some. (member places b before l z xs w some).0) once

-- the lists that the fields make are those that are runs
pub buckets_are : (firsts : List ℕ) (places : List Place) (lists : List (List ℕ)) → AreBuckets firsts places lists → buckets_of firsts places ≡ lists
buckets_are firsts places lists buckets =
    ext_get_or [] (buckets_of firsts places) lists (length-map firsts (run places (length places)) ∙ sym buckets.same) (λ b lt.
    let within : b < length firsts = omega (arith, lt, length-map firsts (run places (length places))) in
    get_or-map (run places (length places)) firsts b nowhere [] within
    ∙ run_is places (length places) b nowhere (first_at firsts b) (bucket_at lists b) buckets.few
    (run_fits places b nowhere (first_at firsts b) (bucket_at lists b) (buckets.runs b within) (buckets.once b)) (buckets.runs b within))

-- a run is the same where its places are
pub run_same : (places ps : List Place) (b before l : ℕ) (xs : List ℕ) → length ps ≡ length places
    → ((z : ℕ) → z < length places → 0 < count_of z xs → place_at ps z ≡ place_at places z) → IsRun places b before l xs → IsRun ps b before l xs
run_same places ps b before l [] len same w = w
run_same places ps b before l (x ∷ xs) len same w =
    let t : eqb x l ≡ true = eq-eqb x l w.0.here in
    let e : place_at ps l ≡ place_at places l = same l w.0.within (rw t (omega arith)) in (
      subst (λ (k : Place). IsSpot k (length ps) b before l x) (sym e) (record { here = w.0.here; within = omega (arith, len, w.0.within); back = w.0.back; bucket = w.0.bucket }),
      subst (λ (m : ℕ). IsRun ps b l m xs) (sym (ap (λ k. k.after) e))
          (run_same places ps b l (place_at places l).after xs len (λ z lt some. same z lt (omega (arith, some))) w.1),
    )

-- the last item of a list, where one stands before it
unfoldable pub last_of : ℕ → List ℕ → ℕ
last_of p [] = p
last_of p (x ∷ xs) = last_of x xs

pub last_stands : (p x : ℕ) (xs : List ℕ) → 0 < count_of (last_of p (x ∷ xs)) (x ∷ xs)
unfolding last_of
last_stands p x [] = count_front x []
last_stands p x (y ∷ ys) = omega (arith, last_stands x y ys)

-- an item stands between two parts of its list
pub record Parts (i : ℕ) (xs : List ℕ) : Type 0 where
  pub front : List ℕ
  pub back : List ℕ
  pub whole : xs ≡ front ++ i ∷ back

part_split : (i x : ℕ) (xs : List ℕ) (b : Bool) → eqb x i ≡ b → (0 < count_of i xs → Parts i xs) → 0 < cond b 1 0 + count_of i xs → Parts i (x ∷ xs)
part_split i x xs true e ih some = record { front = []; back = xs; whole = ap (λ (m : ℕ). m ∷ xs) (eqb-true x i e) }
part_split i x xs false e ih some = let p = ih (omega arith) in record { front = x ∷ p.front; back = p.back; whole = ap (λ (ys : List ℕ). x ∷ ys) p.whole }

pub parts : (i : ℕ) (xs : List ℕ) → 0 < count_of i xs → Parts i xs
parts i [] some = absurd (omega arith)
parts i (x ∷ xs) some = part_split i x xs (eqb x i) refl (parts i xs) some

pub take_out-front : (i : ℕ) (front back : List ℕ) → count_of i front ≡ 0 → count_of i back ≡ 0 → take_out i (front ++ i ∷ back) ≡ front ++ back
take_out-front i [] back f b = rw (eq-eqb i i refl) (take_out-none i back b)
take_out-front i (x ∷ xs) back f b = grind (arith, take_out-front i xs back)

-- what a run says of an item in it
pub record IsRunAround (places : List Place) (b before i : ℕ) (front back : List ℕ) : Type 0 where
  pub within : i < length places
  pub comes : (place_at places i).before ≡ last_of before front
  pub bucket : (place_at places i).bucket ≡ b
  pub rest : IsRun places b i (place_at places i).after back

pub run_parts : (places : List Place) (b before l i : ℕ) (front back : List ℕ) → IsRun places b before l (front ++ i ∷ back) → IsRunAround places b before i front back
unfolding last_of
run_parts places b before l i [] back w =
    subst (λ (m : ℕ). IsRunAround places b before m [] back) (sym w.0.here) (record { within = w.0.within; comes = w.0.back; bucket = w.0.bucket; rest = w.1 })
run_parts places b before l i (x ∷ xs) back w =
    let r = run_parts places b l (place_at places l).after i xs back w.1 in
    record { within = r.within; comes = r.comes ∙ ap (λ (m : ℕ). last_of m xs) (sym w.0.here); bucket = r.bucket; rest = r.rest }

abbrev pub if_one : Bool → ℕ
if_one b = cond b 1 0

-- where a list begins once an item is out of it
abbrev pub first_part : ℕ → ℕ → List ℕ → ℕ
first_part q l [] = q
first_part q l (x ∷ xs) = l

-- a run without one of its items: `p` is before it and `q` after it
pub run_without : (places ps : List Place) (b p q i : ℕ) (back : List ℕ) → length ps ≡ length places → IsRun ps b p q back
    → (before l : ℕ) (front : List ℕ) → IsRun places b before l (front ++ i ∷ back) → p ≡ last_of before front
    → ((z : ℕ) → count_of z front ≤ 1)
    → ((z : ℕ) → 0 < count_of z front → z ≢ p → place_at ps z ≡ place_at places z)
    → (0 < count_of p front → place_at ps p ≡ record { before = (place_at places p).before; after = q; bucket = (place_at places p).bucket })
    → IsRun ps b before (first_part q l front) (front ++ back)
unfolding last_of
run_without places ps b p q i back len rest before l [] w last once same end = subst (λ (m : ℕ). IsRun ps b m q back) last rest
run_without places ps b p q i back len rest before l (x ∷ []) w last once same end =
    let here : p ≡ l = last ∙ w.0.here in
    let e : place_at ps l ≡ record { before = (place_at places l).before; after = q; bucket = (place_at places l).bucket } =
    subst (λ (m : ℕ). place_at ps m ≡ record { before = (place_at places m).before; after = q; bucket = (place_at places m).bucket }) here
    (end (subst (λ (m : ℕ). 0 < count_of m (x ∷ [])) (sym last) (count_front x []))) in (
      subst (λ (k : Place). IsSpot k (length ps) b before l x) (sym e) (record { here = w.0.here; within = omega (arith, len, w.0.within); back = w.0.back; bucket = w.0.bucket }),
      subst (λ (m : ℕ). IsRun ps b l m back) (sym (ap (λ k. k.after) e)) (subst (λ (m : ℕ). IsRun ps b m q back) here rest),
    )
run_without places ps b p q i back len rest before l (x ∷ (y ∷ ys)) w last once same end =
    let stands : 0 < count_of p (y ∷ ys) = subst (λ (m : ℕ). 0 < count_of m (y ∷ ys)) (sym last) (last_stands x y ys) in
    let ne : x ≢ p = λ e. absurd (omega (arith, once p, stands, ap (λ (t : Bool). if_one t) (eq-eqb x p e))) in
    let e : place_at ps l ≡ place_at places l = subst (λ (m : ℕ). place_at ps m ≡ place_at places m) w.0.here (same x (count_front x (y ∷ ys)) ne) in (
      subst (λ (k : Place). IsSpot k (length ps) b before l x) (sym e) (record { here = w.0.here; within = omega (arith, len, w.0.within); back = w.0.back; bucket = w.0.bucket }),
      subst (λ (m : ℕ). IsRun ps b l m (y ∷ (ys ++ back))) (sym (ap (λ k. k.after) e))
          (run_without places ps b p q i back len rest l (place_at places l).after (y ∷ ys) w.1 last
          (λ z. omega (arith, once z)) (λ z some. same z (omega (arith, some))) (λ some. end (omega (arith, some)))),
    )
