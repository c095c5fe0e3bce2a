-- What the lists are after an item is taken out, or put in.
use Rattle.std.proofs.Common.{◌≡◌, ◌≢◌, ℕ, ◌+◌, ◌<◌, ◌≤◌, ◌⊎◌, Bool, true, false, cond, eqb, List, [], ◌∷◌, ◌++◌, length, map, set, refl, sym, ap, ◌∙◌, subst, inl, inr, arith}
use Rattle.std.proofs.lemmas.Bool.{eqb-true, eq-eqb, ne_eqb, cases_eq, cases_lt}
use Rattle.std.proofs.lemmas.List.{length-set, length-map, get_or-set_same, get_or-set_other}
use Rattle.link_chain.specs.declared.item_buckets.Place.{Place}
use Rattle.link_chain.specs.Buckets.{bucket_at, count_of, take_out, put_first}
use Rattle.link_chain.specs.Indexes.{nowhere}
use Rattle.link_chain.specs.FirstsAndPlaces.{first_at, place_at, IsSpot, IsRun, AreBuckets, with_after, unlinked_places, unlinked_firsts, linked_places, linked_firsts}
use Rattle.link_chain.proofs.BucketLaws.{bucket_at-take}
use Rattle.link_chain.proofs.BucketRuns.{count_front, count_append, take_out-none, take_out-front, count-take_out, member, run_same, last_of, last_stands, Parts, parts, IsRunAround, run_parts, first_part, run_without}

-- the items after one, where another now stands before them
rest_run : (places ps : List Place) (b i p q : ℕ) (back : List ℕ) → length ps ≡ length places → IsRun places b i q back → ((z : ℕ) → count_of z back ≤ 1)
    → (q < length places → place_at ps q ≡ record { before = p; after = (place_at places q).after; bucket = (place_at places q).bucket })
    → ((z : ℕ) → z < length places → 0 < count_of z back → z ≢ q → place_at ps z ≡ place_at places z) → IsRun ps b p q back
rest_run places ps b i p q [] len w once at_q same = w
rest_run places ps b i p q (y ∷ ys) len w once at_q same =
    let e : place_at ps q ≡ record { before = p; after = (place_at places q).after; bucket = (place_at places q).bucket } = at_q w.0.within in (
      subst (λ (k : Place). IsSpot k (length ps) b p q y) (sym e) (record { here = w.0.here; within = omega (arith, len, w.0.within); back = refl; bucket = w.0.bucket }),
      subst (λ (m : ℕ). IsRun ps b q m ys) (sym (ap (λ k. k.after) e))
          (run_same places ps b q (place_at places q).after ys len
          (λ z lt some. same z lt (omega (arith, some)) (λ z_is. absurd (omega (
            arith,
            once q,
            count_front q ys,
            ap (λ (m : ℕ). count_of q (m ∷ ys)) w.0.here,
            in_rest q ys,
            subst (λ (m : ℕ). 0 < count_of m ys) z_is some,
          )))) w.1),
    )
  where
    in_rest : (q : ℕ) (ys : List ℕ) → count_of q (q ∷ ys) ≡ 1 + count_of q ys
    in_rest q ys = rw (eq-eqb q q refl) refl

-- where a run begins
pub starts : (places : List Place) (b before q : ℕ) (xs : List ℕ) → IsRun places b before q xs → (q ≡ nowhere) ⊎ (0 < count_of q xs)
starts places b before q [] w = inl w
starts places b before q (y ∷ ys) w = inr (subst (λ (m : ℕ). 0 < count_of m (y ∷ ys)) w.0.here (count_front y ys))

pub not_empty : (places : List Place) (b before f i : ℕ) (xs : List ℕ) → length places ≤ nowhere → IsRun places b before f xs → 0 < count_of i xs → f ≢ nowhere
not_empty places b before f i [] few w some = absurd (omega (arith, some))
not_empty places b before f i (y ∷ ys) few w some = λ e. absurd (omega (arith, w.0.within, few, e))

-- an item stands in at most one bucket
pub apart : (firsts : List ℕ) (places : List Place) (lists : List (List ℕ)) (z b k : ℕ) → AreBuckets firsts places lists → b < length firsts → k < length firsts
    → 0 < count_of z (bucket_at lists b) → 0 < count_of z (bucket_at lists k) → b ≡ k
apart firsts places lists z b k buckets lt kt here there =
    sym (member places b nowhere (first_at firsts b) z (bucket_at lists b) (buckets.runs b lt) here).1
    ∙ (member places k nowhere (first_at firsts k) z (bucket_at lists k) (buckets.runs k kt) there).1

pub firsts_length : (t : Bool) (firsts : List ℕ) (b q : ℕ) → length (cond t (set firsts b q) firsts) ≡ length firsts
firsts_length true firsts b q = length-set firsts b q
firsts_length false firsts b q = refl

pub firsts_other : (t : Bool) (firsts : List ℕ) (b q k : ℕ) → k ≢ b → first_at (cond t (set firsts b q) firsts) k ≡ first_at firsts k
firsts_other true firsts b q k ne = get_or-set_other firsts b k q nowhere ne
firsts_other false firsts b q k ne = refl

firsts_same : (firsts : List ℕ) (b p q count before : ℕ) (front : List ℕ) → b < length firsts → count ≤ nowhere → p ≡ last_of nowhere front
    → (0 < count_of p front → p < count) → first_at (cond (eqb p nowhere) (set firsts b q) firsts) b ≡ first_part q (first_at firsts b) front
unfolding last_of
firsts_same firsts b p q count before [] lt few last in_front = rw (eq-eqb p nowhere last) (get_or-set_same firsts b q nowhere lt)
firsts_same firsts b p q count before (x ∷ xs) lt few last in_front =
    let stands : 0 < count_of p (x ∷ xs) = subst (λ (m : ℕ). 0 < count_of m (x ∷ xs)) (sym last) (last_stands nowhere x xs) in
    let e : eqb p nowhere ≡ false = ne_eqb p nowhere (λ e. absurd (omega (arith, in_front stands, few, e))) in
    rw e refl

last_where : (p : ℕ) (front : List ℕ) → p ≡ last_of nowhere front → (p ≡ nowhere) ⊎ (0 < count_of p front)
unfolding last_of
last_where p [] last = inl last
last_where p (x ∷ xs) last = inr (subst (λ (m : ℕ). 0 < count_of m (x ∷ xs)) (sym last) (last_stands nowhere x xs))

-- what `p` and `q`, the neighbours of an item, are not
pub other_than : (z p n : ℕ) (xs : List ℕ) → n ≤ nowhere → z < n → (p ≡ nowhere) ⊎ (0 < count_of p xs) → count_of z xs ≡ 0 → z ≢ p
other_than z p n xs few lt place none = λ e. elim place [
  | inl out ↦ absurd (omega (arith, out, e, lt, few))
  | inr inside ↦ absurd (omega (arith, none, subst (λ (m : ℕ). 0 < count_of m xs) (sym e) inside))
]

abbrev pub if_eq : ℕ → ℕ → ℕ
if_eq i z = cond (eqb i z) 1 0

same_eq : (i : ℕ) → if_eq i i ≡ 1
same_eq i = rw (eq-eqb i i refl) refl

at_most : (z i : ℕ) (front back xs : List ℕ) → xs ≡ front ++ i ∷ back → count_of z xs ≤ 1 → count_of z front + (if_eq i z + count_of z back) ≤ 1
at_most z i front back xs e once = omega (arith, once, ap (count_of z) e, count_append z front (i ∷ back))

pub unlinked : (firsts : List ℕ) (places : List Place) (lists : List (List ℕ)) (i b : ℕ) → AreBuckets firsts places lists → b < length firsts → 0 < count_of i (bucket_at lists b)
    → AreBuckets (unlinked_firsts firsts places i) (unlinked_places places i) (map (take_out i) lists)
unlinked firsts places lists i b buckets lt here =
    let p = (place_at places i).before in
    let q = (place_at places i).after in
    let mid = with_after places p q in
    let ps = unlinked_places places i in
    let none : Place = record { before = nowhere; after = nowhere; bucket = 0 } in
    let len : length ps ≡ length places =
    length-set mid q (record { before = p; after = (place_at mid q).after; bucket = (place_at mid q).bucket })
    ∙ length-set places p (record { before = (place_at places p).before; after = q; bucket = (place_at places p).bucket }) in
    let xs = bucket_at lists b in
    let f = first_at firsts b in
    let pt : Parts i xs = parts i xs here in
    let w : IsRun places b nowhere f (pt.front ++ i ∷ pt.back) = subst (IsRun places b nowhere f) pt.whole (buckets.runs b lt) in
    let part : IsRunAround places b nowhere i pt.front pt.back = run_parts places b nowhere f i pt.front pt.back w in
    let once : (z : ℕ) → count_of z pt.front + (if_eq i z + count_of z pt.back) ≤ 1 = λ z. at_most z i pt.front pt.back xs pt.whole (buckets.once b z) in
    let in_list : (z : ℕ) → 0 < count_of z (pt.front ++ i ∷ pt.back) → z < length places = λ z some. (member places b nowhere f z (pt.front ++ i ∷ pt.back) w some).0 in
    let front_in : (z : ℕ) → 0 < count_of z pt.front → z < length places = λ z some. in_list z (omega (arith, some, count_append z pt.front (i ∷ pt.back))) in
    let p_where : (p ≡ nowhere) ⊎ (0 < count_of p pt.front) = last_where p pt.front part.comes in
    let q_where : (q ≡ nowhere) ⊎ (0 < count_of q pt.back) = starts places b i q pt.back part.rest in
    let agree : (z : ℕ) → z ≢ p → z ≢ q → place_at ps z ≡ place_at places z = λ z np nq.
    get_or-set_other mid q z (record { before = p; after = (place_at mid q).after; bucket = (place_at mid q).bucket }) none nq
    ∙ get_or-set_other places p z (record { before = (place_at places p).before; after = q; bucket = (place_at places p).bucket }) none np in
    let at_q : q < length places → q ≢ p → place_at ps q ≡ record { before = p; after = (place_at places q).after; bucket = (place_at places q).bucket } = λ within ne.
    get_or-set_same mid q (record { before = p; after = (place_at mid q).after; bucket = (place_at mid q).bucket }) none
    (omega (arith, within, length-set places p (record { before = (place_at places p).before; after = q; bucket = (place_at places p).bucket })))
    ∙ ap (λ (k : Place). record { before = p; after = k.after; bucket = k.bucket })
    (get_or-set_other places p q (record { before = (place_at places p).before; after = q; bucket = (place_at places p).bucket }) none ne) in
    let at_p : p < length places → p ≢ q → place_at ps p ≡ record { before = (place_at places p).before; after = q; bucket = (place_at places p).bucket } = λ within ne.
    get_or-set_other mid q p (record { before = p; after = (place_at mid q).after; bucket = (place_at mid q).bucket }) none ne
    ∙ get_or-set_same places p (record { before = (place_at places p).before; after = q; bucket = (place_at places p).bucket }) none within in
    let back_in : (z : ℕ) → 0 < count_of z pt.back → z < length places = λ z some. in_list z (omega (arith, some, count_append z pt.front (i ∷ pt.back))) in
    let rest : IsRun ps b p q pt.back = rest_run places ps b i p q pt.back len part.rest (λ z. omega (arith, once z))
    (λ within. elim q_where [
      | inl out ↦ absurd (omega (arith, out, within, buckets.few))
      | inr inside ↦ at_q within (other_than q p (length places) pt.front buckets.few within p_where (omega (arith, once q, inside)))
    ])
    (λ z within some ne. agree z (other_than z p (length places) pt.front buckets.few within p_where (omega (arith, once z, some))) ne) in
    let own : IsRun ps b nowhere (first_part q f pt.front) (pt.front ++ pt.back) =
    run_without places ps b p q i pt.back len rest nowhere f pt.front w part.comes (λ z. omega (arith, once z))
    (λ z some ne. agree z ne (other_than z q (length places) pt.back buckets.few (front_in z some) q_where (omega (arith, once z, some))))
    (λ some. at_p (front_in p some) (other_than p q (length places) pt.back buckets.few (front_in p some) q_where (omega (arith, once p, some)))) in
    let out_is : take_out i xs ≡ pt.front ++ pt.back =
    ap (take_out i) pt.whole ∙ take_out-front i pt.front pt.back (omega (arith, once i, same_eq i)) (omega (arith, once i, same_eq i)) in
    let first_is : first_at (unlinked_firsts firsts places i) b ≡ first_part q f pt.front =
    subst (λ (m : ℕ). first_at (cond (eqb p nowhere) (set firsts m q) firsts) b ≡ first_part q f pt.front) (sym part.bucket)
    (firsts_same firsts b p q (length places) nowhere pt.front lt buckets.few part.comes (front_in p)) in
    record {
      few = omega (arith, len, buckets.few);
      same = length-map lists (take_out i) ∙ buckets.same ∙ sym (firsts_length (eqb p nowhere) firsts (place_at places i).bucket q);
      once = λ k z. omega (arith, ap (count_of z) (bucket_at-take i lists k), count-take_out z i (bucket_at lists k), buckets.once k z);
      runs = λ k kt0. let kt : k < length firsts = omega (arith, kt0, firsts_length (eqb p nowhere) firsts (place_at places i).bucket q) in
          elim (cases_eq k b) [
            | inl e ↦ subst (λ (m : ℕ). IsRun ps m nowhere (first_at (unlinked_firsts firsts places i) m) (bucket_at (map (take_out i) lists) m)) (sym e)
                (rw (first_is, bucket_at-take i lists b, out_is) own)
            | inr ne ↦
                let ys = bucket_at lists k in
                let gone : (z : ℕ) → 0 < count_of z ys → count_of z xs ≡ 0 = λ z some. elim (cases_lt 0 (count_of z xs)) [
                  | inl both ↦ absurd (ne (apart firsts places lists z k b buckets kt lt some both))
                  | inr not_any ↦ omega (arith, not_any)
                ] in
                let no_i : count_of i ys ≡ 0 = elim (cases_lt 0 (count_of i ys)) [
                  | inl some ↦ absurd (omega (arith, gone i some, here))
                  | inr not_any ↦ omega (arith, not_any)
                ] in
                let zero_front : (z : ℕ) → 0 < count_of z ys → count_of z pt.front ≡ 0 = λ z some. omega (arith, gone z some, ap (count_of z) pt.whole, count_append z pt.front (i ∷ pt.back)) in
                let zero_back : (z : ℕ) → 0 < count_of z ys → count_of z pt.back ≡ 0 = λ z some. omega (arith, gone z some, ap (count_of z) pt.whole, count_append z pt.front (i ∷ pt.back)) in
                let m1 : (place_at places i).bucket ≢ k = λ e. absurd (ne (sym e ∙ part.bucket)) in
                rw (firsts_other (eqb p nowhere) firsts (place_at places i).bucket q k (λ e. absurd (m1 (sym e))), bucket_at-take i lists k, take_out-none i ys no_i)
                (run_same places ps k nowhere (first_at firsts k) ys len
                (λ z within some. agree z (other_than z p (length places) pt.front buckets.few within p_where (zero_front z some))
                (other_than z q (length places) pt.back buckets.few within q_where (zero_back z some))) (buckets.runs k kt))
          ];
    }

pub linked : (firsts : List ℕ) (places : List Place) (lists : List (List ℕ)) (i b : ℕ) → AreBuckets firsts places lists → b < length firsts → i < length places
    → ((k : ℕ) → count_of i (bucket_at lists k) ≡ 0) → AreBuckets (linked_firsts firsts i b) (linked_places firsts places i b) (put_first i b lists)
linked firsts places lists i b buckets lt it free =
    let xs = bucket_at lists b in
    let f = first_at firsts b in
    let none : Place = record { before = nowhere; after = nowhere; bucket = 0 } in
    let new : Place = record { before = nowhere; after = f; bucket = b } in
    let mid = set places i new in
    let y : Place = record { before = i; after = (place_at mid f).after; bucket = (place_at mid f).bucket } in
    let ps = linked_places firsts places i b in
    let len : length ps ≡ length places = length-set mid f y ∙ length-set places i new in
    let w = buckets.runs b lt in
    let f_where : (f ≡ nowhere) ⊎ (0 < count_of f xs) = starts places b nowhere f xs w in
    let i_not_f : i ≢ f = other_than i f (length places) xs buckets.few it f_where (free b) in
    let at_i : place_at ps i ≡ new = get_or-set_other mid f i y none i_not_f ∙ get_or-set_same places i new none it in
    let at_f : f < length places → place_at ps f ≡ record { before = i; after = (place_at places f).after; bucket = (place_at places f).bucket } = λ within.
    get_or-set_same mid f y none (omega (arith, within, length-set places i new))
    ∙ ap (λ (k : Place). record { before = i; after = k.after; bucket = k.bucket }) (get_or-set_other places i f new none (λ e. i_not_f (sym e))) in
    let agree : (z : ℕ) → z ≢ i → z ≢ f → place_at ps z ≡ place_at places z = λ z ni nf.
    get_or-set_other mid f z y none nf ∙ get_or-set_other places i z new none ni in
    let not_i : (k z : ℕ) → 0 < count_of z (bucket_at lists k) → z ≢ i = λ k z some e. absurd (omega (arith, free k, subst (λ (m : ℕ). 0 < count_of m (bucket_at lists k)) e some)) in
    let rest : IsRun ps b i f xs = rest_run places ps b nowhere i f xs len w (buckets.once b) at_f (λ z within some nf. agree z (not_i b z some) nf) in
    let mt : b < length lists = omega (arith, lt, buckets.same) in
    let own : IsRun ps b nowhere i (i ∷ xs) = (
      subst (λ (k : Place). IsSpot k (length ps) b nowhere i i) (sym at_i) (record { here = refl; within = omega (arith, len, it); back = refl; bucket = refl }),
      subst (λ (m : ℕ). IsRun ps b i m xs) (sym (ap (λ k. k.after) at_i)) rest,
    ) in
    record {
      few = omega (arith, len, buckets.few);
      same = length-set lists b (i ∷ xs) ∙ buckets.same ∙ sym (length-set firsts b i);
      once = λ k z. elim (cases_eq k b) [
        | inl e ↦ subst (λ (m : ℕ). count_of z (bucket_at (set lists b (i ∷ xs)) m) ≤ 1) (sym e)
            (rw (get_or-set_same lists b (i ∷ xs) [] mt) (once_more z i xs (eqb i z) refl (free b) (buckets.once b z)))
        | inr ne ↦ rw (get_or-set_other lists b k (i ∷ xs) [] ne) (buckets.once k z)
      ];
      runs = λ k kt0. let kt : k < length firsts = omega (arith, kt0, length-set firsts b i) in
          elim (cases_eq k b) [
            | inl e ↦ subst (λ (m : ℕ). IsRun ps m nowhere (first_at (set firsts b i) m) (bucket_at (set lists b (i ∷ xs)) m)) (sym e)
                (rw (get_or-set_same firsts b i nowhere lt, get_or-set_same lists b (i ∷ xs) [] mt) own)
            | inr ne ↦
                let gone : (z : ℕ) → 0 < count_of z (bucket_at lists k) → count_of z xs ≡ 0 = λ z some. elim (cases_lt 0 (count_of z xs)) [
                  | inl both ↦ absurd (ne (apart firsts places lists z k b buckets kt lt some both))
                  | inr not_any ↦ omega (arith, not_any)
                ] in
                rw (get_or-set_other firsts b k i nowhere ne, get_or-set_other lists b k (i ∷ xs) [] ne)
                (run_same places ps k nowhere (first_at firsts k) (bucket_at lists k) len
                (λ z within some. agree z (not_i k z some) (other_than z f (length places) xs buckets.few within f_where (gone z some))) (buckets.runs k kt))
          ];
    }
  where
    once_more : (z i : ℕ) (xs : List ℕ) (t : Bool) → eqb i z ≡ t → count_of i xs ≡ 0 → count_of z xs ≤ 1 → cond t 1 0 + count_of z xs ≤ 1
    once_more z i xs true e free once = omega (arith, subst (λ (m : ℕ). count_of m xs ≡ 0) (eqb-true i z e) free)
    once_more z i xs false e free once = omega (arith, once)
