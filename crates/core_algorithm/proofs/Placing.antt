-- A node is put into the buckets, or taken out.
use Rattle.std.proofs.Common.{◌≡◌, ℕ, ◌+◌, ◌<◌, ◌≤◌, max, Bool, true, false, cond, eqb, List, [], ◌∷◌, length, map, set, refl, sym, ap, ◌∙◌, subst, inl, inr, arith}
use Rattle.std.proofs.lemmas.Bool.{cases_eq, eq-eqb, ne_eqb}
use Rattle.std.proofs.lemmas.List.{length-set, length-map, get_or-set_same, get_or-set_other}
use Rattle.link_chain.specs.Buckets.{BucketLists, bucket_at, count_of, how_often, take_out, put_first}
use Rattle.link_chain.proofs.BucketLaws.{bucket_at-take, count_of-take, how_often-none}
use Rattle.present_links.specs.Adjacent.{row_at}
use Rattle.core_algorithm.specs.Peeled.{how_many, is_left, degree_of, AreShelved, IsGraph, IsState}
use Rattle.core_algorithm.proofs.OnePeeled.{left_in, peeled_one}

pub free_of : (buckets : BucketLists) (left : List Bool) (degrees : List ℕ) (i : ℕ) → AreShelved buckets left degrees → is_left left i ≡ false → how_often i buckets.lists ≡ 0
free_of buckets left degrees i shelved gone = how_often-none i buckets.lists (λ b. shelved.count i b ∙ rw gone refl)

count_put : (i v d b : ℕ) (lists : List (List ℕ)) → d < length lists
    → count_of v (bucket_at (put_first i d lists) b) ≡ cond (eqb i v) (cond (eqb d b) 1 0) 0 + count_of v (bucket_at lists b)
count_put i v d b lists mt = elim (cases_eq b d) [
  | inl same ↦
      let e : bucket_at (put_first i d lists) b ≡ i ∷ bucket_at lists b =
      subst (λ (m : ℕ). bucket_at (put_first i d lists) m ≡ i ∷ bucket_at lists m) (sym same) (get_or-set_same lists d (i ∷ bucket_at lists d) [] mt) in
      let g : eqb d b ≡ true = eq-eqb d b (sym same) in
      rw (e, g) refl
  | inr ne ↦
      let e : bucket_at (put_first i d lists) b ≡ bucket_at lists b = get_or-set_other lists d b (i ∷ bucket_at lists d) [] ne in
      let g : eqb d b ≡ false = ne_eqb d b (λ same. ne (sym same)) in
      rw (e, g) (both (eqb i v) (count_of v (bucket_at lists b)))
]
  where
    both : (t : Bool) (m : ℕ) → m ≡ cond t 0 0 + m
    both true m = omega arith
    both false m = omega arith

pub placed : (old new : BucketLists) (left : List Bool) (degrees : List ℕ) (i d : ℕ) → AreShelved old left degrees → i < length left → d < length left → is_left left i ≡ false
    → new.items ≡ old.items → new.lists ≡ put_first i d old.lists → AreShelved new (set left i true) (set degrees i d)
placed old new left degrees i d shelved lt dt gone items_is lists_is =
    let it : i < length degrees = omega (arith, lt, shelved.lengths) in
    let mt : d < length old.lists = omega (arith, dt, shelved.shelves) in
    record {
      items = items_is ∙ shelved.items ∙ sym (length-set left i true);
      shelves = ap length lists_is ∙ length-set old.lists d (i ∷ bucket_at old.lists d) ∙ shelved.shelves ∙ sym (length-set left i true);
      lengths = length-set degrees i d ∙ shelved.lengths ∙ sym (length-set left i true);
      small = λ v e. elim (cases_eq v i) [
        | inl same ↦ subst (λ (m : ℕ). degree_of (set degrees i d) m < length (set left i true)) (sym same)
            (rw (get_or-set_same degrees i d 0 it) (omega (arith, dt, length-set left i true)))
        | inr ne ↦ rw (get_or-set_other degrees i v d 0 ne)
            (omega (arith, length-set left i true, shelved.small v (sym (get_or-set_other left i v true false ne) ∙ e)))
      ];
      count = λ v b. ap (λ (xs : List (List ℕ)). count_of v (bucket_at xs b)) lists_is ∙ count_put i v d b old.lists mt ∙ elim (cases_eq v i) [
        | inl same ↦
            let g : eqb i v ≡ true = eq-eqb i v (sym same) in
            let h : is_left (set left i true) v ≡ true = ap (is_left (set left i true)) same ∙ get_or-set_same left i true false lt in
            let k : degree_of (set degrees i d) v ≡ d = ap (degree_of (set degrees i d)) same ∙ get_or-set_same degrees i d 0 it in
            let none : count_of v (bucket_at old.lists b) ≡ 0 = shelved.count v b ∙ rw (ap (is_left left) same ∙ gone) refl in
            rw (g, h, k, none) (omega arith)
        | inr ne ↦
            let g : eqb i v ≡ false = ne_eqb i v (λ same. ne (sym same)) in
            let h : is_left (set left i true) v ≡ is_left left v = get_or-set_other left i v true false ne in
            let k : degree_of (set degrees i d) v ≡ degree_of degrees v = get_or-set_other degrees i v d 0 ne in
            rw (g, h, k) (omega (arith, shelved.count v b))
      ];
    }

pub left_out : (old new : BucketLists) (left : List Bool) (degrees : List ℕ) (i : ℕ) → AreShelved old left degrees → is_left left i ≡ true
    → new.items ≡ old.items → new.lists ≡ map (take_out i) old.lists → AreShelved new (set left i false) degrees
left_out old new left degrees i shelved here items_is lists_is =
    let lt : i < length left = left_in left i here in
    record {
      items = items_is ∙ shelved.items ∙ sym (length-set left i false);
      shelves = ap length lists_is ∙ length-map old.lists (take_out i) ∙ shelved.shelves ∙ sym (length-set left i false);
      lengths = shelved.lengths ∙ sym (length-set left i false);
      small = λ v e. elim (cases_eq v i) [
        | inl same ↦ absurd (let f = ap (is_left (set left i false)) same in let g = get_or-set_same left i false false lt in cc)
        | inr ne ↦ omega (arith, length-set left i false, shelved.small v (sym (get_or-set_other left i v false false ne) ∙ e))
      ];
      count = λ v b. ap (λ (xs : List (List ℕ)). count_of v (bucket_at xs b)) lists_is ∙ ap (count_of v) (bucket_at-take i old.lists b) ∙ count_of-take v i (bucket_at old.lists b) ∙ elim (cases_eq v i) [
        | inl same ↦
            let g : eqb i v ≡ true = eq-eqb i v (sym same) in
            let h : is_left (set left i false) v ≡ false = ap (is_left (set left i false)) same ∙ get_or-set_same left i false false lt in
            rw (g, h) refl
        | inr ne ↦
            let g : eqb i v ≡ false = ne_eqb i v (λ same. ne (sym same)) in
            let h : is_left (set left i false) v ≡ is_left left v = get_or-set_other left i v false false ne in
            rw (g, h) (shelved.count v b)
      ];
    }

-- one node less among what is left
many_split : (left : List Bool) (v x : ℕ) (xs : List ℕ) → is_left left v ≡ true → how_many (is_left left) xs ≡ how_many (is_left (set left v false)) xs + count_of v xs
    → how_many (is_left left) (x ∷ xs) ≡ how_many (is_left (set left v false)) (x ∷ xs) + count_of v (x ∷ xs)
many_split left v x xs here ih = elim (cases_eq x v) [
  | inl same ↦
      let g : eqb x v ≡ true = eq-eqb x v same in
      let h : is_left (set left v false) x ≡ false = ap (is_left (set left v false)) same ∙ get_or-set_same left v false false (left_in left v here) in
      let k : is_left left x ≡ true = ap (is_left left) same ∙ here in
      rw (g, h, k) (omega (arith, ih))
  | inr ne ↦
      let g : eqb x v ≡ false = ne_eqb x v ne in
      let h : is_left (set left v false) x ≡ is_left left x = get_or-set_other left v x false false ne in
      rw (g, h) (omega (arith, ih))
]

pub many_less : (left : List Bool) (v : ℕ) (xs : List ℕ) → is_left left v ≡ true → how_many (is_left left) xs ≡ how_many (is_left (set left v false)) xs + count_of v xs
many_less left v [] here = omega arith
many_less left v (x ∷ xs) here = many_split left v x xs here (many_less left v xs here)

was_left : (left : List Bool) (u v : ℕ) → v < length left → is_left (set left v false) u ≡ true → is_left left u ≡ true
was_left left u v lt e = elim (cases_eq u v) [
  | inl same ↦ absurd (let f = get_or-set_same left v false false lt in let g = ap (λ (m : ℕ). is_left (set left v false) m) same in cc)
  | inr ne ↦ sym (get_or-set_other left v u false false ne) ∙ e
]

-- each neighbour that is left has a degree to lower
pub row_fits : (rows : List (List ℕ)) (buckets : BucketLists) (left : List Bool) (degrees : List ℕ) (level : ℕ) (numbers : List ℕ) (v : ℕ) → IsGraph rows → IsState rows buckets left degrees level numbers
    → is_left left v ≡ true → (u : ℕ) → is_left (set left v false) u ≡ true → count_of u (row_at rows v) ≤ degree_of degrees u
row_fits rows buckets left degrees level numbers v graph state here u e =
    let w = was_left left u v (left_in left v here) e in
    omega (arith, state.kept u w, many_less left v (row_at rows u) here, graph.both_ways u v)

pub peeled_state : (rows : List (List ℕ)) (buckets after : BucketLists) (left : List Bool) (degrees lower : List ℕ) (level : ℕ) (numbers : List ℕ) (v d : ℕ) → IsGraph rows → IsState rows buckets left degrees level numbers
    → is_left left v ≡ true → degree_of degrees v ≡ d → ((u : ℕ) → is_left left u ≡ true → d ≤ degree_of degrees u)
    → AreShelved after (set left v false) lower → ((u : ℕ) → is_left (set left v false) u ≡ true → degree_of lower u + count_of u (row_at rows v) ≡ degree_of degrees u)
    → IsState rows after (set left v false) lower (max level d) (set numbers v (max level d))
peeled_state rows buckets after left degrees lower level numbers v d graph state here d_is least shelved lowered = record {
  shelved = shelved;
  peeled = peeled_one rows left level numbers v d state.peeled here (sym (state.kept v here) ∙ d_is) (λ u e. omega (arith, least u e, state.kept u e));
  kept = λ u e.
      let w = was_left left u v (left_in left v here) e in
      omega (arith, lowered u e, state.kept u w, many_less left v (row_at rows u) here, graph.both_ways u v);
}
