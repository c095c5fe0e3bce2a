-- One node is peeled.
use Rattle.std.proofs.Common.{◌≡◌, ◌≢◌, ℕ, ◌+◌, ◌<◌, ◌≤◌, max, Bool, true, false, cond, List, [], ◌∷◌, length, set, get_or, refl, sym, ap, ◌∙◌, subst, inl, inr, arith}
use Rattle.std.proofs.lemmas.Bool.{cases_eq, cases_lt}
use Rattle.std.proofs.lemmas.List.{length-set, get_or-set_same, get_or-set_other, get_or_past}
use Rattle.present_links.specs.Adjacent.{row_at}
use Rattle.core_algorithm.specs.Peeled.{how_many, IsKSet, IsGreatest, is_left, IsPeeled}

one_more : (a b : Bool) (m n : ℕ) → (a ≡ true → b ≡ true) → m ≤ n → cond a 1 0 + m ≤ cond b 1 0 + n
one_more true true m n inside le = omega (arith, le)
one_more true false m n inside le = absurd (let e = inside refl in cc)
one_more false true m n inside le = omega (arith, le)
one_more false false m n inside le = omega (arith, le)

-- a larger set has at least as many of a list
pub how_many_more : (small large : ℕ → Bool) (xs : List ℕ) → ((v : ℕ) → small v ≡ true → large v ≡ true) → how_many small xs ≤ how_many large xs
how_many_more small large [] inside = omega arith
how_many_more small large (x ∷ xs) inside = one_more (small x) (large x) (how_many small xs) (how_many large xs) (inside x) (how_many_more small large xs inside)

pub left_in : (left : List Bool) (v : ℕ) → is_left left v ≡ true → v < length left
left_in left v e = elim (cases_lt v (length left)) [
  | inl lt ↦ lt
  | inr ge ↦ absurd (let f = get_or_past left v false ge in cc)
]

-- every set with more than the new level is among what is left, without the node
gone : (rows : List (List ℕ)) (left : List Bool) (level : ℕ) (numbers : List ℕ) (v d : ℕ) → IsPeeled rows left level numbers
    → how_many (is_left left) (row_at rows v) ≡ d → (set : ℕ → Bool) (j : ℕ) → IsKSet rows j set → level < j → d < j → set v ≡ true → ⊥
gone rows left level numbers v d peeled d_is set j is_set lt dt has =
    omega (arith, (is_set v has).1, how_many_more set (is_left left) (row_at rows v) (peeled.above set j is_set lt), d_is, dt)

-- a set that has enough neighbours for a level and has all that is left
pub record IsWide (rows : List (List ℕ)) (left : List Bool) (level : ℕ) : Type 0 where
  pub wide : ℕ → Bool
  pub is_set : IsKSet rows level wide
  pub has_left : (v : ℕ) → is_left left v ≡ true → wide v ≡ true

wider : (rows : List (List ℕ)) (left : List Bool) (level : ℕ) (numbers : List ℕ) (d : ℕ) → IsPeeled rows left level numbers
    → ((u : ℕ) → is_left left u ≡ true → d ≤ how_many (is_left left) (row_at rows u)) → IsWide rows left (max level d)
wider rows left level numbers d peeled least = elim (cases_lt level d) [
  | inl lt ↦ subst (λ (m : ℕ). IsWide rows left m) (omega arith)
      (record { wide = is_left left; is_set = λ u e. (omega (arith, left_in left u e, peeled.lefts), least u e); has_left = λ u e. e })
  | inr ge ↦ subst (λ (m : ℕ). IsWide rows left m) (omega arith) (record { wide = peeled.wide; is_set = peeled.is_set; has_left = peeled.has_left })
]

-- the core number of the node that is peeled
pub number_is : (rows : List (List ℕ)) (left : List Bool) (level : ℕ) (numbers : List ℕ) (v d : ℕ) → IsPeeled rows left level numbers → is_left left v ≡ true
    → how_many (is_left left) (row_at rows v) ≡ d → ((u : ℕ) → is_left left u ≡ true → d ≤ how_many (is_left left) (row_at rows u))
    → IsGreatest rows v (max level d)
number_is rows left level numbers v d peeled has d_is least =
    let w = wider rows left level numbers d peeled least in (
      (w.wide, w.is_set, w.has_left v has),
      λ j core. elim (cases_lt (max level d) j) [
        | inl lt ↦ absurd (gone rows left level numbers v d peeled d_is core.0 j core.1 (omega (arith, lt)) (omega (arith, lt)) core.2)
        | inr ge ↦ ge
      ],
    )

stays : (left : List Bool) (u v : ℕ) → u ≢ v → is_left left u ≡ true → is_left (set left v false) u ≡ true
stays left u v ne e = get_or-set_other left v u false false ne ∙ e

was : (left : List Bool) (u v : ℕ) → v < length left → is_left (set left v false) u ≡ true → is_left left u ≡ true
was left u v lt e = elim (cases_eq u v) [
  | inl same ↦ absurd (let f = get_or-set_same left v false false lt in let g = ap (λ (m : ℕ). is_left (set left v false) m) same in cc)
  | inr ne ↦ sym (get_or-set_other left v u false false ne) ∙ e
]

pub peeled_one : (rows : List (List ℕ)) (left : List Bool) (level : ℕ) (numbers : List ℕ) (v d : ℕ) → IsPeeled rows left level numbers → is_left left v ≡ true
    → how_many (is_left left) (row_at rows v) ≡ d → ((u : ℕ) → is_left left u ≡ true → d ≤ how_many (is_left left) (row_at rows u))
    → IsPeeled rows (set left v false) (max level d) (set numbers v (max level d))
peeled_one rows left level numbers v d peeled has d_is least =
    let lt : v < length left = left_in left v has in
    let w = wider rows left level numbers d peeled least in
    let number = number_is rows left level numbers v d peeled has d_is least in
    let lefts : length (set left v false) ≡ length rows = length-set left v false ∙ peeled.lefts in
    let count : length (set numbers v (max level d)) ≡ length rows = length-set numbers v (max level d) ∙ peeled.count in
    let above : (other : ℕ → Bool) (j : ℕ) → IsKSet rows j other → max level d < j → (u : ℕ) → other u ≡ true → is_left (set left v false) u ≡ true =
    λ other j is_set jt u e. elim (cases_eq u v) [
      | inl same ↦ absurd (gone rows left level numbers v d peeled d_is other j is_set (omega (arith, jt)) (omega (arith, jt)) (subst (λ (m : ℕ). other m ≡ true) same e))
      | inr ne ↦ stays left u v ne (peeled.above other j is_set (omega (arith, jt)) u e)
    ] in
    let done : (u : ℕ) → u < length rows → is_left (set left v false) u ≡ false → IsGreatest rows u (get_or (set numbers v (max level d)) u 0) =
    λ u ut e. elim (cases_eq u v) [
      | inl same ↦ subst (λ (m : ℕ). IsGreatest rows m (get_or (set numbers v (max level d)) m 0)) (sym same)
          (subst (IsGreatest rows v) (sym (get_or-set_same numbers v (max level d) 0 (omega (arith, lt, peeled.lefts, peeled.count)))) number)
      | inr ne ↦ subst (IsGreatest rows u) (sym (get_or-set_other numbers v u (max level d) 0 ne))
          (peeled.done u ut (sym (get_or-set_other left v u false false ne) ∙ e))
    ] in
    record {
      lefts = lefts;
      count = count;
      wide = w.wide;
      is_set = w.is_set;
      has_left = λ u e. w.has_left u (was left u v lt e);
      above = above;
      done = done;
    }
