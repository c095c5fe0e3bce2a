-- The neighbours both ways of nodes are the rows of a graph.
use Rattle.std.proofs.Common.{◌≡◌, ◌≢◌, ℕ, ◌+◌, ◌<◌, ◌≤◌, Bool, true, false, not, ◌&&◌, ◌||◌, List, [], ◌∷◌, length, cond, refl, sym, ◌∙◌, ap, subst, inl, inr, arith}
use Rattle.std.specs.Prelude.{◌==◌, ◌^◌}
use Rattle.std.specs.List.{AllByRecursion}
use Rattle.std.specs.Ordering.{nat_cmp}
use Rattle.std.specs.declared.cmp.Ordering.TheVariants.{Less}
use Rattle.std.proofs.lemmas.Bool.{cases_lt, cases_Bool, eq-eqb, ne_eqb, eqb-true, or_cases, or_left, true≢false, false_from_ne_true}
use Rattle.std.proofs.lemmas.List.{get_or_past}
use Rattle.graph_model.specs.declared.queries.Direction.TheVariants.{Both}
use Rattle.graph_model.specs.Rising.{Rises}
use Rattle.world_laws.proofs.Filters.{each_weaker}
use Rattle.world_laws.proofs.ListItems.{each_at}
use Rattle.link_chain.specs.Buckets.{count_of}
use Rattle.graph_store.specs.declared.pairs.Ends.{Ends}
use Rattle.view_trait.specs.Numbered.{is_listed}
use Rattle.present_links.specs.Adjacent.{AdjacentNodes, AreAdjacent, is_link, is_linked, number_at, row_at}
use Rattle.core_algorithm.specs.Peeled.{IsGraph}
use Rattle.present_links.proofs.AmongNumbers.{less_number}

-- ---- numbers that rise

-- between two bounds there are at most as many as the bounds lie apart
few_between : (b m : ℕ) (xs : List ℕ) → Rises nat_cmp xs → AllByRecursion (λ x. b ≤ x) xs → AllByRecursion (λ x. x < m) xs → b ≤ m → length xs + b ≤ m
few_between b m [] h low high le = omega (arith, le)
few_between b m (x ∷ xs) h low high le =
    let more = few_between (x + 1) m xs h.1 (each_weaker (λ y. nat_cmp x y ≡ Less) (λ y. x + 1 ≤ y) (λ y e. (let lt = less_number x y e in omega (arith, lt))) xs h.0) high.1 (let top = high.0 in omega (arith, top)) in
    omega (arith, more, low.0)

each_low : (xs : List ℕ) → AllByRecursion (λ x. 0 ≤ x) xs
each_low [] = tt
each_low (x ∷ xs) = (omega arith, each_low xs)

-- below a bound there are at most as many as the bound
pub few_below : (m : ℕ) (xs : List ℕ) → Rises nat_cmp xs → AllByRecursion (λ x. x < m) xs → length xs ≤ m
few_below m xs h high = let few = few_between 0 m xs h (each_low xs) high (omega arith) in omega (arith, few)

-- and fewer where one is not among them
fewer_between : (b m v : ℕ) (xs : List ℕ) → Rises nat_cmp xs → AllByRecursion (λ x. b ≤ x) xs → AllByRecursion (λ x. x < m) xs → b ≤ v → v < m → is_listed xs v ≡ false → length xs + b < m
fewer_between b m v [] h low high le lt off = omega (arith, le, lt)
fewer_between b m v (x ∷ xs) h low high le lt off = elim (cases_lt x v) [
  | inl less ↦
      let more = fewer_between (x + 1) m v xs h.1 (each_weaker (λ y. nat_cmp x y ≡ Less) (λ y. x + 1 ≤ y) (λ y e. (let l = less_number x y e in omega (arith, l))) xs h.0) high.1 (omega (arith, less)) lt (rest (x == v) off) in
      omega (arith, more, low.0)
  | inr ge ↦
      let ne : x ≢ v = λ same. true≢false (sym (or_left (x == v) (is_listed xs v) (eq-eqb x v same)) ∙ off) in
      let above : v + 1 ≤ x = omega (arith, ge, ne) in
      let all = few_between (v + 1) m (x ∷ xs) h (above, each_weaker (λ y. nat_cmp x y ≡ Less) (λ y. v + 1 ≤ y) (λ y e. (let l = less_number x y e in omega (arith, l, above))) xs h.0) high (omega (arith, lt)) in
      omega (arith, all, le)
]
  where
    rest : (t : Bool) → (t || is_listed xs v) ≡ false → is_listed xs v ≡ false
    rest true k = cc
    rest false k = k

pub fewer_below : (m v : ℕ) (xs : List ℕ) → Rises nat_cmp xs → AllByRecursion (λ x. x < m) xs → v < m → is_listed xs v ≡ false → length xs < m
fewer_below m v xs h high lt off = let few = fewer_between 0 m v xs h (each_low xs) high (omega arith) lt off in omega (arith, few)

none_above : (u : ℕ) (xs : List ℕ) → AllByRecursion (λ y. u < y) xs → count_of u xs ≡ 0
none_above u [] h = refl
none_above u (x ∷ xs) h = let e : (x == u) ≡ false = ne_eqb x u (λ same. (let lt = h.0 in omega (arith, lt, same))) in let none = none_above u xs h.1 in rw e (omega (arith, none))

-- each stands once
pub count_rising : (u : ℕ) (xs : List ℕ) → Rises nat_cmp xs → count_of u xs ≡ cond (is_listed xs u) 1 0
count_rising u [] h = refl
count_rising u (x ∷ xs) h = elim (cases_Bool (x == u)) [
  | inl e ↦
      let none = none_above u xs (each_weaker (λ y. nat_cmp x y ≡ Less) (λ y. u < y) (λ y k. (let l = less_number x y k in omega (arith, l, eqb-true x u e))) xs h.0) in
      rw e (omega (arith, none))
  | inr e ↦ let more = count_rising u xs h.1 in rw e (omega (arith, more))
]

-- what is listed is below the bound of all
pub listed_below : (m u : ℕ) (xs : List ℕ) → AllByRecursion (λ x. x < m) xs → is_listed xs u ≡ true → u < m
listed_below m u [] h on = absurd (true≢false (sym on))
listed_below m u (x ∷ xs) h on = elim (or_cases (x == u) (is_listed xs u) on) [
  | inl e ↦ subst (λ k. k < m) (eqb-true x u e) h.0
  | inr e ↦ listed_below m u xs h.1 e
]

-- ---- rows

module _ (links : List Ends) (a : AdjacentNodes) (h : AreAdjacent links Both a) where
  -- a row behind the last is empty
  row_past : (v : ℕ) → length a.rows ≤ v → row_at a.rows v ≡ []
  row_past v ge = get_or_past a.rows v [] ge

  -- what a row lists is a place
  listed_places : (v u : ℕ) → is_listed (row_at a.rows v) u ≡ true → (v < length a.nodes) × (u < length a.nodes)
  listed_places v u on = (
    elim (cases_lt v (length a.nodes)) [
      | inl lt ↦ lt
      | inr ge ↦ absurd (true≢false (sym on ∙ ap (λ us. is_listed us u) (row_past v (omega (arith, ge, h.count)))))
    ],
    listed_below (length a.nodes) u (row_at a.rows v) (h.within v) on,
  )

  linked_back : (n m : ℕ) → is_linked links Both n m ≡ is_linked links Both m n
  linked_back n m = (λ i. not (turned n m i) && (is_link links n m || is_link links m n)) ∙ ap (λ t. not (m == n) && t) (swapped (is_link links n m) (is_link links m n))
    where
      turned : (i j : ℕ) → (i == j) ≡ (j == i)
      turned i j = elim (cases_Bool (i == j)) [
        | inl e ↦ e ∙ sym (eq-eqb j i (sym (eqb-true i j e)))
        | inr e ↦ e ∙ sym (ne_eqb j i (λ same. true≢false (sym (eq-eqb i j (sym same)) ∙ e)))
      ]

      swapped : (s t : Bool) → (s || t) ≡ (t || s)
      swapped true true = refl
      swapped true false = refl
      swapped false true = refl
      swapped false false = refl

  -- a node is a neighbour of each of its neighbours
  listed_back : (v u : ℕ) → is_listed (row_at a.rows v) u ≡ true → is_listed (row_at a.rows u) v ≡ true
  listed_back v u on =
      let p = listed_places v u on in
      h.exactly u v p.1 p.0 ∙ (linked_back (number_at a.nodes u) (number_at a.nodes v) ∙ (sym (h.exactly v u p.0 p.1) ∙ on))

  listed_both : (v u : ℕ) → is_listed (row_at a.rows v) u ≡ is_listed (row_at a.rows u) v
  listed_both v u = elim (cases_Bool (is_listed (row_at a.rows v) u)) [
    | inl e ↦ e ∙ sym (listed_back v u e)
    | inr e ↦ e ∙ sym (false_from_ne_true (is_listed (row_at a.rows u) v) (λ k. true≢false (sym (listed_back u v k) ∙ e)))
  ]

  -- and no neighbour of its own
  pub not_own : (v : ℕ) → is_listed (row_at a.rows v) v ≡ false
  not_own v = false_from_ne_true (is_listed (row_at a.rows v) v) (λ on. (
      let p = listed_places v v on in
      true≢false (sym on ∙ (h.exactly v v p.0 p.1 ∙ ap (λ t. not t && (is_link links (number_at a.nodes v) (number_at a.nodes v) || is_link links (number_at a.nodes v) (number_at a.nodes v))) (eq-eqb (number_at a.nodes v) (number_at a.nodes v) refl)))
      ))

  pub graph_rows : length a.nodes < 2 ^ 32 → IsGraph a.rows
  graph_rows few = record {
    few = omega (arith, few, h.count);
    short = λ v lt. (let less = fewer_below (length a.nodes) v (row_at a.rows v) (h.rows_rise v) (h.within v) (omega (arith, lt, h.count)) (not_own v) in omega (arith, less, h.count));
    within = λ v k lt kt. (let less = each_at (λ u. u < length a.nodes) (row_at a.rows v) k 0 (h.within v) kt in omega (arith, less, h.count));
    both_ways = λ u v. count_rising u (row_at a.rows v) (h.rows_rise v) ∙ (ap (λ t. cond t 1 0) (listed_both v u) ∙ sym (count_rising v (row_at a.rows u) (h.rows_rise u)));
  }
