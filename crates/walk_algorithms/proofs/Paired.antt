-- Links that are sorted, so that each stands beside its way back.
use Rattle.std.proofs.Common.{◌≡◌, ℕ, ◌+◌, ◌*◌, ◌^◌, ◌<◌, ◌≤◌, ◌⊎◌, Bool, true, false, not, ◌&&◌, ◌||◌, List, cond, length, get_or, refl, sym, subst, ◌∙◌, ap, arith, inl, inr}
use Rattle.std.specs.Prelude.{◌==◌, IsPermutation, nat_lt, if◌then◌else◌}
use Rattle.std.specs.List.{filter}
use Rattle.std.proofs.lemmas.Bool.{cases_Bool, cases_lt, true≢false, false_from_ne_true, and_from, and_parts, or_cases, or_left, or_right, eq-eqb, eqb-true, lt-ltb, ltb-false, ltb-true}
use Rattle.std.proofs.lemmas.List.Folds.{list_any_none}
use Rattle.std.proofs.lemmas.List.{get_or-map, get_or_default}
use Rattle.std.proofs.lemmas.List.MinMax.{IsStrictWeakOrder-by_number}
use Rattle.std.proofs.lemmas.List.Sorted.{sorted_far, list_any-IsPermutation, sum_by-IsPermutation}
use Rattle.std.proofs.lemmas.List.Sums.{length-filter}
use Rattle.std.proofs.lemmas.Map.Keys.{apart_from_distinct}
use Rattle.world_laws.proofs.Filters.{filter_both}
use Rattle.world_laws.proofs.Members.{both_true}
use Rattle.graph_store.specs.declared.pairs.Ends.{Ends}
use Rattle.graph_store.specs.Ends.{ends_at, same_ends}
use Rattle.graph_store.proofs.LinkLaws.{same_ends-equal, same_ends-own}
use Rattle.graph_store.proofs.Listed.{list_any-place}
use Rattle.present_links.specs.declared.link_list.Link.{Link}
use Rattle.walk_algorithms.specs.declared.ways.Ways.{Ways}
use Rattle.present_links.specs.Links.{alone_among, leads_back}
use Rattle.walk_algorithms.specs.Counted.{CountsWays}
use Rattle.present_links.specs.Links.{ends_in, link_ends}
use Rattle.walk_algorithms.specs.Paired.{both_ends, next_back, turned, ArePaired, NoneFar}

-- ---- links in another order

-- as many items of a list pass a test as of a permutation of it
passing_permuted : {X : Type 0} (p : X → Bool) (xs ys : List X) → IsPermutation xs ys → length (filter p ys) ≡ length (filter p xs)
passing_permuted p xs ys moved = length-filter p ys ∙ (sum_by-IsPermutation (λ x. cond (p x) 1 0) xs ys moved ∙ sym (length-filter p xs))

-- the ways of nodes do not depend on the order of the links
pub counted_permuted : (xs ys : List Ends) (table : List (ℕ × Ways)) → IsPermutation xs ys → CountsWays ys ys table → CountsWays xs xs table
counted_permuted xs ys table moved h n =
    let was = h n in record {
      ins = was.ins ∙ passing_permuted (λ (p : Ends). p.dst == n) xs ys moved;
      outs = was.outs ∙ passing_permuted (λ (p : Ends). p.src == n) xs ys moved;
      alone = was.alone ∙ alone n;
    }
  where
    -- a link has a way back in the one order where it has one in the other
    back : (p : Ends) → leads_back ys p ≡ leads_back xs p
    back p = sym (list_any-IsPermutation (same_ends (turned p)) xs ys moved)

    -- so as many links are alone
    alone : (n : ℕ) → length (alone_among ys ys n) ≡ length (alone_among xs xs n)
    alone n =
        ap length (filter_both (λ (p : Ends). p.dst == n) (λ p. not (leads_back ys p)) ys)
        ∙ ((λ k. length (filter (λ p. (p.dst == n) && not (back p k)) ys))
        ∙ (passing_permuted (λ p. (p.dst == n) && not (leads_back xs p)) xs ys moved
        ∙ ap length (sym (filter_both (λ (p : Ends). p.dst == n) (λ p. not (leads_back xs p)) xs))))

-- ---- sorted links

-- a link has the number of its way back
turned_number : (p : Ends) → both_ends (turned p) ≡ both_ends p
turned_number p = by (nat_lt p.src p.dst) (nat_lt p.dst p.src) refl refl
  where
    by : (b c : Bool) → nat_lt p.src p.dst ≡ b → nat_lt p.dst p.src ≡ c → (if b then p.src * 2 ^ 32 + p.dst else p.dst * 2 ^ 32 + p.src) ≡ (if c then p.dst * 2 ^ 32 + p.src else p.src * 2 ^ 32 + p.dst)
    by true true e f = let x = ltb-true p.src p.dst e in let y = ltb-true p.dst p.src f in absurd (omega (arith, x, y))
    by true false e f = refl
    by false true e f = refl
    by false false e f = let x = ltb-false p.src p.dst e in let y = ltb-false p.dst p.src f in omega (arith, x, y)

-- the ends of a link in its place
pub link_at : (links : List Link) (i : ℕ) → i < length links → ends_at (ends_in links) i ≡ link_ends (get_or links i (record { src = 0; dst = 0 }))
link_at links i below = get_or-map link_ends links i (record { src = 0; dst = 0 }) (record { src = 0; dst = 0 }) below

-- no way back of one of the first links stands behind them
abbrev pub NoneCut : List Ends → ℕ → Type 0
NoneCut links i = (j k : ℕ) → j < i → i ≤ k → k < length links → same_ends (turned (ends_at links j)) (ends_at links k) ≡ false

module _ (links : List Ends) (h : ArePaired links) where
  -- the ends in a place where there is no link
  abbrev none : Ends
  none = record { src = 0; dst = 0 }

  -- links at two places differ
  apart : (i j : ℕ) → i < j → j < length links → ends_at links i ≡ ends_at links j → ⊥
  apart i j less below same = true≢false (sym (ap (same_ends (ends_at links i)) (sym same) ∙ same_ends-own (ends_at links i)) ∙ apart_from_distinct same_ends links i j none h.once less below)

  -- numbers do not fall
  up : (i j : ℕ) → i ≤ j → j < length links → both_ends (ends_at links i) ≤ both_ends (ends_at links j)
  up i j le below = ltb-false (both_ends (ends_at links j)) (both_ends (ends_at links i)) (sorted_far (λ (p q : Ends). nat_lt (both_ends p) (both_ends q)) (IsStrictWeakOrder-by_number both_ends) links h.sorted i j none le below)

  -- no way back stands behind the next link, where that leads back, or is the same link, or has another number
  none_far : (i : ℕ) (p q : Ends) → ends_at links i ≡ p → ends_at links (i + 1) ≡ q → (both_ends q ≡ both_ends p → (same_ends (turned p) q ≡ true) ⊎ (q ≡ p)) → NoneFar links i
  none_far i p q is_p is_q next k far below = false_from_ne_true (same_ends (turned (ends_at links i)) (ends_at links k)) (λ e.
      let back : turned (ends_at links i) ≡ ends_at links k = same_ends-equal (turned (ends_at links i)) (ends_at links k) e in
      let last : both_ends (ends_at links k) ≡ both_ends (ends_at links i) = ap both_ends (sym back) ∙ turned_number (ends_at links i) in
      let a = up i (i + 1) (omega arith) (omega arith) in
      let b = up (i + 1) k (omega arith) below in
      let one : both_ends (ends_at links (i + 1)) ≡ both_ends (ends_at links i) = omega (arith, a, b, last) in
      elim (next (ap both_ends (sym is_q) ∙ (one ∙ ap both_ends is_p))) [
        | inl there ↦ apart (i + 1) k far below (is_q ∙ (sym (same_ends-equal (turned p) q there) ∙ (ap turned (sym is_p) ∙ back)))
        | inr same ↦ apart i (i + 1) (omega arith) (omega arith) (is_p ∙ (sym same ∙ sym is_q))
      ])

  module _ (i : ℕ) (below : i < length links) (cut : NoneCut links i) (far : NoneFar links i) where
    -- the link at the place
    abbrev here : Ends
    here = ends_at links i

    -- the way back of a link stands right behind it, or is itself
    back_place : (k : ℕ) → k < length links → same_ends (turned here) (ends_at links k) ≡ true → (k ≡ i) ⊎ (k ≡ i + 1)
    back_place k exists e = elim (cases_lt k i) [
      | inl less ↦
          let own : turned (ends_at links k) ≡ here = λ t. turned (sym (same_ends-equal (turned here) (ends_at links k) e) t) in
          absurd (true≢false (sym (ap (λ x. same_ends x here) own ∙ same_ends-own here) ∙ cut k i less (omega arith) below))
      | inr le ↦ elim (cases_lt (i + 1) k) [
        | inl more ↦ absurd (true≢false (sym e ∙ far k more exists))
        | inr few ↦ elim (cases_lt i k) [
          | inl more ↦ inr (omega arith)
          | inr last ↦ inl (omega arith)
        ]
      ]
    ]

    -- the next link is asked only where there is one
    next_there : (i + 1 < length links) → same_ends (turned here) (ends_at links (i + 1)) ≡ true → next_back links i ≡ true
    next_there exists e = and_from (nat_lt (i + 1) (length links)) (same_ends (turned here) (ends_at links (i + 1))) (lt-ltb (i + 1) (length links) exists) e

    -- where the next link leads back, there is one, and it is the way back
    pub next_is : next_back links i ≡ true → (i + 1 < length links) × (turned here ≡ ends_at links (i + 1))
    next_is e =
        let two = and_parts (nat_lt (i + 1) (length links)) (same_ends (turned here) (ends_at links (i + 1))) e in
        (ltb-true (i + 1) (length links) two.0, same_ends-equal (turned here) (ends_at links (i + 1)) two.1)

    -- and the link is no loop then
    pub next_apart : next_back links i ≡ true → here.src ≡ here.dst → ⊥
    next_apart e loop =
        let two = next_is e in
        let own : here ≡ turned here = λ t. record { src = loop t; dst = sym loop t } in
        apart i (i + 1) (omega arith) two.0 (own ∙ two.1)

    -- a link has a way back where the next one is it, or where it is a loop
    pub back_here : leads_back links here ≡ (next_back links i || (here.src == here.dst))
    back_here = both_true (leads_back links here) (next_back links i || (here.src == here.dst)) found given
      where
        found : leads_back links here ≡ true → (next_back links i || (here.src == here.dst)) ≡ true
        found e = elim (cases_Bool (next_back links i)) [
          | inl is ↦ or_left (next_back links i) (here.src == here.dst) is
          | inr not_is ↦ elim (cases_Bool (here.src == here.dst)) [
            | inl is ↦ or_right (next_back links i) (here.src == here.dst) is
            | inr other ↦ absurd (true≢false (sym e ∙ list_any_none (same_ends (turned here)) links (λ k f lt.
                false_from_ne_true _ (λ there.
                let seen : same_ends (turned here) (ends_at links k) ≡ true = ap (same_ends (turned here)) (sym (get_or_default links k f none lt)) ∙ there in
                elim (back_place k lt seen) [
                  | inl same ↦ true≢false (sym (eq-eqb here.src here.dst (ap (λ (x : Ends). x.dst) (same_ends-equal (turned here) (ends_at links k) seen ∙ ap (ends_at links) same))) ∙ other)
                  | inr next ↦ true≢false (sym (next_there (omega arith) (ap (λ x. same_ends (turned here) (ends_at links x)) (sym next) ∙ seen)) ∙ not_is)
                ]))))
          ]
        ]

        given : (next_back links i || (here.src == here.dst)) ≡ true → leads_back links here ≡ true
        given e = elim (or_cases (next_back links i) (here.src == here.dst) e) [
          | inl is ↦
              let two = next_is is in
              list_any-place (same_ends (turned here)) links (i + 1) none two.0 (ap (same_ends (turned here)) (sym two.1) ∙ same_ends-own (turned here))
          | inr is ↦
              let loop = eqb-true here.src here.dst is in
              let own : turned here ≡ here = λ t. record { src = sym loop t; dst = loop t } in
              list_any-place (same_ends (turned here)) links i none below (ap (same_ends (turned here)) (sym own) ∙ same_ends-own (turned here))
        ]

    -- and so has the next one then
    pub back_next : next_back links i ≡ true → leads_back links (ends_at links (i + 1)) ≡ true
    back_next e =
        let two = next_is e in
        list_any-place (same_ends (turned (ends_at links (i + 1)))) links i none below (ap (λ x. same_ends (turned x) here) (sym two.1) ∙ same_ends-own here)

    -- a link whose way back does not follow is not parted from it by going one on
    pub cut_one : next_back links i ≡ false → NoneCut links (i + 1)
    cut_one not_is j k less le exists = elim (cases_lt j i) [
      | inl first ↦ cut j k first (omega arith) exists
      | inr last ↦
          let same : j ≡ i = omega arith in
          false_from_ne_true _ (λ e.
          let seen : same_ends (turned here) (ends_at links k) ≡ true = ap (λ x. same_ends (turned (ends_at links x)) (ends_at links k)) (sym same) ∙ e in
          elim (back_place k exists seen) [
            | inl own ↦ absurd (omega arith)
            | inr next ↦ true≢false (sym (next_there (omega arith) (ap (λ x. same_ends (turned here) (ends_at links x)) (sym next) ∙ seen)) ∙ not_is)
          ])
    ]

    -- nor is one whose way back follows by going two on
    pub cut_two : next_back links i ≡ true → NoneCut links (i + 2)
    cut_two is j k less le exists = elim (cases_lt j i) [
      | inl first ↦ cut j k first (omega arith) exists
      | inr last ↦ false_from_ne_true _ (λ e.
          let two = next_is is in
          let back : turned (ends_at links j) ≡ ends_at links k = same_ends-equal (turned (ends_at links j)) (ends_at links k) e in
          elim (cases_lt i j) [
            | inl more ↦
                let same : j ≡ i + 1 = omega arith in
                apart i k (omega arith) exists (ap turned two.1 ∙ (ap (λ x. turned (ends_at links x)) (sym same) ∙ back))
            | inr few ↦
                let same : j ≡ i = omega arith in
                apart (i + 1) k (omega arith) exists (sym two.1 ∙ (ap (λ x. turned (ends_at links x)) (sym same) ∙ back))
          ])
    ]

-- no way back stands behind the next link, where that leads back, or is the same link, or has another number
pub none_far_links : (links : List Link) → ArePaired (ends_in links) → (i : ℕ) → i + 1 < length links → (back : Bool)
    → back ≡ same_ends (turned (link_ends (get_or links i (record { src = 0; dst = 0 })))) (link_ends (get_or links (i + 1) (record { src = 0; dst = 0 })))
    → (both_ends (link_ends (get_or links (i + 1) (record { src = 0; dst = 0 }))) ≡ both_ends (link_ends (get_or links i (record { src = 0; dst = 0 }))) → (back ≡ true) ⊎ (link_ends (get_or links (i + 1) (record { src = 0; dst = 0 })) ≡ link_ends (get_or links i (record { src = 0; dst = 0 }))))
    → NoneFar (ends_in links) i
none_far_links links h i below back is next =
    none_far (ends_in links) h i (link_ends (get_or links i (record { src = 0; dst = 0 }))) (link_ends (get_or links (i + 1) (record { src = 0; dst = 0 })))
    (link_at links i (omega arith)) (link_at links (i + 1) below)
    (subst (λ t. both_ends (link_ends (get_or links (i + 1) (record { src = 0; dst = 0 }))) ≡ both_ends (link_ends (get_or links i (record { src = 0; dst = 0 }))) → (t ≡ true) ⊎ (link_ends (get_or links (i + 1) (record { src = 0; dst = 0 })) ≡ link_ends (get_or links i (record { src = 0; dst = 0 })))) is next)
