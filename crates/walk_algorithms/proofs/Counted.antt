-- Links that are counted at their ends, each with its way back.
use Rattle.std.proofs.Common.{◌≡◌, ℕ, ◌+◌, ◌<◌, ◌≤◌, ◌^◌, ◌⊎◌, Bool, true, false, not, ◌&&◌, ◌||◌, List, length, get_or, take, [], refl, sym, ◌∙◌, ap, subst, arith, inl, inr}
use Rattle.std.specs.Prelude.{◌==◌, if◌then◌else◌}
use Rattle.std.specs.List.{filter}
use Rattle.std.proofs.lemmas.Int.{clamps}
use Rattle.std.proofs.lemmas.Bool.{cases_Bool, eq-eqb, eqb-true, or_right, true≢false, false_from_ne_true}
use Rattle.std.proofs.lemmas.List.{length-map, length-take, take_all}
use Rattle.std.proofs.lemmas.List.Filters.{length-filter_more}
use Rattle.world_laws.proofs.Counts.{length_filter_le}
use Rattle.world_laws.proofs.Filters.{filter_both}
use Rattle.graph_store.specs.declared.pairs.Ends.{Ends}
use Rattle.graph_store.specs.Ends.{ends_at}
use Rattle.present_links.specs.declared.link_list.Link.{Link}
use Rattle.walk_algorithms.specs.declared.ways.Ways.{Ways}
use Rattle.present_links.specs.Links.{links_from, links_to, leads_back, alone_among}
use Rattle.walk_algorithms.specs.Counted.{AreFew, AreWays, CountsWays, IsJoined, between, ways_after, plus, ways_of}
use Rattle.present_links.specs.Links.{ends_in, link_ends}
use Rattle.walk_algorithms.specs.Paired.{next_back, turned, ArePaired, NoneFar}
use Rattle.walk_algorithms.proofs.Paired.{back_here, back_next, cut_one, cut_two, link_at, next_apart, next_is, NoneCut}

-- no link is counted before the first
pub counted_none : (links : List Ends) → CountsWays links (take 0 links) []
counted_none links n = record { ins = refl; outs = refl; alone = refl }

-- one where a test passes
abbrev one_if : Bool → ℕ
one_if t = if t then 1 else 0

-- a test and one that passes
and_true : (t : Bool) → (t && true) ≡ t
and_true true = refl
and_true false = refl

-- a test and one that does not
and_false : (t : Bool) → (t && false) ≡ false
and_false true = refl
and_false false = refl

-- the numbers of a node's ways with a link more, and with its way back where that stands next: whether the link begins at the node, whether it ends there, whether the next one is counted too, and whether some link leads back
more_ways : (s d t b : Bool) (w : Ways) (i o a i' o' a' : ℕ) → (s ≡ true → d ≡ true → (t ≡ false) × (b ≡ true)) → (s ≡ not d → b ≡ t) → w.ins ≡ i → w.outs ≡ o → w.alone ≡ a
    → i' ≡ i + (one_if d + one_if (s && t))
    → o' ≡ o + (one_if s + one_if (d && t))
    → a' ≡ a + one_if (d && not b)
    → let v : Ways = if s then plus w (between true b) else (if d then plus w (between b true) else w) in (v.ins ≡ i') × (v.outs ≡ o') × (v.alone ≡ a')
more_ways true true t b w i o a i' o' a' loop one x y z u v r =
    let two = loop refl refl in
    let e : one_if t ≡ 0 = ap one_if two.0 in
    let f : one_if b ≡ 1 = ap one_if two.1 in
    let g : one_if (not b) ≡ 0 = ap (λ k. one_if (not k)) two.1 in
    (omega (arith, x, u, e, f), omega (arith, y, v, e, f), omega (arith, z, r, g))
more_ways true false t b w i o a i' o' a' loop one x y z u v r =
    let e : one_if b ≡ one_if t = ap one_if (one refl) in
    (omega (arith, x, u, e), omega (arith, y, v), omega (arith, z, r))
more_ways false true t b w i o a i' o' a' loop one x y z u v r =
    let e : one_if b ≡ one_if t = ap one_if (one refl) in
    let f : one_if (not b && true) ≡ one_if (not b) = ap one_if (and_true (not b)) in
    (omega (arith, x, u), omega (arith, y, v, e), omega (arith, z, r, f))
more_ways false false t b w i o a i' o' a' loop one x y z u v r = (omega (arith, x, u), omega (arith, y, v), omega (arith, z, r))

-- the first items are no more than all
short_taken : {X : Type 0} (k : ℕ) (xs : List X) → length (take k xs) ≤ length xs
short_taken k xs = rw (length-take k xs) (omega (arith, clamps))

-- where the next link to be counted stands
abbrev next_place : List Ends → ℕ → ℕ
next_place links i = i + (if next_back links i then 2 else 1)

module _ (links : List Ends) (h : ArePaired links) (i : ℕ) (below : i < length links) (cut : NoneCut links i) (far : NoneFar links i) where
  -- the link at the place
  abbrev here : Ends
  here = ends_at links i

  -- whether some link leads back from its end
  abbrev back : Bool
  back = leads_back links here

  -- the links counted do not part from their ways back
  cut_next : NoneCut links (next_place links i)
  cut_next = elim (cases_Bool (next_back links i)) [
    | inl is ↦ subst (NoneCut links) (ap (λ t. i + (if t then 2 else 1)) (sym is)) (cut_two links h i below cut far is)
    | inr not_is ↦ subst (NoneCut links) (ap (λ t. i + (if t then 2 else 1)) (sym not_is)) (cut_one links h i below cut far not_is)
  ]

  -- how many links pass a test, with one and its way back more
  links_more : (test : Ends → Bool) → length (filter test (take (next_place links i) links)) ≡ length (filter test (take i links)) + (one_if (test here) + one_if (test (turned here) && next_back links i))
  links_more test = elim (cases_Bool (next_back links i)) [
    | inl is ↦
        let two = next_is links h i below cut far is in
        let one = length-filter_more test links i (record { src = 0; dst = 0 }) below in
        let more = length-filter_more test links (i + 1) (record { src = 0; dst = 0 }) two.0 in
        let place : next_place links i ≡ i + 2 = ap (λ t. i + (if t then 2 else 1)) is in
        let other : one_if (test (turned here) && next_back links i) ≡ one_if (test (ends_at links (i + 1))) = ap (λ t. one_if (test (turned here) && t)) is ∙ (ap one_if (and_true (test (turned here))) ∙ ap (λ x. one_if (test x)) two.1) in
        let same : i + 2 ≡ i + 1 + 1 = omega arith in
        let end : length (filter test (take (next_place links i) links)) ≡ length (filter test (take (i + 1 + 1) links)) = ap (λ k. length (filter test (take k links))) (place ∙ same) in
        omega (arith, one, more, other, end)
    | inr not_is ↦
        let one = length-filter_more test links i (record { src = 0; dst = 0 }) below in
        let place : next_place links i ≡ i + 1 = ap (λ t. i + (if t then 2 else 1)) not_is in
        let other : one_if (test (turned here) && next_back links i) ≡ 0 = ap (λ t. one_if (test (turned here) && t)) not_is ∙ ap one_if (and_false (test (turned here))) in
        let end : length (filter test (take (next_place links i) links)) ≡ length (filter test (take (i + 1) links)) = ap (λ k. length (filter test (take k links))) place in
        omega (arith, one, other, end)
  ]

  -- that is the next one, or the link itself
  back_is : back ≡ (next_back links i || (here.src == here.dst))
  back_is = back_here links h i below cut far

  module _ (before : List (ℕ × Ways)) (counted : CountsWays links (take i links) before) where
    -- the ways of a node after a link is counted with its way back
    ways_more : (n : ℕ) → AreWays links (take (next_place links i) links) n (ways_after here.src here.dst true back n (ways_of before n))
    ways_more n =
        let was = counted n in
        let m =
        more_ways (here.src == n) (here.dst == n) (next_back links i) back (ways_of before n) (length (links_to (take i links) n)) (length (links_from (take i links) n)) (length (alone_among links (take i links) n)) (length (links_to (take (next_place links i) links) n)) (length (links_from (take (next_place links i) links) n)) (length (alone_among links (take (next_place links i) links) n))
        loop one was.ins was.outs was.alone
        (links_more (λ p. p.dst == n))
        (links_more (λ p. p.src == n))
        alone_more in
        record { ins = m.0; outs = m.1; alone = m.2 }
      where
        -- a loop is its own way back
        loop : (here.src == n) ≡ true → (here.dst == n) ≡ true → (next_back links i ≡ false) × (back ≡ true)
        loop e f =
            let own : here.src ≡ here.dst = eqb-true here.src n e ∙ sym (eqb-true here.dst n f) in
            (false_from_ne_true (next_back links i) (λ is. next_apart links h i below cut far is own), back_is ∙ or_right (next_back links i) (here.src == here.dst) (eq-eqb here.src here.dst own))

        -- where the link is no loop, only the next one can lead back
        one : (here.src == n) ≡ not (here.dst == n) → back ≡ next_back links i
        one e =
            let other : (here.src == here.dst) ≡ false = false_from_ne_true (here.src == here.dst) (λ k. apart (here.dst == n) (sym (ap (λ x. x == n) (eqb-true here.src here.dst k)) ∙ e)) in
            back_is ∙ (ap (λ t. next_back links i || t) other ∙ or_false (next_back links i))
          where
            apart : (t : Bool) → t ≡ not t → ⊥
            apart true k = true≢false k
            apart false k = true≢false (sym k)

            or_false : (t : Bool) → (t || false) ≡ t
            or_false true = refl
            or_false false = refl

        -- a way back that is counted too has a way back itself
        alone_more : length (alone_among links (take (next_place links i) links) n) ≡ length (alone_among links (take i links) n) + one_if ((here.dst == n) && not back)
        alone_more =
            let all = λ (k : ℕ). ap length (filter_both (λ (p : Ends). p.dst == n) (λ p. not (leads_back links p)) (take k links)) in
            let more = links_more (λ p. (p.dst == n) && not (leads_back links p)) in
            let none : one_if (((here.src == n) && not (leads_back links (turned here))) && next_back links i) ≡ 0 = elim (cases_Bool (next_back links i)) [
              | inl is ↦ ap (λ t. one_if (((here.src == n) && not t) && next_back links i)) (ap (leads_back links) (next_is links h i below cut far is).1 ∙ back_next links h i below cut far is) ∙ ap (λ t. one_if (t && next_back links i)) (and_false (here.src == n))
              | inr not_is ↦ ap (λ t. one_if (((here.src == n) && not (leads_back links (turned here))) && t)) not_is ∙ ap one_if (and_false ((here.src == n) && not (leads_back links (turned here))))
            ] in
            let x = all (next_place links i) in
            let y = all i in
            omega (arith, x, y, more, none)

    -- so some more links are counted
    counted_more : (src dst : ℕ) → src ≡ here.src → dst ≡ here.dst → (t : Bool) → t ≡ back → (after : List (ℕ × Ways)) → IsJoined src dst true t before after → CountsWays links (take (next_place links i) links) after
    counted_more src dst is_src is_dst t is_back after j n =
        subst (AreWays links (take (next_place links i) links) n) (sym (j n ∙ (λ k. ways_after (is_src k) (is_dst k) true (is_back k) n (ways_of before n)))) (ways_more n)

    -- ways by few links are few
    few_more : length links < 2 ^ 32 → (n : ℕ) (ways : Ways) → ways_after here.src here.dst true back n (ways_of before n) ≡ ways → AreFew ways
    few_more few n ways is =
        let some = take (next_place links i) links in
        let m = subst (AreWays links some n) is (ways_more n) in
        let kept = short_taken (next_place links i) links in
        let ins = length_filter_le (λ (p : Ends). p.dst == n) some in
        let outs = length_filter_le (λ (p : Ends). p.src == n) some in
        let alone = length_filter_le (λ (p : Ends). not (leads_back links p)) (links_to some n) in
        (omega (arith, m.ins, ins, kept, few), omega (arith, m.outs, outs, kept, few), omega (arith, m.alone, alone, ins, kept, few))

    -- so are those of the node where the link begins
    few_src : length links < 2 ^ 32 → (src : ℕ) → src ≡ here.src → (t : Bool) → t ≡ back → AreFew (plus (ways_of before src) (between true t))
    few_src few src is_src t is_back =
        few_more few src (plus (ways_of before src) (between true t))
        (ap (λ b. if b then plus (ways_of before src) (between true back) else (if (here.dst == src) then plus (ways_of before src) (between back true) else ways_of before src)) (eq-eqb here.src src (sym is_src))
        ∙ (λ k. plus (ways_of before src) (between true (sym is_back k))))

    -- and those of the node where it ends
    few_dst : length links < 2 ^ 32 → (dst : ℕ) → dst ≡ here.dst → (t : Bool) → t ≡ back → AreFew (plus (ways_of before dst) (between t true))
    few_dst few dst is_dst t is_back =
        few_more few dst (plus (ways_of before dst) (between t true))
        ((elim (cases_Bool (here.src == dst)) [
          | inl e ↦
              let own : here.src ≡ here.dst = eqb-true here.src dst e ∙ is_dst in
              let loop : true ≡ back = sym (back_is ∙ or_right (next_back links i) (here.src == here.dst) (eq-eqb here.src here.dst own)) in
              ap (λ b. if b then plus (ways_of before dst) (between true back) else (if (here.dst == dst) then plus (ways_of before dst) (between back true) else ways_of before dst)) e
              ∙ (λ k. plus (ways_of before dst) (between (loop k) (sym loop k)))
          | inr e ↦
              ap (λ b. if b then plus (ways_of before dst) (between true back) else (if (here.dst == dst) then plus (ways_of before dst) (between back true) else ways_of before dst)) e
              ∙ ap (λ b. if b then plus (ways_of before dst) (between back true) else ways_of before dst) (eq-eqb here.dst dst (sym is_dst))
        ])
        ∙ (λ k. plus (ways_of before dst) (between (sym is_back k) true)))

-- ---- links as a function has them

module _ (slice : List Link) (h : ArePaired (ends_in slice)) (i : ℕ) (exists : i < length slice) (cut : NoneCut (ends_in slice) i) (far : NoneFar (ends_in slice) i) (before : List (ℕ × Ways)) (counted : CountsWays (ends_in slice) (take i (ends_in slice)) before)
    (next : Bool) (is_next : next ≡ next_back (ends_in slice) i) (back : Bool) (chosen : ((next ≡ true) × (back ≡ next)) ⊎ ((next ≡ false) × (back ≡ ((get_or slice i (record { src = 0; dst = 0 })).src == (get_or slice i (record { src = 0; dst = 0 })).dst)))) where
  -- the ends of all links
  abbrev links : List Ends
  links = ends_in slice

  -- the link at the place
  abbrev link : Link
  link = get_or slice i (record { src = 0; dst = 0 })

  -- they are as many
  long : length links ≡ length slice
  long = length-map slice link_ends

  -- so the place is one of theirs
  below : i < length links
  below = omega (arith, long, exists)

  -- the ends of the link stand there
  its : link_ends link ≡ ends_at links i
  its = sym (link_at slice i exists)

  -- so it begins where they say
  src_is : link.src ≡ (ends_at links i).src
  src_is = ap (λ (p : Ends). p.src) its

  -- and ends where they say
  dst_is : link.dst ≡ (ends_at links i).dst
  dst_is = ap (λ (p : Ends). p.dst) its

  -- whether some link leads back is what was chosen
  leads : back ≡ leads_back links (ends_at links i)
  leads = chosen_is chosen ∙ ((λ k. is_next k || (src_is k == dst_is k)) ∙ sym (back_here links h i below cut far))
    where
      chosen_is : ((next ≡ true) × (back ≡ next)) ⊎ ((next ≡ false) × (back ≡ (link.src == link.dst))) → back ≡ (next || (link.src == link.dst))
      chosen_is (inl e) = e.1 ∙ (e.0 ∙ sym (ap (λ t. t || (link.src == link.dst)) e.0))
      chosen_is (inr e) = e.1 ∙ sym (ap (λ t. t || (link.src == link.dst)) e.0)

  -- the ways of the node where the link begins can be counted
  pub src_few : length slice < 2 ^ 32 → AreFew (plus (ways_of before link.src) (between true back))
  src_few few = few_src links h i below cut far before counted (omega (arith, long, few)) link.src src_is back leads

  -- and those of the node where it ends
  pub dst_few : length slice < 2 ^ 32 → AreFew (plus (ways_of before link.dst) (between back true))
  dst_few few = few_dst links h i below cut far before counted (omega (arith, long, few)) link.dst dst_is back leads

  -- once they are, more of the links are counted, and they do not part
  pub step_counted : (after : List (ℕ × Ways)) → IsJoined link.src link.dst true back before after → (step : ℕ) → ((next ≡ true) × (step ≡ 2)) ⊎ ((next ≡ false) × (step ≡ 1))
      → CountsWays links (take (i + step) links) after × NoneCut links (i + step)
  step_counted after joins step ahead =
      let place : next_place links i ≡ i + step = ap (λ t. i + (if t then 2 else 1)) (sym is_next) ∙ ap (λ k. i + k) (sym (steps ahead)) in (
        subst (λ k. CountsWays links (take k links) after) place (counted_more links h i below cut far before counted link.src link.dst src_is dst_is back leads after joins),
        subst (NoneCut links) place (cut_next links h i below cut far),
      )
    where
      steps : ((next ≡ true) × (step ≡ 2)) ⊎ ((next ≡ false) × (step ≡ 1)) → step ≡ (if next then 2 else 1)
      steps (inl e) = e.1 ∙ sym (ap (λ t. if t then 2 else 1) e.0)
      steps (inr e) = e.1 ∙ sym (ap (λ t. if t then 2 else 1) e.0)

-- all links are counted once the place is behind the last
pub counted_all : (slice : List Link) (i : ℕ) → length slice ≤ i → (table : List (ℕ × Ways)) → CountsWays (ends_in slice) (take i (ends_in slice)) table → CountsWays (ends_in slice) (ends_in slice) table
counted_all slice i all table h = let long = length-map slice link_ends in subst (λ some. CountsWays (ends_in slice) some table) (take_all i (ends_in slice) (omega (arith, long, all))) h
