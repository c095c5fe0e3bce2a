-- The neighbours of a node by the links of a world.
use Rattle.std.proofs.Common.{◌≡◌, ℕ, ◌+◌, ◌<◌, ◌≤◌, Bool, true, false, not, ◌&&◌, ◌||◌, List, [], ◌∷◌, ◌++◌, length, map, refl, sym, ◌∙◌, ap, subst, inl, inr, arith}
use Rattle.std.specs.Prelude.{◌==◌}
use Rattle.std.specs.List.{filter, list_any, IsDistinct, AllByRecursion}
use Rattle.std.proofs.lemmas.Bool.{cases_Bool, eq-eqb, eqb-true, and_from, and_parts, or_cases}
use Rattle.std.proofs.lemmas.List.{length-map}
use Rattle.std.proofs.lemmas.List.Filters.{length-filter_both}
use Rattle.std.proofs.lemmas.List.Folds.{list_any-append}
use Rattle.std.proofs.lemmas.Map.Made.{length-from_same_keys, length-le_from_is_member}
use Rattle.graph_model.specs.declared.queries.Direction.{Direction}
use Rattle.graph_model.specs.declared.queries.Direction.TheVariants.{Outward, Inward, Both}
use Rattle.graph_model.specs.Names.{name_cmp, same_name, name_equiv, name_total}
use Rattle.graph_model.specs.Rising.{rising}
use Rattle.graph_model.specs.World.{World}
use Rattle.graph_model.specs.Presence.{nodes}
use Rattle.graph_model.specs.Neighbours.{leads, neighbours}
use Rattle.world_laws.proofs.Filters.{each_kept, kept_pass, each_two, each_weaker, filter_again}
use Rattle.world_laws.proofs.ListItems.{any_map, any_one}
use Rattle.world_laws.proofs.Order.{name_exact, same_name-exact, same_name-refl}
use Rattle.world_laws.proofs.RisingFixed.{rising_fixed}
use Rattle.world_laws.proofs.RisingItems.{Rises-rising, any_rising}
use Rattle.world_laws.proofs.Members.{any_filter, any_both, both_true}
use Rattle.world_laws.proofs.Nodes.{neighbours_has, neighbours_rise}
use Rattle.world_laws.proofs.SortedKeys.{distinct_filter}
use Rattle.graph_store.specs.declared.pairs.Ends.{Ends}
use Rattle.graph_store.specs.Ends.{same_ends}
use Rattle.graph_store.specs.Contents.{name_at}
use Rattle.graph_store.proofs.Listed.{one_place, list_any-place}
use Rattle.graph_store.proofs.JudgeLaws.{rises_distinct}
use Rattle.present_links.specs.Links.{HasLinks, links_from, links_to, links_to_alone, leads_back, names_linked_from, names_linked_to}
use Rattle.present_links.proofs.Numbers.{any_each, distinct_map}

-- the names of distinct nodes are the same where their numbers are
pub same_number : (names : List (List ℕ)) → IsDistinct same_name names → (i j : ℕ) → i < length names → j < length names → (i == j) ≡ same_name (name_at names i) (name_at names j)
same_number names once i j below_i below_j =
    both_true (i == j) (same_name (name_at names i) (name_at names j))
    (λ e. subst (λ k. same_name (name_at names i) (name_at names k) ≡ true) (eqb-true i j e) (same_name-refl (name_at names i)))
    (λ e. eq-eqb i j (one_place same_name same_name-refl names i j [] once below_i below_j (same_name-exact (name_at names i) (name_at names j) e)))

swapped : (a b : List ℕ) → same_name a b ≡ same_name b a
swapped a b = name_equiv.symm a b

and_swapped : (a b : Bool) → (a && b) ≡ (b && a)
and_swapped true true = refl
and_swapped true false = refl
and_swapped false true = refl
and_swapped false false = refl

module _ (w : World) (names : List (List ℕ)) (links : List Ends) (h : HasLinks w names links) (n : ℕ) (exists : n < length names) where
  node : List ℕ
  node = name_at names n

  Within : Ends → Type 0
  Within p = (p.src < length names) × (p.dst < length names)

  -- the other ends of links, by their names
  outs : List (List ℕ)
  outs = names_linked_to names links n

  ins : List (List ℕ)
  ins = names_linked_from names links n

  alone : List (List ℕ)
  alone = map (λ (p : Ends). name_at names p.src) (links_to_alone links n)

  begins : Ends → Bool
  begins p = p.src == n

  ends : Ends → Bool
  ends p = p.dst == n

  out_test : List ℕ → Ends → Bool
  out_test b p = (p.src == n) && same_name b (name_at names p.dst)

  in_test : List ℕ → Ends → Bool
  in_test b p = (p.dst == n) && same_name b (name_at names p.src)

  leads_out : (b : List ℕ) → leads w Outward node b ≡ list_any (out_test b) links
  unfolding node out_test Within
  leads_out b =
      h.linked (λ s d. same_name (name_at names n) s && same_name b d)
      ∙ any_each (λ (p : Ends). same_name (name_at names n) (name_at names p.src) && same_name b (name_at names p.dst)) (out_test b) links
      (each_weaker Within (λ (p : Ends). (same_name (name_at names n) (name_at names p.src) && same_name b (name_at names p.dst)) ≡ ((p.src == n) && same_name b (name_at names p.dst)))
      (λ p k. ap (λ t. t && same_name b (name_at names p.dst)) (swapped (name_at names n) (name_at names p.src) ∙ sym (same_number names h.names p.src n k.0 exists))) links h.within)

  leads_in : (b : List ℕ) → leads w Inward node b ≡ list_any (in_test b) links
  unfolding node in_test Within
  leads_in b =
      h.linked (λ s d. same_name b s && same_name (name_at names n) d)
      ∙ any_each (λ (p : Ends). same_name b (name_at names p.src) && same_name (name_at names n) (name_at names p.dst)) (in_test b) links
      (each_weaker Within (λ (p : Ends). (same_name b (name_at names p.src) && same_name (name_at names n) (name_at names p.dst)) ≡ ((p.dst == n) && same_name b (name_at names p.src)))
      (λ p k. ap (λ t. same_name b (name_at names p.src) && t) (swapped (name_at names n) (name_at names p.dst) ∙ sym (same_number names h.names p.dst n k.1 exists)) ∙ and_swapped (same_name b (name_at names p.src)) (p.dst == n)) links h.within)

  -- the names at the other ends are those of the neighbours
  outs_has : (b : List ℕ) → list_any (same_name b) outs ≡ leads w Outward node b
  unfolding outs out_test
  outs_has b =
      any_map (same_name b) (λ (p : Ends). name_at names p.dst) (links_from links n)
      ∙ (any_filter (λ (p : Ends). p.src == n) (λ (p : Ends). same_name b (name_at names p.dst)) links ∙ sym (leads_out b))

  ins_has : (b : List ℕ) → list_any (same_name b) ins ≡ leads w Inward node b
  unfolding ins in_test
  ins_has b =
      any_map (same_name b) (λ (p : Ends). name_at names p.src) (links_to links n)
      ∙ (any_filter (λ (p : Ends). p.dst == n) (λ (p : Ends). same_name b (name_at names p.src)) links ∙ sym (leads_in b))

  -- and they are distinct
  From : Ends → Type 0
  From p = ((p.src == n) ≡ true) × Within p

  To : Ends → Type 0
  To p = ((p.dst == n) ≡ true) × Within p

  each_from : AllByRecursion From (links_from links n)
  unfolding From Within
  each_from = each_two (λ (p : Ends). (p.src == n) ≡ true) Within From (λ p s k. (s, k)) (links_from links n) (kept_pass (λ (p : Ends). p.src == n) links) (each_kept Within (λ (p : Ends). p.src == n) links within)
    where
      within : AllByRecursion Within links
      within = h.within

  each_to : AllByRecursion To (links_to links n)
  unfolding To Within
  each_to = each_two (λ (p : Ends). (p.dst == n) ≡ true) Within To (λ p s k. (s, k)) (links_to links n) (kept_pass (λ (p : Ends). p.dst == n) links) (each_kept Within (λ (p : Ends). p.dst == n) links within)
    where
      within : AllByRecursion Within links
      within = h.within

  one_number : (i j : ℕ) → i < length names → j < length names → same_name (name_at names i) (name_at names j) ≡ true → (i == j) ≡ true
  one_number i j below_i below_j e = same_number names h.names i j below_i below_j ∙ e

  both_at : (i j : ℕ) → (i == n) ≡ true → (j == n) ≡ true → (i == j) ≡ true
  both_at i j e f = eq-eqb i j (eqb-true i n e ∙ sym (eqb-true j n f))

  from_apart : (p q : Ends) → From p → From q → same_name (name_at names p.dst) (name_at names q.dst) ≡ true → same_ends p q ≡ true
  unfolding From Within
  from_apart p q k l e = and_from (p.src == q.src) (p.dst == q.dst) (both_at p.src q.src k.0 l.0) (one_number p.dst q.dst k.1.1 l.1.1 e)

  to_apart : (p q : Ends) → To p → To q → same_name (name_at names p.src) (name_at names q.src) ≡ true → same_ends p q ≡ true
  unfolding To Within
  to_apart p q k l e = and_from (p.src == q.src) (p.dst == q.dst) (one_number p.src q.src k.1.0 l.1.0 e) (both_at p.dst q.dst k.0 l.0)

  outs_once : IsDistinct same_name outs
  unfolding outs
  outs_once = distinct_map same_ends same_name (λ (p : Ends). name_at names p.dst) From from_apart (links_from links n) each_from (distinct_filter same_ends (λ (p : Ends). p.src == n) links h.once)

  to_once : IsDistinct same_ends (links_to links n)
  to_once = distinct_filter same_ends (λ (p : Ends). p.dst == n) links h.once

  ins_once : IsDistinct same_name ins
  unfolding ins
  ins_once = distinct_map same_ends same_name (λ (p : Ends). name_at names p.src) To to_apart (links_to links n) each_to to_once

  alone_once : IsDistinct same_name alone
  unfolding alone
  alone_once =
      distinct_map same_ends same_name (λ (p : Ends). name_at names p.src) To to_apart (links_to_alone links n)
      (each_kept To (λ (p : Ends). not (leads_back links p)) (links_to links n) each_to)
      (distinct_filter same_ends (λ (p : Ends). not (leads_back links p)) (links_to links n) to_once)

  neighbours_once : (d : Direction) → IsDistinct same_name (neighbours w d node)
  neighbours_once d = rises_distinct (neighbours w d node) (neighbours_rise w d node)

  -- a link leads back from a node where one leads from there to its source
  back_is_out : (p : Ends) (b : List ℕ) → To p → same_name b (name_at names p.src) ≡ true → leads_back links p ≡ list_any (out_test b) links
  unfolding To Within out_test
  back_is_out p b k e =
      any_each (same_ends (record { src = p.dst; dst = p.src })) (out_test b) links
      (each_weaker Within (λ (q : Ends). ((p.dst == q.src) && (p.src == q.dst)) ≡ ((q.src == n) && same_name b (name_at names q.dst)))
      (λ q l. let first : (p.dst == q.src) ≡ (q.src == n) = ap (λ i. i == q.src) (eqb-true p.dst n k.0) ∙ turned n q.src in
      let second : (p.src == q.dst) ≡ same_name b (name_at names q.dst) = same_number names h.names p.src q.dst k.1.0 l.1 ∙ ap (λ z. same_name z (name_at names q.dst)) (sym (same_name-exact b (name_at names p.src) e)) in
      λ i. first i && second i) links h.within)
    where
      turned : (i j : ℕ) → (i == j) ≡ (j == i)
      turned i j = both_true (i == j) (j == i) (λ e. eq-eqb j i (sym (eqb-true i j e))) (λ e. eq-eqb i j (sym (eqb-true j i e)))

  -- the links from elsewhere that have no link back are from those that are neighbours inwards alone
  alone_has : (b : List ℕ) → list_any (same_name b) alone ≡ (not (leads w Outward node b) && leads w Inward node b)
  unfolding alone in_test out_test To Within
  alone_has b =
      any_map (same_name b) (λ (p : Ends). name_at names p.src) (links_to_alone links n)
      ∙ (any_filter (λ (p : Ends). not (leads_back links p)) (λ (p : Ends). same_name b (name_at names p.src)) (links_to links n)
      ∙ (any_each (λ (p : Ends). not (leads_back links p) && same_name b (name_at names p.src)) (λ (p : Ends). not (list_any (out_test b) links) && same_name b (name_at names p.src)) (links_to links n)
      (each_weaker To (λ (p : Ends). (not (leads_back links p) && same_name b (name_at names p.src)) ≡ (not (list_any (out_test b) links) && same_name b (name_at names p.src))) each (links_to links n) each_to)
      ∙ (any_both (not (list_any (out_test b) links)) (λ (p : Ends). same_name b (name_at names p.src)) (links_to links n)
      ∙ (ap (λ t. not (list_any (out_test b) links) && t) (any_filter (λ (p : Ends). p.dst == n) (λ (p : Ends). same_name b (name_at names p.src)) links)
      ∙ (λ i. not (sym (leads_out b) i) && sym (leads_in b) i)))))
    where
      each : (p : Ends) → To p → (not (leads_back links p) && same_name b (name_at names p.src)) ≡ (not (list_any (out_test b) links) && same_name b (name_at names p.src))
      each p k = elim (cases_Bool (same_name b (name_at names p.src))) [
        | inl e ↦ ap (λ t. not t && same_name b (name_at names p.src)) (back_is_out p b k e)
        | inr e ↦ rw e (both_false (not (leads_back links p)) (not (list_any (out_test b) links)))
      ]
        where
          both_false : (s t : Bool) → (s && false) ≡ (t && false)
          both_false true true = refl
          both_false true false = refl
          both_false false true = refl
          both_false false false = refl

  -- ---- the neighbours
  fixed : (d : Direction) (others : List (List ℕ)) → ((b : List ℕ) → list_any (same_name b) others ≡ leads w d node b) → neighbours w d node ≡ rising name_cmp others
  fixed d others has =
      rising_fixed name_cmp name_total name_exact (neighbours w d node) (rising name_cmp others) (neighbours_rise w d node) (Rises-rising name_cmp name_total others)
      (λ b. neighbours_has w d node b ∙ (sym (has b) ∙ sym (any_rising name_cmp (same_name b) (λ x y e. ap (same_name b) (name_exact x y e)) others)))

  pub names_outward : neighbours w Outward (name_at names n) ≡ rising name_cmp (names_linked_to names links n)
  unfolding outs node
  names_outward = fixed Outward outs outs_has

  pub names_inward : neighbours w Inward (name_at names n) ≡ rising name_cmp (names_linked_from names links n)
  unfolding ins node
  names_inward = fixed Inward ins ins_has

  pub names_both : neighbours w Both (name_at names n) ≡ rising name_cmp (names_linked_to names links n ++ names_linked_from names links n)
  unfolding outs ins node
  names_both = fixed Both (outs ++ ins) (λ b. list_any-append (same_name b) outs ins ∙ (λ i. outs_has b i || ins_has b i))

  -- ---- the numbers of neighbours
  pub count_out : length (neighbours w Outward (name_at names n)) ≡ length (links_from links n)
  unfolding outs node
  count_out =
      length-from_same_keys name_equiv (neighbours w Outward node) outs (neighbours_once Outward) outs_once (λ b. neighbours_has w Outward node b ∙ sym (outs_has b))
      ∙ length-map (links_from links n) (λ (p : Ends). name_at names p.dst)

  pub count_in : length (neighbours w Inward (name_at names n)) ≡ length (links_to links n)
  unfolding ins node
  count_in =
      length-from_same_keys name_equiv (neighbours w Inward node) ins (neighbours_once Inward) ins_once (λ b. neighbours_has w Inward node b ∙ sym (ins_has b))
      ∙ length-map (links_to links n) (λ (p : Ends). name_at names p.src)

  -- the neighbours both ways that are none outwards
  others : List (List ℕ)
  others = filter (λ b. not (leads w Outward node b)) (neighbours w Both node)

  others_has : (b : List ℕ) → list_any (same_name b) others ≡ list_any (same_name b) alone
  unfolding others
  others_has b =
      any_filter (λ c. not (leads w Outward node c)) (same_name b) (neighbours w Both node)
      ∙ (any_each (λ c. not (leads w Outward node c) && same_name b c) (λ c. not (leads w Outward node b) && same_name b c) (neighbours w Both node) (every (neighbours w Both node))
      ∙ (any_both (not (leads w Outward node b)) (same_name b) (neighbours w Both node)
      ∙ (ap (λ t. not (leads w Outward node b) && t) (neighbours_has w Both node b)
      ∙ (absorbed (leads w Outward node b) (leads w Inward node b) ∙ sym (alone_has b)))))
    where
      absorbed : (s t : Bool) → (not s && (s || t)) ≡ (not s && t)
      absorbed true t = refl
      absorbed false t = refl

      both_false : (s t : Bool) → (s && false) ≡ (t && false)
      both_false true true = refl
      both_false true false = refl
      both_false false true = refl
      both_false false false = refl

      one : (c : List ℕ) → (not (leads w Outward node c) && same_name b c) ≡ (not (leads w Outward node b) && same_name b c)
      one c = elim (cases_Bool (same_name b c)) [
        | inl e ↦ ap (λ z. not (leads w Outward node z) && same_name b c) (sym (same_name-exact b c e))
        | inr e ↦ rw e (both_false (not (leads w Outward node c)) (not (leads w Outward node b)))
      ]

      every : (cs : List (List ℕ)) → AllByRecursion (λ c. (not (leads w Outward node c) && same_name b c) ≡ (not (leads w Outward node b) && same_name b c)) cs
      every [] = tt
      every (c ∷ cs) = (one c, every cs)

  count_others : length others ≡ length (links_to_alone links n)
  unfolding others alone
  count_others =
      length-from_same_keys name_equiv others alone (distinct_filter same_name (λ b. not (leads w Outward node b)) (neighbours w Both node) (neighbours_once Both)) alone_once others_has
      ∙ length-map (links_to_alone links n) (λ (p : Ends). name_at names p.src)

  pub count_both : length (neighbours w Both (name_at names n)) ≡ length (links_from links n) + length (links_to_alone links n)
  unfolding others node
  count_both =
      let parts = length-filter_both (leads w Outward node) (λ b. not (leads w Outward node b)) (λ b. refl) (neighbours w Both node) in
      let out : filter (leads w Outward node) (neighbours w Both node) ≡ neighbours w Outward node = filter_again (leads w Both node) (leads w Outward node) (λ b e. rw e refl) (nodes w) in
      let out_length : length (filter (leads w Outward node) (neighbours w Both node)) ≡ length (links_from links n) = ap length out ∙ count_out in
      omega (arith, parts, out_length, count_others)

  -- no node has more neighbours than there are nodes
  pub few_neighbours : length (links_from links n) + length (links_to_alone links n) ≤ length names
  unfolding node Within out_test in_test
  few_neighbours =
      let few = length-le_from_is_member name_equiv (neighbours w Both node) names (neighbours_once Both) among in
      omega (arith, few, count_both)
    where
      among : (b : List ℕ) → list_any (same_name b) (neighbours w Both node) ≡ true → list_any (same_name b) names ≡ true
      among b e = elim (or_cases (leads w Outward node b) (leads w Inward node b) (sym (neighbours_has w Both node b) ∙ e)) [
        | inl out ↦ any_one (out_test b) (list_any (same_name b) names ≡ true) links (each_weaker Within (λ p. out_test b p ≡ true → list_any (same_name b) names ≡ true) at_dst links within) (sym (leads_out b) ∙ out)
        | inr in_ ↦ any_one (in_test b) (list_any (same_name b) names ≡ true) links (each_weaker Within (λ p. in_test b p ≡ true → list_any (same_name b) names ≡ true) at_src links within) (sym (leads_in b) ∙ in_)
      ]
        where
          within : AllByRecursion Within links
          within = h.within

          at_dst : (p : Ends) → Within p → out_test b p ≡ true → list_any (same_name b) names ≡ true
          at_dst p k t = list_any-place (same_name b) names p.dst [] k.1 (and_parts (p.src == n) (same_name b (name_at names p.dst)) t).1

          at_src : (p : Ends) → Within p → in_test b p ≡ true → list_any (same_name b) names ≡ true
          at_src p k t = list_any-place (same_name b) names p.src [] k.0 (and_parts (p.dst == n) (same_name b (name_at names p.src)) t).1
