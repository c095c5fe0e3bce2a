-- The neighbours of a node, by the pairs that begin and end there.
use Rattle.std.proofs.Common.{◌≡◌, ℕ, suc, ◌+◌, ◌<◌, Bool, true, false, not, ◌&&◌, ◌||◌, List, [], ◌∷◌, ◌++◌, length, map, get_or, refl, sym, ◌∙◌, ap, subst, arith, inl, inr, eqb, append-nil}
use Rattle.std.specs.List.{list_any, filter, AllByRecursion, IsDistinct}
use Rattle.std.specs.Prelude.{Option, Some, None}
use Rattle.std.proofs.lemmas.Bool.{cases_Bool, true≢false, and_parts, and_from, eqb-true, cond-true, cond-false}
use Rattle.std.proofs.lemmas.Bool.Decides.{nat_tests}
use Rattle.std.proofs.lemmas.List.{map-append}
use Rattle.std.proofs.lemmas.List.Folds.{list_any-append}
use Rattle.graph_model.specs.declared.queries.Direction.{Direction}
use Rattle.graph_model.specs.declared.queries.Direction.TheVariants.{Outward, Inward, Both}
use Rattle.graph_model.specs.Names.{same_name}
use Rattle.graph_model.specs.World.{World}
use Rattle.graph_model.specs.Neighbours.{leads}
use Rattle.world_laws.proofs.Filters.{each_kept, kept_pass, each_weaker, each_append}
use Rattle.world_laws.proofs.ListItems.{any_map}
use Rattle.world_laws.proofs.Order.{same_name-exact, same_name-refl}
use Rattle.world_laws.proofs.Members.{both_true, any_filter}
use Rattle.world_laws.proofs.Reach.{linked}
use Rattle.world_laws.proofs.SortedKeys.{distinct_filter}
use Rattle.time_history.proofs.Segments.{each_in_map}
use Rattle.graph_store.specs.declared.pairs.Ends.{Ends}
use Rattle.graph_store.specs.Places.{places_from, places}
use Rattle.graph_store.specs.Ends.{same_ends, ends_at}
use Rattle.graph_store.specs.PairIndex.{pairs_from, pairs_to}
use Rattle.graph_store.specs.Contents.{Contents, name_at}
use Rattle.graph_store.specs.Indexed.{IsIndexed}
use Rattle.graph_store.proofs.Listed.{one_place}
use Rattle.view_trait.specs.Meaning.{IsShown}
use Rattle.view_trait.specs.Present.{pair_leads, AreNeighbours, ends_left, is_new_start, starts_left, numbers_left, ArePairs, IsNeighbourWalk}
use Rattle.view_trait.proofs.Pairs.{each_place_from, each_place, at_zero, places_found, places_any, no_ends, same_number, ends_same, pair_of_edge, pairs_from_within, pairs_to_within}

-- ---- lists without repeats

distinct_map : (f : ℕ → ℕ) (ps : List ℕ) → IsDistinct (λ (p q : ℕ). eqb (f p) (f q)) ps → IsDistinct (λ (p q : ℕ). eqb p q) (map f ps)
unfolding IsDistinct
distinct_map f [] h = tt
distinct_map f (p ∷ ps) h = (each_in_map f (λ q. eqb (f p) (f q) ≡ false) (λ y. eqb (f p) y ≡ false) (λ q e. e) ps h.0, distinct_map f ps h.1)

-- places at which a function differs
place_first : {X : Type 0} (same : ℕ → ℕ → Bool) (test : X → Bool) (i : ℕ) (x : X) (xs : List X) (t : Bool) → test x ≡ t → (test x ≡ true → AllByRecursion (λ q. same i q ≡ false) (places_from (suc i) test xs)) → IsDistinct same (places_from (suc i) test xs) → IsDistinct same (places_from i test (x ∷ xs))
unfolding IsDistinct
place_first same test i x xs true e h rest = subst (IsDistinct same) (sym (cond-true (test x) _ _ e)) (h e, rest)
place_first same test i x xs false e h rest = subst (IsDistinct same) (sym (cond-false (test x) _ _ e)) rest

distinct_from : {X : Type 0} (same : ℕ → ℕ → Bool) (test : X → Bool) (i : ℕ) (xs : List X) (d : X)
    → ((j k : ℕ) → j < k → k < length xs → test (get_or xs j d) ≡ true → test (get_or xs k d) ≡ true → same (i + j) (i + k) ≡ false)
    → IsDistinct same (places_from i test xs)
unfolding IsDistinct
distinct_from same test i [] d h = tt
distinct_from same test i (x ∷ xs) d h =
    let moved : (j : ℕ) → i + suc j ≡ suc i + j = λ j. omega arith in
    let zeroth : i + 0 ≡ i = omega arith in
    place_first same test i x xs (test x) refl
    (λ e. each_place_from (λ q. same i q ≡ false) test (suc i) xs d (λ k lt b. subst (λ n. same n (suc i + k) ≡ false) zeroth (subst (λ n. same (i + 0) n ≡ false) (moved k) (h 0 (suc k) (omega arith) (omega arith) e b))))
    (distinct_from same test (suc i) xs d (λ j k less lt a b. subst (λ n. same n (suc i + k) ≡ false) (moved j) (subst (λ n. same (i + suc j) n ≡ false) (moved k) (h (suc j) (suc k) (omega arith) (omega arith) a b))))

distinct_places : {X : Type 0} (same : ℕ → ℕ → Bool) (test : X → Bool) (xs : List X) (d : X)
    → ((j k : ℕ) → j < k → k < length xs → test (get_or xs j d) ≡ true → test (get_or xs k d) ≡ true → same j k ≡ false)
    → IsDistinct same (places test xs)
distinct_places same test xs d h = distinct_from same test 0 xs d (λ j k less lt a b. subst (λ n. same n (0 + k) ≡ false) (sym (at_zero j)) (subst (λ n. same j n ≡ false) (sym (at_zero k)) (h j k less lt a b)))

pub distinct_append : {X : Type 0} (same : X → X → Bool) (xs ys : List X) → IsDistinct same xs → IsDistinct same ys → AllByRecursion (λ x. AllByRecursion (λ y. same x y ≡ false) ys) xs → IsDistinct same (xs ++ ys)
unfolding IsDistinct
distinct_append same [] ys h k apart = k
distinct_append same (x ∷ xs) ys h k apart = (each_append (λ y. same x y ≡ false) xs ys h.0 apart.0, distinct_append same xs ys h.1 k apart.1)

-- ---- the pairs of one node

different : (i j : ℕ) → (i ≡ j → ⊥) → eqb i j ≡ false
different i j h = elim (cases_Bool (eqb i j)) [
  | inl e ↦ absurd (h (eqb-true i j e))
  | inr e ↦ e
]

one_pair : (c : Contents) (j k : ℕ) → IsIndexed c → j < k → k < length c.pairs → (ends_at c.pairs j).src ≡ (ends_at c.pairs k).src → (ends_at c.pairs j).dst ≡ (ends_at c.pairs k).dst → ⊥
one_pair c j k h less lt p q =
    let whole : ends_at c.pairs j ≡ ends_at c.pairs k = (λ i. record { src = p i; dst = q i }) in
    let same = one_place same_ends (λ x. ends_same x x refl refl) c.pairs j k no_ends h.pairs (omega arith) lt whole in
    omega (arith, same)

module _ (c : Contents) (w : World) (n : ℕ) (h : IsShown c w) (known : n < length c.nodes) where
  abbrev name : List ℕ
  name = name_at c.nodes n

  abbrev src : ℕ → ℕ
  src p = (ends_at c.pairs p).src

  abbrev dst : ℕ → ℕ
  dst p = (ends_at c.pairs p).dst

  abbrev begins : Ends → Bool
  begins p = eqb p.src n

  abbrev ends : Ends → Bool
  ends p = eqb p.dst n

  -- ---- outwards

  outs_apart : IsDistinct (λ (i j : ℕ). eqb i j) (ends_left c w (pairs_from c.pairs n))
  outs_apart = distinct_map dst (filter (pair_leads c w) (pairs_from c.pairs n)) (distinct_filter (λ (p q : ℕ). eqb (dst p) (dst q)) (pair_leads c w) (pairs_from c.pairs n)
      (distinct_places (λ (p q : ℕ). eqb (dst p) (dst q)) begins c.pairs no_ends (λ j k less lt a b. different (dst j) (dst k) (λ e. one_pair c j k h.indexed less lt (eqb-true (src j) n a ∙ sym (eqb-true (src k) n b)) e))))

  outs_within : AllByRecursion (λ i. i < length c.nodes) (ends_left c w (pairs_from c.pairs n))
  outs_within = each_in_map dst (λ p. dst p < length c.nodes) (λ i. i < length c.nodes) (λ p e. e) (filter (pair_leads c w) (pairs_from c.pairs n))
      (each_kept (λ p. dst p < length c.nodes) (pair_leads c w) (pairs_from c.pairs n) (each_place (λ p. dst p < length c.nodes) begins c.pairs no_ends (λ j lt e. (h.indexed.pairs_within j lt).1)))

  abbrev out_test : List ℕ → ℕ → Bool
  out_test b p = pair_leads c w p && same_name b (name_at c.nodes (dst p))

  outs_exactly : (b : List ℕ) → list_any (same_name b) (map (name_at c.nodes) (ends_left c w (pairs_from c.pairs n))) ≡ leads w Outward name b
  outs_exactly b =
      any_map (same_name b) (name_at c.nodes) (ends_left c w (pairs_from c.pairs n))
      ∙ (any_map (λ i. same_name b (name_at c.nodes i)) dst (filter (pair_leads c w) (pairs_from c.pairs n))
      ∙ (any_filter (pair_leads c w) (λ p. same_name b (name_at c.nodes (dst p))) (pairs_from c.pairs n)
      ∙ both_true (list_any (out_test b) (pairs_from c.pairs n)) (leads w Outward name b) there back))
    where
      there : list_any (out_test b) (pairs_from c.pairs n) ≡ true → leads w Outward name b ≡ true
      there k =
          let r = places_found begins (out_test b) c.pairs no_ends k in
          let s = and_parts (pair_leads c w r.0) (same_name b (name_at c.nodes (dst r.0))) r.3 in
          subst (λ z. leads w Outward z b ≡ true) (ap (name_at c.nodes) (eqb-true (src r.0) n r.2)) (subst (λ z. leads w Outward (name_at c.nodes (src r.0)) z ≡ true) (sym (same_name-exact b (name_at c.nodes (dst r.0)) s.1)) s.0)

      back : leads w Outward name b ≡ true → list_any (out_test b) (pairs_from c.pairs n) ≡ true
      back k =
          let r = linked w name b k in
          let p = pair_of_edge c w r.0 h r.1 in
          let same : src p.0 ≡ n = same_number c (src p.0) n h.indexed (h.indexed.pairs_within p.0 p.1).0 known (p.2 ∙ sym r.2) in
          let t : eqb (src p.0) n ≡ true = grind (arith, nat_tests, same) in
          places_any begins (out_test b) p.0 c.pairs no_ends p.1 t (and_from (pair_leads c w p.0) (same_name b (name_at c.nodes (dst p.0))) p.4 (subst (λ z. same_name b z ≡ true) (r.3 ∙ sym p.3) (same_name-refl b)))

  led_first : (p : ℕ) (ps : List ℕ) (t : Bool) → pair_leads c w p ≡ t → src p ≡ n → AllByRecursion (λ p. leads w Outward name (name_at c.nodes (dst p)) ≡ true) (filter (pair_leads c w) ps) → AllByRecursion (λ p. leads w Outward name (name_at c.nodes (dst p)) ≡ true) (filter (pair_leads c w) (p ∷ ps))
  led_first p ps true e k rest = subst (AllByRecursion (λ p. leads w Outward name (name_at c.nodes (dst p)) ≡ true)) (sym (cond-true (pair_leads c w p) _ _ e)) (subst (λ i. leads w Outward (name_at c.nodes i) (name_at c.nodes (dst p)) ≡ true) k e, rest)
  led_first p ps false e k rest = subst (AllByRecursion (λ p. leads w Outward name (name_at c.nodes (dst p)) ≡ true)) (sym (cond-false (pair_leads c w p) _ _ e)) rest

  led : (ps : List ℕ) → AllByRecursion (λ p. src p ≡ n) ps → AllByRecursion (λ p. leads w Outward name (name_at c.nodes (dst p)) ≡ true) (filter (pair_leads c w) ps)
  led [] k = tt
  led (p ∷ ps) k = led_first p ps (pair_leads c w p) refl k.0 (led ps k.1)

  -- each of them is led to
  outs_led : AllByRecursion (λ i. leads w Outward name (name_at c.nodes i) ≡ true) (ends_left c w (pairs_from c.pairs n))
  outs_led = each_in_map dst (λ p. leads w Outward name (name_at c.nodes (dst p)) ≡ true) (λ i. leads w Outward name (name_at c.nodes i) ≡ true) (λ p e. e) (filter (pair_leads c w) (pairs_from c.pairs n)) (led (pairs_from c.pairs n) (each_place (λ p. src p ≡ n) begins c.pairs no_ends (λ j lt e. eqb-true (src j) n e)))

  -- ---- inwards

  ins_apart : (both : Bool) → IsDistinct (λ (i j : ℕ). eqb i j) (starts_left c w n both (pairs_to c.pairs n))
  ins_apart both = distinct_map src (filter (is_new_start c w n both) (pairs_to c.pairs n)) (distinct_filter (λ (p q : ℕ). eqb (src p) (src q)) (is_new_start c w n both) (pairs_to c.pairs n)
      (distinct_places (λ (p q : ℕ). eqb (src p) (src q)) ends c.pairs no_ends (λ j k less lt a b. different (src j) (src k) (λ e. one_pair c j k h.indexed less lt e (eqb-true (dst j) n a ∙ sym (eqb-true (dst k) n b))))))

  ins_within : (both : Bool) → AllByRecursion (λ i. i < length c.nodes) (starts_left c w n both (pairs_to c.pairs n))
  ins_within both = each_in_map src (λ p. src p < length c.nodes) (λ i. i < length c.nodes) (λ p e. e) (filter (is_new_start c w n both) (pairs_to c.pairs n))
      (each_kept (λ p. src p < length c.nodes) (is_new_start c w n both) (pairs_to c.pairs n) (each_place (λ p. src p < length c.nodes) ends c.pairs no_ends (λ j lt e. (h.indexed.pairs_within j lt).0)))

  abbrev in_test : Bool → List ℕ → ℕ → Bool
  in_test both b p = is_new_start c w n both p && same_name b (name_at c.nodes (src p))

  abbrev wanted : Bool → List ℕ → Bool
  wanted both b = leads w Outward b name && not (both && leads w Outward name b)

  ins_exactly : (both : Bool) (b : List ℕ) → list_any (same_name b) (map (name_at c.nodes) (starts_left c w n both (pairs_to c.pairs n))) ≡ wanted both b
  ins_exactly both b =
      any_map (same_name b) (name_at c.nodes) (starts_left c w n both (pairs_to c.pairs n))
      ∙ (any_map (λ i. same_name b (name_at c.nodes i)) src (filter (is_new_start c w n both) (pairs_to c.pairs n))
      ∙ (any_filter (is_new_start c w n both) (λ p. same_name b (name_at c.nodes (src p))) (pairs_to c.pairs n)
      ∙ both_true (list_any (in_test both b) (pairs_to c.pairs n)) (wanted both b) there back))
    where
      there : list_any (in_test both b) (pairs_to c.pairs n) ≡ true → wanted both b ≡ true
      there k =
          let r = places_found ends (in_test both b) c.pairs no_ends k in
          let s = and_parts (is_new_start c w n both r.0) (same_name b (name_at c.nodes (src r.0))) r.3 in
          let t = and_parts (pair_leads c w r.0) (not (both && leads w Outward name (name_at c.nodes (src r.0)))) s.0 in
          let is : name_at c.nodes (src r.0) ≡ b = sym (same_name-exact b (name_at c.nodes (src r.0)) s.1) in
          and_from (leads w Outward b name) (not (both && leads w Outward name b))
          (subst (λ z. leads w Outward b z ≡ true) (ap (name_at c.nodes) (eqb-true (dst r.0) n r.2)) (subst (λ z. leads w Outward z (name_at c.nodes (dst r.0)) ≡ true) is t.0))
          (subst (λ z. not (both && leads w Outward name z) ≡ true) is t.1)

      back : wanted both b ≡ true → list_any (in_test both b) (pairs_to c.pairs n) ≡ true
      back k =
          let s = and_parts (leads w Outward b name) (not (both && leads w Outward name b)) k in
          let r = linked w b name s.0 in
          let p = pair_of_edge c w r.0 h r.1 in
          let same : dst p.0 ≡ n = same_number c (dst p.0) n h.indexed (h.indexed.pairs_within p.0 p.1).1 known (p.3 ∙ sym r.3) in
          let t : eqb (dst p.0) n ≡ true = grind (arith, nat_tests, same) in
          let is : b ≡ name_at c.nodes (src p.0) = r.2 ∙ sym p.2 in
          places_any ends (in_test both b) p.0 c.pairs no_ends p.1 t
          (and_from (is_new_start c w n both p.0) (same_name b (name_at c.nodes (src p.0)))
          (and_from (pair_leads c w p.0) (not (both && leads w Outward name (name_at c.nodes (src p.0)))) p.4 (subst (λ z. not (both && leads w Outward name z) ≡ true) is s.1))
          (subst (λ z. same_name b z ≡ true) is (same_name-refl b)))

  -- none of the new ones is led to
  ins_new : AllByRecursion (λ i. leads w Outward name (name_at c.nodes i) ≡ false) (starts_left c w n true (pairs_to c.pairs n))
  ins_new = each_in_map src (λ p. is_new_start c w n true p ≡ true) (λ i. leads w Outward name (name_at c.nodes i) ≡ false) (λ p e. no (leads w Outward name (name_at c.nodes (src p))) (and_parts (pair_leads c w p) (not (leads w Outward name (name_at c.nodes (src p)))) e).1) (filter (is_new_start c w n true) (pairs_to c.pairs n)) (kept_pass (is_new_start c w n true) (pairs_to c.pairs n))
    where
      no : (t : Bool) → not t ≡ true → t ≡ false
      no true e = cc
      no false e = refl

  -- ---- each direction

  alone : (a : Bool) → (a && true) ≡ a
  alone true = refl
  alone false = refl

  either : (o i : Bool) → (o || (i && not o)) ≡ (o || i)
  either true i = refl
  either false i = alone i

  pub outward : AreNeighbours c w Outward n (numbers_left c w n false (Some (pairs_from c.pairs n)) None)
  outward = subst (AreNeighbours c w Outward n) (sym (append-nil (ends_left c w (pairs_from c.pairs n)))) (record { apart = outs_apart; within = outs_within; exactly = outs_exactly })

  pub inward : AreNeighbours c w Inward n (numbers_left c w n false None (Some (pairs_to c.pairs n)))
  inward = record { apart = ins_apart false; within = ins_within false; exactly = λ b. ins_exactly false b ∙ alone (leads w Outward b name) }

  pub both_ways : AreNeighbours c w Both n (numbers_left c w n true (Some (pairs_from c.pairs n)) (Some (pairs_to c.pairs n)))
  both_ways = record {
    apart = distinct_append (λ (i j : ℕ). eqb i j) outs ins outs_apart (ins_apart true) (each_weaker (λ i. leads w Outward name (name_at c.nodes i) ≡ true) (λ i. AllByRecursion (λ j. eqb i j ≡ false) ins) (λ i e. each_weaker (λ j. leads w Outward name (name_at c.nodes j) ≡ false) (λ j. eqb i j ≡ false) (λ j f. different i j (λ same. true≢false (sym e ∙ (ap (λ k. leads w Outward name (name_at c.nodes k)) same ∙ f)))) ins ins_new) outs outs_led);
    within = each_append (λ i. i < length c.nodes) outs ins outs_within (ins_within true);
    exactly = λ b. ap (list_any (same_name b)) (map-append (name_at c.nodes) outs ins) ∙ (list_any-append (same_name b) (map (name_at c.nodes) outs) (map (name_at c.nodes) ins)
        ∙ (ap (λ t. t || list_any (same_name b) (map (name_at c.nodes) ins)) (outs_exactly b) ∙ (ap (λ t. leads w Outward name b || t) (ins_exactly true b) ∙ either (leads w Outward name b) (leads w Outward b name))));
  }
    where
      outs : List ℕ
      outs = ends_left c w (pairs_from c.pairs n)

      ins : List ℕ
      ins = starts_left c w n true (pairs_to c.pairs n)

-- ---- what is left after a pair

pub ends_kept : (c : Contents) (w : World) (p : ℕ) (ps : List ℕ) → pair_leads c w p ≡ true → ends_left c w (p ∷ ps) ≡ (ends_at c.pairs p).dst ∷ ends_left c w ps
ends_kept c w p ps e = ap (map (λ q. (ends_at c.pairs q).dst)) (cond-true (pair_leads c w p) (p ∷ filter (pair_leads c w) ps) (filter (pair_leads c w) ps) e)

pub ends_skipped : (c : Contents) (w : World) (p : ℕ) (ps : List ℕ) → pair_leads c w p ≡ false → ends_left c w (p ∷ ps) ≡ ends_left c w ps
ends_skipped c w p ps e = ap (map (λ q. (ends_at c.pairs q).dst)) (cond-false (pair_leads c w p) (p ∷ filter (pair_leads c w) ps) (filter (pair_leads c w) ps) e)

pub starts_kept : (c : Contents) (w : World) (n : ℕ) (both : Bool) (p : ℕ) (ps : List ℕ) → is_new_start c w n both p ≡ true → starts_left c w n both (p ∷ ps) ≡ (ends_at c.pairs p).src ∷ starts_left c w n both ps
starts_kept c w n both p ps e = ap (map (λ q. (ends_at c.pairs q).src)) (cond-true (is_new_start c w n both p) (p ∷ filter (is_new_start c w n both) ps) (filter (is_new_start c w n both) ps) e)

pub starts_skipped : (c : Contents) (w : World) (n : ℕ) (both : Bool) (p : ℕ) (ps : List ℕ) → is_new_start c w n both p ≡ false → starts_left c w n both (p ∷ ps) ≡ starts_left c w n both ps
starts_skipped c w n both p ps e = ap (map (λ q. (ends_at c.pairs q).src)) (cond-false (is_new_start c w n both p) (p ∷ filter (is_new_start c w n both) ps) (filter (is_new_start c w n both) ps) e)

-- ---- what a walk has left at its beginning

pub walk_outward : (c : Contents) (w : World) (n : ℕ) (d : Direction) (both : Bool) (out into : Option (List ℕ)) → IsShown c w → n < length c.nodes → d ≡ Outward → both ≡ false → out ≡ Some (pairs_from c.pairs n) → into ≡ None → AreNeighbours c w d n (numbers_left c w n both out into)
walk_outward c w n d both out into h known of not_both from none =
    subst (λ e. AreNeighbours c w e n (numbers_left c w n both out into)) (sym of) (subst (AreNeighbours c w Outward n) (λ i. numbers_left c w n (sym not_both i) (sym from i) (sym none i)) (outward c w n h known))

pub walk_inward : (c : Contents) (w : World) (n : ℕ) (d : Direction) (both : Bool) (out into : Option (List ℕ)) → IsShown c w → n < length c.nodes → d ≡ Inward → both ≡ false → out ≡ None → into ≡ Some (pairs_to c.pairs n) → AreNeighbours c w d n (numbers_left c w n both out into)
walk_inward c w n d both out into h known of not_both none to =
    subst (λ e. AreNeighbours c w e n (numbers_left c w n both out into)) (sym of) (subst (AreNeighbours c w Inward n) (λ i. numbers_left c w n (sym not_both i) (sym none i) (sym to i)) (inward c w n h known))

pub walk_both_ways : (c : Contents) (w : World) (n : ℕ) (d : Direction) (both : Bool) (out into : Option (List ℕ)) → IsShown c w → n < length c.nodes → d ≡ Both → both ≡ true → out ≡ Some (pairs_from c.pairs n) → into ≡ Some (pairs_to c.pairs n) → AreNeighbours c w d n (numbers_left c w n both out into)
walk_both_ways c w n d both out into h known of is_both from to =
    subst (λ e. AreNeighbours c w e n (numbers_left c w n both out into)) (sym of) (subst (AreNeighbours c w Both n) (λ i. numbers_left c w n (sym is_both i) (sym from i) (sym to i)) (both_ways c w n h known))

asked : (c : Contents) (pairs : Option (List ℕ)) (ps : List ℕ) → pairs ≡ Some ps → AllByRecursion (λ p. p < length c.pairs) ps → ArePairs c pairs
asked c pairs ps e h = λ x m. let same : ps ≡ x = cc in subst (AllByRecursion (λ p. p < length c.pairs)) same h

unasked : (c : Contents) (pairs : Option (List ℕ)) → pairs ≡ None → ArePairs c pairs
unasked c pairs e = λ x m. absurd (let no : None ≡ Some x = sym e ∙ m in cc)

pub IsNeighbourWalk-outward : (c : Contents) (n : ℕ) (out into : Option (List ℕ)) → n < length c.nodes → out ≡ Some (pairs_from c.pairs n) → into ≡ None → IsNeighbourWalk c n out into
IsNeighbourWalk-outward c n out into known from none = record { node = known; out = asked c out (pairs_from c.pairs n) from (pairs_from_within c n); into = unasked c into none }

pub IsNeighbourWalk-inward : (c : Contents) (n : ℕ) (out into : Option (List ℕ)) → n < length c.nodes → out ≡ None → into ≡ Some (pairs_to c.pairs n) → IsNeighbourWalk c n out into
IsNeighbourWalk-inward c n out into known none to = record { node = known; out = unasked c out none; into = asked c into (pairs_to c.pairs n) to (pairs_to_within c n) }

pub IsNeighbourWalk-both_ways : (c : Contents) (n : ℕ) (out into : Option (List ℕ)) → n < length c.nodes → out ≡ Some (pairs_from c.pairs n) → into ≡ Some (pairs_to c.pairs n) → IsNeighbourWalk c n out into
IsNeighbourWalk-both_ways c n out into known from to = record { node = known; out = asked c out (pairs_from c.pairs n) from (pairs_from_within c n); into = asked c into (pairs_to c.pairs n) to (pairs_to_within c n) }
