-- Edges that grow.
use Rattle.std.proofs.Common.{rules, ◌≡◌, ℕ, ◌+◌, ◌-◌, ◌<◌, ◌≤◌, ◌^◌, List, [], ◌∷◌, ◌++◌, Bool, true, false, cond, ◌||◌, length, refl, sym, ap, ◌∙◌, arith, ⊎_elim, subst, append-nil}
use Rattle.std.specs.Prelude.{nat_eq}
use Rattle.std.specs.List.{list_any, IsDistinct}
use Rattle.std.proofs.lemmas.List.{length_push}
use Rattle.std.proofs.lemmas.List.Folds.{list_any-append}
use Rattle.std.proofs.Math.ListN.{get_or-append, get_or-eq_default}
use Rattle.std.proofs.Math.Seq.{get_or-append_seam}
use Rattle.std.specs.Cmp.{IsEquivalence}
use Rattle.std.specs.Cmp.Rules.{comparing}
use Rattle.std.proofs.lemmas.Map.Keys.{IsDistinct-push}
use Rattle.std.proofs.lemmas.Bool.{cases_eq, cases_lt, eq-eqb, eqb-true, and_parts, and_from, false_from_ne_true}
use Rattle.indexmap.specs.IndexSet.{insert_key}
use Rattle.graph_store.specs.declared.pairs.Ends.{Ends}
use Rattle.graph_store.specs.declared.edges.EdgeParts.{EdgeParts}
use Rattle.graph_store.specs.Ends.{same_ends, ends_at}
use Rattle.graph_store.specs.EdgeParts.{same_parts, ends_of, parts_at}
use Rattle.graph_store.specs.PairIndex.{PairIndex}
use Rattle.graph_store.specs.EdgeIndex.{IsEdgeIndex, edges_between}
use Rattle.link_chain.specs.NumberLists.{numbers_at, with_last}
use Rattle.link_chain.proofs.NumberLaws.{numbers_at-add_list, numbers_at-with_last, numbers_at-with_last_other, length-with_last}
use Rattle.graph_store.proofs.PairLaws.{places-push}
use Rattle.graph_store.proofs.Listed.{one_place, places_from-none}
use Rattle.graph_store.proofs.Joined.{or-nothing, or-absorbed}

pub same_ends-own : (a : Ends) → same_ends a a ≡ true
same_ends-own a = and_from (nat_eq a.src a.src) (nat_eq a.dst a.dst) (eq-eqb a.src a.src refl) (eq-eqb a.dst a.dst refl)

pub same_ends-equal : (a b : Ends) → same_ends a b ≡ true → a ≡ b
same_ends-equal a b e =
    let h = and_parts (nat_eq a.src b.src) (nat_eq a.dst b.dst) e in
    let s = eqb-true a.src b.src h.0 in
    let d = eqb-true a.dst b.dst h.1 in
    λ k. record { src = s k; dst = d k }

parts_equiv : IsEquivalence same_parts
parts_equiv = Prim.search (comparing, rules)

-- edges, pairs and lists, where the last edge's pair may be new and has not its edge yet
record AreReady (edges : List EdgeParts) (pairs : List Ends) (ends : Ends) (lists : List (List ℕ)) : Type 0 where
  pub few_pairs : length pairs ≤ length edges + 1
  pub own : length lists ≡ length pairs
  pub known : (x : Ends) → list_any (same_ends x) pairs ≡ (list_any (λ (e : EdgeParts). same_ends x (ends_of e)) edges || same_ends x ends)
  pub between : (pair : ℕ) → pair < length pairs → numbers_at lists pair ≡ edges_between edges (ends_at pairs pair)

ready : (edges : List EdgeParts) (paired : PairIndex) (lists : List (List ℕ)) (linked : ℕ) (ends : Ends) → IsEdgeIndex edges paired lists linked → (t : Bool) → list_any (same_ends ends) paired.pairs ≡ t
    → AreReady edges (cond t paired.pairs (paired.pairs ++ ends ∷ [])) ends (cond t lists (lists ++ [] ∷ []))
ready edges paired lists linked ends h true e = record {
  few_pairs = omega (arith, h.few_pairs);
  own = h.own;
  known = λ x. h.known x ∙ or-absorbed (list_any (λ (e : EdgeParts). same_ends x (ends_of e)) edges) (same_ends x ends)
      (λ s. subst (λ y. list_any (λ (e : EdgeParts). same_ends y (ends_of e)) edges ≡ true) (sym (same_ends-equal x ends s)) (sym (h.known ends) ∙ e));
  between = h.between;
}
ready edges paired lists linked ends h false e =
    let more = length_push paired.pairs ends in
    record {
      few_pairs = omega (arith, h.few_pairs, more);
      own = length_push lists [] ∙ (ap (λ n. n + 1) h.own ∙ sym more);
      known = λ x. list_any-append (same_ends x) paired.pairs (ends ∷ []) ∙ (ap (λ t. t || (same_ends x ends || false)) (h.known x) ∙ ap (λ t. list_any (λ (e : EdgeParts). same_ends x (ends_of e)) edges || t) (or-nothing (same_ends x ends)));
      between = λ pair lt. numbers_at-add_list lists pair ∙ ⊎_elim
          (λ (old : pair < length paired.pairs). h.between pair old ∙ ap (edges_between edges) (sym (get_or-append paired.pairs (ends ∷ []) (record { src = 0; dst = 0 }) pair old)))
          (λ (high : length paired.pairs ≤ pair).
          let last : pair ≡ length paired.pairs = omega (arith, more) in
          get_or-eq_default lists [] (omega (arith, h.own))
          ∙ sym (subst (λ p. edges_between edges (ends_at (paired.pairs ++ ends ∷ []) p) ≡ []) (sym last)
          (ap (edges_between edges) (get_or-append_seam paired.pairs ends [] (record { src = 0; dst = 0 }))
          ∙ places_from-none (λ (e : EdgeParts). same_ends ends (ends_of e)) 0 edges (sym (h.known ends) ∙ e))))
          (cases_lt pair (length paired.pairs));
    }

pub IsEdgeIndex-push : (edges : List EdgeParts) (paired paired' : PairIndex) (lists lists1 : List (List ℕ)) (linked linked1 : ℕ) (parts : EdgeParts) (p : ℕ)
    → IsEdgeIndex edges paired lists linked
    → linked1 ≤ linked + 1
    → list_any (same_parts parts) edges ≡ false
    → parts.src < paired.nodes → parts.dst < paired.nodes → length edges < 2 ^ 32 - 1
    → paired'.nodes ≡ paired.nodes
    → paired'.pairs ≡ insert_key same_ends paired.pairs (ends_of parts)
    → lists1 ≡ cond (list_any (same_ends (ends_of parts)) paired.pairs) lists (lists ++ [] ∷ [])
    → p < length paired'.pairs → ends_at paired'.pairs p ≡ ends_of parts
    → IsDistinct same_ends paired'.pairs
    → IsEdgeIndex (edges ++ parts ∷ []) paired' (with_last p (length edges) lists1) linked1
IsEdgeIndex-push edges paired paired' lists lists1 linked linked1 parts p h one_more new src dst few nodes pairs grown lt here once =
    let ends = ends_of parts in
    let r0 : AreReady edges (insert_key same_ends paired.pairs ends) ends (cond (list_any (same_ends ends) paired.pairs) lists (lists ++ [] ∷ [])) = ready edges paired lists linked ends h (list_any (same_ends ends) paired.pairs) refl in
    let r : AreReady edges paired'.pairs ends lists1 = subst (λ ps. AreReady edges ps ends lists1) (sym pairs) (subst (λ cs. AreReady edges (insert_key same_ends paired.pairs ends) ends cs) (sym grown) r0) in
    let more = length_push edges parts in
    let p_list : p < length lists1 = omega (arith, r.own) in
    record {
      few = omega (arith, more);
      once = IsDistinct-push parts_equiv edges parts h.once new;
      few_pairs = omega (arith, more, r.few_pairs);
      own = length-with_last p (length edges) lists1 ∙ r.own;
      few_links = omega (arith, more, h.few_links, one_more);
      known = λ x. r.known x ∙ sym (list_any-append (λ (e : EdgeParts). same_ends x (ends_of e)) edges (parts ∷ []) ∙ ap (λ t. list_any (λ (e : EdgeParts). same_ends x (ends_of e)) edges || t) (or-nothing (same_ends x ends)));
      between = λ q q_lt. between r p_list q q_lt;
      within = λ e e_lt. ⊎_elim
          (λ (old : e < length edges). subst (λ (x : EdgeParts). (x.src < paired'.nodes) × (x.dst < paired'.nodes)) (sym (get_or-append edges (parts ∷ []) (record { src = 0; dst = 0; layer = 0 }) e old))
          (subst (λ n. ((parts_at edges e).src < n) × ((parts_at edges e).dst < n)) (sym nodes) (h.within e old)))
          (λ (high : length edges ≤ e).
          let last : e ≡ length edges = omega (arith, more) in
          subst (λ k. ((parts_at (edges ++ parts ∷ []) k).src < paired'.nodes) × ((parts_at (edges ++ parts ∷ []) k).dst < paired'.nodes)) (sym last)
          (subst (λ (x : EdgeParts). (x.src < paired'.nodes) × (x.dst < paired'.nodes)) (sym (get_or-append_seam edges parts [] (record { src = 0; dst = 0; layer = 0 })))
          (subst (λ n. (parts.src < n) × (parts.dst < n)) (sym nodes) (src, dst))))
          (cases_lt e (length edges));
    }
  where
    no_ends : Ends
    no_ends = record { src = 0; dst = 0 }

    between : AreReady edges paired'.pairs (ends_of parts) lists1 → p < length lists1 → (q : ℕ) → q < length paired'.pairs → numbers_at (with_last p (length edges) lists1) q ≡ edges_between (edges ++ parts ∷ []) (ends_at paired'.pairs q)
    between r p_list q q_lt =
        let grow = places-push (λ (e : EdgeParts). same_ends (ends_at paired'.pairs q) (ends_of e)) edges parts in
        ⊎_elim
        (λ (same : q ≡ p).
        let own : same_ends (ends_at paired'.pairs q) (ends_of parts) ≡ true = subst (λ x. same_ends x (ends_of parts) ≡ true) (sym (ap (λ k. ends_at paired'.pairs k) same ∙ here)) (same_ends-own (ends_of parts)) in
        subst (λ k. numbers_at (with_last p (length edges) lists1) k ≡ numbers_at lists1 k ++ length edges ∷ []) (sym same) (numbers_at-with_last p (length edges) lists1 p_list)
        ∙ (ap (λ xs. xs ++ length edges ∷ []) (r.between q q_lt)
        ∙ sym (grow ∙ ap (λ t. edges_between edges (ends_at paired'.pairs q) ++ cond t (length edges ∷ []) []) own)))
        (λ (apart : q ≡ p → ⊥).
        let other : same_ends (ends_at paired'.pairs q) (ends_of parts) ≡ false =
        false_from_ne_true (same_ends (ends_at paired'.pairs q) (ends_of parts))
        (λ s. apart (one_place same_ends same_ends-own paired'.pairs q p (record { src = 0; dst = 0 }) once q_lt lt (same_ends-equal (ends_at paired'.pairs q) (ends_of parts) s ∙ sym here))) in
        numbers_at-with_last_other p (length edges) q lists1 apart
        ∙ (r.between q q_lt
        ∙ sym (grow ∙ (ap (λ t. edges_between edges (ends_at paired'.pairs q) ++ cond t (length edges ∷ []) []) other ∙ append-nil (edges_between edges (ends_at paired'.pairs q))))))
        (cases_eq q p)
