-- Pairs that grow.
use Rattle.std.proofs.Common.{◌≡◌, ℕ, suc, ◌+◌, ◌<◌, ◌^◌, List, [], ◌∷◌, ◌++◌, Bool, true, false, cond, length, refl, sym, ap, ◌∙◌, arith, ⊎_elim, subst, append-nil}
use Rattle.std.specs.Prelude.{nat_eq}
use Rattle.std.proofs.lemmas.List.{length_push, length-set}
use Rattle.std.proofs.lemmas.Bool.{cases_eq, eq-eqb, ne_eqb}
use Rattle.graph_store.specs.declared.pairs.Ends.{Ends}
use Rattle.graph_store.specs.Places.{places_from, places}
use Rattle.graph_store.specs.PairIndex.{IsPairIndex}
use Rattle.link_chain.specs.Chains.{items_at, put_last}
use Rattle.link_chain.proofs.ChainLaws.{items_at-add_head, link_count-add_head, items_at-put_last, items_at-put_last_other, link_count-put_last}

module _ {X : Type 0} (test : X → Bool) where
  -- an item more has the place after the last
  pub places_from-push : (i : ℕ) (xs : List X) (x : X) → places_from i test (xs ++ x ∷ []) ≡ places_from i test xs ++ cond (test x) ((i + length xs) ∷ []) []
  places_from-push i [] x = elim (test x) as (λ t. cond t (i ∷ []) [] ≡ [] ++ cond t ((i + 0) ∷ []) []) [ true ↦ ap (λ n. n ∷ []) (omega arith) | false ↦ refl ]
  places_from-push i (y ∷ xs) x =
      let e : places_from (suc i) test (xs ++ x ∷ []) ≡ places_from (suc i) test xs ++ cond (test x) ((i + length (y ∷ xs)) ∷ []) [] = places_from-push (suc i) xs x ∙ ap (λ n. places_from (suc i) test xs ++ cond (test x) (n ∷ []) []) (omega arith) in
      elim (test y) as (λ t. cond t (i ∷ places_from (suc i) test (xs ++ x ∷ [])) (places_from (suc i) test (xs ++ x ∷ [])) ≡ cond t (i ∷ places_from (suc i) test xs) (places_from (suc i) test xs) ++ cond (test x) ((i + length (y ∷ xs)) ∷ []) []) [
        | true ↦ ap (λ ns. i ∷ ns) e
        | false ↦ e
      ]

  pub places-push : (xs : List X) (x : X) → places test (xs ++ x ∷ []) ≡ places test xs ++ cond (test x) (length xs ∷ []) []
  places-push xs x = places_from-push 0 xs x ∙ ap (λ n. places test xs ++ cond (test x) (n ∷ []) []) (omega arith)

-- chains that have the places of a list by a number of its items, with one item more
module _ {X : Type 0} (number : X → ℕ) where
  pub items_at-put : (xs : List X) (x : X) (lists : List (List (ℕ × ℕ))) (n : ℕ) → number x < length lists → items_at lists n ≡ places (λ y. nat_eq (number y) n) xs
      → items_at (put_last (number x) (length xs) lists) n ≡ places (λ y. nat_eq (number y) n) (xs ++ x ∷ [])
  items_at-put xs x lists n lt e =
      let p = places-push (λ y. nat_eq (number y) n) xs x in
      ⊎_elim
      (λ (same : number x ≡ n).
      subst (λ m. items_at (put_last m (length xs) lists) n ≡ places (λ y. nat_eq (number y) n) (xs ++ x ∷ [])) (sym same)
      (items_at-put_last n (length xs) lists (subst (λ m. m < length lists) same lt)
      ∙ (ap (λ ys. ys ++ length xs ∷ []) e
      ∙ sym (p ∙ ap (λ t. places (λ y. nat_eq (number y) n) xs ++ cond t (length xs ∷ []) []) (eq-eqb (number x) n same)))))
      (λ (apart : number x ≡ n → ⊥).
      items_at-put_last_other (number x) (length xs) n lists (λ k. apart (sym k))
      ∙ (e
      ∙ sym (p ∙ (ap (λ t. places (λ y. nat_eq (number y) n) xs ++ cond t (length xs ∷ []) []) (ne_eqb (number x) n apart) ∙ append-nil (places (λ y. nat_eq (number y) n) xs)))))
      (cases_eq (number x) n)

pub IsPairIndex-push : (pairs : List Ends) (ends : Ends) (outward inward : List (List (ℕ × ℕ))) → ends.src < length outward → ends.dst < length outward → length pairs + 1 < 2 ^ 32 → IsPairIndex pairs outward inward
    → IsPairIndex (pairs ++ ends ∷ []) (put_last ends.src (length pairs) outward) (put_last ends.dst (length pairs) inward)
IsPairIndex-push pairs ends outward inward src dst few h =
    let in_dst : ends.dst < length inward = omega (arith, h.nodes) in
    let more = length_push pairs ends in
    let out_links = link_count-put_last ends.src (length pairs) outward src in
    let in_links = link_count-put_last ends.dst (length pairs) inward in_dst in
    record {
      few = omega (arith, more);
      few_nodes = rw length-set h.few_nodes;
      nodes = length-set inward ends.dst _ ∙ (h.nodes ∙ sym (length-set outward ends.src _));
      out_links = omega (arith, more, out_links, h.out_links);
      in_links = omega (arith, more, in_links, h.in_links);
      begin = λ node. items_at-put (λ (p : Ends). p.src) pairs ends outward node src (h.begin node);
      end = λ node. items_at-put (λ (p : Ends). p.dst) pairs ends inward node in_dst (h.end node);
    }

pub IsPairIndex-node : (pairs : List Ends) (outward inward : List (List (ℕ × ℕ))) → length outward + 1 < 2 ^ 32 → IsPairIndex pairs outward inward → IsPairIndex pairs (outward ++ [] ∷ []) (inward ++ [] ∷ [])
IsPairIndex-node pairs outward inward few h = record {
  few = h.few;
  few_nodes = omega (arith, length_push outward []);
  nodes = length_push inward [] ∙ (ap (λ n. n + 1) h.nodes ∙ sym (length_push outward []));
  out_links = link_count-add_head outward ∙ h.out_links;
  in_links = link_count-add_head inward ∙ h.in_links;
  begin = λ node. items_at-add_head outward node ∙ h.begin node;
  end = λ node. items_at-add_head inward node ∙ h.end node;
}

pub IsPairIndex-along : (p p' : List Ends) (o o' i i' : List (List (ℕ × ℕ))) → p' ≡ p → o' ≡ o → i' ≡ i → IsPairIndex p o i → IsPairIndex p' o' i'
IsPairIndex-along p p' o o' i i' ep eo ei h =
    subst (λ x. IsPairIndex x o' i') (sym ep) (subst (λ x. IsPairIndex p x i') (sym eo) (subst (λ x. IsPairIndex p o x) (sym ei) h))
