-- An edge among those of its pair, found by its layer.
use Rattle.std.proofs.Common.{◌≡◌, ℕ, suc, ◌+◌, ◌<◌, List, [], ◌∷◌, Bool, true, false, not, cond, Some, None, length, refl, sym, ap, ◌∙◌, arith, subst}
use Rattle.std.specs.Prelude.{position, nat_lt, nat_eq, ◌==◌, ◌&&◌, slice_index_or}
use Rattle.std.specs.List.{AllByRecursion, find, list_any, position_or_len}
use Rattle.std.proofs.Math.Bool.{and_assoc}
use Rattle.std.proofs.lemmas.Bool.{lt-ltb, ltb-true, or_parts, or_from}
use Rattle.graph_store.specs.declared.edges.EdgeParts.{EdgeParts}
use Rattle.graph_store.specs.Places.{places_from}
use Rattle.graph_store.specs.Ends.{same_ends}
use Rattle.graph_store.specs.EdgeParts.{same_parts, ends_of, parts_at, is_in}
use Rattle.graph_store.specs.EdgeIndex.{edges_between}
use Rattle.world_laws.proofs.Members.{both_true}
use Rattle.graph_store.proofs.Readers.{nowhere}

-- the places of items are places of the list
pub places_from-below : {X : Type 0} (test : X → Bool) (n i : ℕ) (xs : List X) → i + length xs ≡ n → AllByRecursion (λ k. k < n) (places_from i test xs)
places_from-below test n i [] e = tt
places_from-below test n i (x ∷ xs) e = go (test x) (omega arith) (places_from-below test n (suc i) xs (omega arith))
  where
    go : (t : Bool) → i < n → AllByRecursion (λ k. k < n) (places_from (suc i) test xs) → AllByRecursion (λ k. k < n) (cond t (i ∷ places_from (suc i) test xs) (places_from (suc i) test xs))
    go true lt rest = (lt, rest)
    go false lt rest = rest

-- whether the edge of a number is in a layer
abbrev lies_in : List EdgeParts → ℕ → ℕ → Bool
lies_in edges layer e = layer == (parts_at edges e).layer

module _ (whole : List EdgeParts) (layer : ℕ) (test : EdgeParts → Bool) where
  abbrev both : EdgeParts → Bool
  both e = test e && (layer == e.layer)

  shifted : (i r n m : ℕ) → m ≡ suc n → cond (nat_lt r n) (Some (suc i + r)) None ≡ cond (nat_lt (1 + r) m) (Some (i + (1 + r))) None
  shifted i r n m e =
      let test_same : nat_lt r n ≡ nat_lt (1 + r) m = both_true (nat_lt r n) (nat_lt (1 + r) m)
      (λ a. let b = ltb-true r n a in lt-ltb (1 + r) m (omega arith))
      (λ a. let b = ltb-true (1 + r) m a in lt-ltb r n (omega arith)) in
      let number : suc i + r ≡ i + (1 + r) = omega arith in
      λ k. cond (test_same k) (Some (number k)) None

  -- the first place that is in the layer, among the places of the items that pass
  first_from : (i : ℕ) (xs : List EdgeParts) → ((k : ℕ) → k < length xs → parts_at whole (i + k) ≡ parts_at xs k)
      → find (lies_in whole layer) (places_from i test xs) ≡ cond (nat_lt (position_or_len both xs) (length xs)) (Some (i + position_or_len both xs)) None
  first_from i [] same = refl
  first_from i (x ∷ xs) same =
      let later : find (lies_in whole layer) (places_from (suc i) test xs) ≡ cond (nat_lt (1 + position_or_len both xs) (length (x ∷ xs))) (Some (i + (1 + position_or_len both xs))) None =
      first_from (suc i) xs (λ k lt. subst (λ n. parts_at whole n ≡ parts_at xs k) (omega arith) (same (suc k) (omega arith)))
      ∙ shifted i (position_or_len both xs) (length xs) (length (x ∷ xs)) (omega arith) in
      let here : (layer == (parts_at whole i).layer) ≡ (layer == x.layer) =
      ap (λ (e : EdgeParts). layer == e.layer) (subst (λ n. parts_at whole n ≡ x) (omega arith) (same 0 (omega arith))) in
      go (test x) (layer == x.layer) here later
    where
      go : (t l : Bool) → (layer == (parts_at whole i).layer) ≡ l
          → find (lies_in whole layer) (places_from (suc i) test xs) ≡ cond (nat_lt (1 + position_or_len both xs) (length (x ∷ xs))) (Some (i + (1 + position_or_len both xs))) None
          → find (lies_in whole layer) (cond t (i ∷ places_from (suc i) test xs) (places_from (suc i) test xs))
          ≡ cond (nat_lt (cond (not (t && l)) (1 + position_or_len both xs) 0) (length (x ∷ xs))) (Some (i + cond (not (t && l)) (1 + position_or_len both xs) 0)) None
      go false l here later = later
      go true false here later = ap (λ t. cond t (Some i) (find (lies_in whole layer) (places_from (suc i) test xs))) here ∙ later
      go true true here later =
          let number : i ≡ i + 0 = omega arith in
          ap (λ t. cond t (Some i) (find (lies_in whole layer) (places_from (suc i) test xs))) here
          ∙ (ap Some number
          ∙ sym (ap (λ t. cond t (Some (i + 0)) None) (lt-ltb 0 (length (x ∷ xs)) (omega arith))))

-- the first of a pair's edges that is in a layer is the edge
pub in_layer : (edges : List EdgeParts) (layers : List ℕ) (parts : EdgeParts) → ((e : ℕ) → slice_index_or layers e 0 ≡ (parts_at edges e).layer) → find (is_in layers parts.layer) (edges_between edges (ends_of parts)) ≡ position (same_parts parts) edges
in_layer edges layers parts own =
    (λ k. find (λ e. parts.layer == own e k) (edges_between edges (ends_of parts)))
    ∙ (first_from edges parts.layer (λ e. same_ends (ends_of parts) (ends_of e)) 0 edges (λ k lt. ap (parts_at edges) (omega arith))
    ∙ (λ k. cond (nat_lt (first k) (length edges)) (Some (number k)) None))
  where
    same : (e : EdgeParts) → (((nat_eq parts.src e.src && nat_eq parts.dst e.dst) && nat_eq parts.layer e.layer)) ≡ same_parts parts e
    same e = and_assoc (nat_eq parts.src e.src) (nat_eq parts.dst e.dst) (nat_eq parts.layer e.layer)

    first : position_or_len (both edges parts.layer (λ e. same_ends (ends_of parts) (ends_of e))) edges ≡ position_or_len (same_parts parts) edges
    first = λ k. position_or_len (λ e. same e k) edges

    number : 0 + position_or_len (both edges parts.layer (λ e. same_ends (ends_of parts) (ends_of e))) edges ≡ position_or_len (same_parts parts) edges
    number = omega (arith, first)

-- where a pair has no edge, none has its ends
pub no_edge : (edges : List EdgeParts) (parts : EdgeParts) → list_any (λ (e : EdgeParts). same_ends (ends_of parts) (ends_of e)) edges ≡ false → position (same_parts parts) edges ≡ None
no_edge edges parts none = nowhere (same_parts parts) edges (none_of edges none)
  where
    none_of : (xs : List EdgeParts) → list_any (λ (e : EdgeParts). same_ends (ends_of parts) (ends_of e)) xs ≡ false → list_any (same_parts parts) xs ≡ false
    none_of [] e = refl
    none_of (x ∷ xs) e =
        let h = or_parts (same_ends (ends_of parts) (ends_of x)) (list_any (λ (y : EdgeParts). same_ends (ends_of parts) (ends_of y)) xs) e in
        or_from (same_parts parts x) (list_any (same_parts parts) xs)
        (sym (and_assoc (nat_eq parts.src x.src) (nat_eq parts.dst x.dst) (nat_eq parts.layer x.layer)) ∙ ap (λ t. t && nat_eq parts.layer x.layer) h.0)
        (none_of xs h.1)
