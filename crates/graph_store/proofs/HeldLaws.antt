-- Edges by the numbers of their pairs and their layers.
use Rattle.std.proofs.Common.{◌≡◌, ℕ, zero, suc, ◌+◌, ◌<◌, ◌≤◌, Bool, List, [], ◌∷◌, ◌++◌, Some, cond, true, false, length, refl, sym, ap, ◌∙◌, arith, subst}
use Rattle.std.specs.Prelude.{slice_get, slice_index_or}
use Rattle.std.specs.List.{AllByRecursion, list_any}
use Rattle.std.proofs.lemmas.List.{length_push}
use Rattle.std.proofs.Math.ListN.{get_or-append}
use Rattle.indexmap.specs.IndexSet.{insert_key}
use Rattle.world_laws.proofs.Filters.{each_append, each_weaker}
use Rattle.graph_store.specs.declared.pairs.Ends.{Ends}
use Rattle.graph_store.specs.declared.edges.EdgeParts.{EdgeParts}
use Rattle.graph_store.specs.Ends.{same_ends, ends_at}
use Rattle.graph_store.specs.EdgeParts.{parts_at, parts_in_layer}
use Rattle.graph_store.specs.EdgeIndex.{edges_from, HavePairs}

pub length-edges_from : (pairs : List Ends) (ps ls : List ℕ) → length ls ≡ length ps → length (edges_from pairs ps ls) ≡ length ps
length-edges_from pairs [] ls e = refl
length-edges_from pairs (p ∷ ps) [] e = absurd (omega (arith, e))
length-edges_from pairs (p ∷ ps) (l ∷ ls) e = ap (λ n. suc n) (length-edges_from pairs ps ls (omega (arith, e)))

-- the layer of an edge
pub layer-edges_from : (pairs : List Ends) (ps ls : List ℕ) → length ls ≡ length ps → (e : ℕ) → slice_index_or ls e 0 ≡ (parts_at (edges_from pairs ps ls) e).layer
layer-edges_from pairs [] [] e i = refl
layer-edges_from pairs [] (l ∷ ls) e i = absurd (omega (arith, e))
layer-edges_from pairs (p ∷ ps) [] e i = absurd (omega (arith, e))
layer-edges_from pairs (p ∷ ps) (l ∷ ls) e zero = refl
layer-edges_from pairs (p ∷ ps) (l ∷ ls) e (suc i) = layer-edges_from pairs ps ls (omega (arith, e)) i

-- the edge of a number
pub edge-edges_from : (pairs : List Ends) (ps ls : List ℕ) (i : ℕ) → length ls ≡ length ps → i < length ps → slice_get (edges_from pairs ps ls) i ≡ Some (parts_in_layer (ends_at pairs (slice_index_or ps i 0)) (slice_index_or ls i 0))
edge-edges_from pairs [] ls i e lt = absurd (omega arith)
edge-edges_from pairs (p ∷ ps) [] i e lt = absurd (omega (arith, e))
edge-edges_from pairs (p ∷ ps) (l ∷ ls) zero e lt = refl
edge-edges_from pairs (p ∷ ps) (l ∷ ls) (suc i) e lt = edge-edges_from pairs ps ls i (omega (arith, e)) (omega arith)

-- more pairs change no edge
pub edges_from-pairs : (pairs more : List Ends) (ps ls : List ℕ) → AllByRecursion (λ (p : ℕ). p < length pairs) ps → edges_from (pairs ++ more) ps ls ≡ edges_from pairs ps ls
edges_from-pairs pairs more [] ls h = refl
edges_from-pairs pairs more (p ∷ ps) [] h = refl
edges_from-pairs pairs more (p ∷ ps) (l ∷ ls) h =
    ap (λ (x : Ends). parts_in_layer x l ∷ edges_from (pairs ++ more) ps ls) (get_or-append pairs more (record { src = 0; dst = 0 }) p h.0)
    ∙ ap (λ es. parts_in_layer (ends_at pairs p) l ∷ es) (edges_from-pairs pairs more ps ls h.1)

-- one edge more
pub edges_from-push : (pairs : List Ends) (ps ls : List ℕ) (p l : ℕ) → length ls ≡ length ps → edges_from pairs (ps ++ p ∷ []) (ls ++ l ∷ []) ≡ edges_from pairs ps ls ++ parts_in_layer (ends_at pairs p) l ∷ []
edges_from-push pairs [] [] p l e = refl
edges_from-push pairs [] (m ∷ ls) p l e = absurd (omega (arith, e))
edges_from-push pairs (q ∷ ps) [] p l e = absurd (omega (arith, e))
edges_from-push pairs (q ∷ ps) (m ∷ ls) p l e = ap (λ es. parts_in_layer (ends_at pairs q) m ∷ es) (edges_from-push pairs ps ls p l (omega (arith, e)))

-- an edge more, whose pair is new or known
module _ (pairs pairs' : List Ends) (ps ls : List ℕ) (p l : ℕ) (ends : Ends) (parts : EdgeParts) (h : HavePairs pairs ps ls) (grown : pairs' ≡ insert_key same_ends pairs ends) (lt : p < length pairs') (at : ends_at pairs' p ≡ ends) (is : parts_in_layer ends l ≡ parts) where
  kept : edges_from pairs' ps ls ≡ edges_from pairs ps ls
  kept = ap (λ qs. edges_from qs ps ls) grown ∙ by (list_any (same_ends ends) pairs)
    where
      by : (t : Bool) → edges_from (cond t pairs (pairs ++ ends ∷ [])) ps ls ≡ edges_from pairs ps ls
      by true = refl
      by false = edges_from-pairs pairs (ends ∷ []) ps ls h.within

  longer : length pairs ≤ length pairs'
  longer = subst (λ qs. length pairs ≤ length qs) (sym grown) (by (list_any (same_ends ends) pairs))
    where
      by : (t : Bool) → length pairs ≤ length (cond t pairs (pairs ++ ends ∷ []))
      by true = omega arith
      by false = omega (arith, length_push pairs ends)

  pub edges_added : edges_from pairs' (ps ++ p ∷ []) (ls ++ l ∷ []) ≡ edges_from pairs ps ls ++ parts ∷ []
  edges_added =
      edges_from-push pairs' ps ls p l h.lengths
      ∙ (ap (λ es. es ++ parts_in_layer (ends_at pairs' p) l ∷ []) kept
      ∙ ap (λ (x : EdgeParts). edges_from pairs ps ls ++ x ∷ []) (ap (λ (x : Ends). parts_in_layer x l) at ∙ is))

  pub held_added : HavePairs pairs' (ps ++ p ∷ []) (ls ++ l ∷ [])
  held_added = record {
    lengths = length_push ls l ∙ (ap (λ n. n + 1) h.lengths ∙ sym (length_push ps p));
    within = each_append (λ (q : ℕ). q < length pairs') ps (p ∷ []) (each_weaker (λ (q : ℕ). q < length pairs) (λ (q : ℕ). q < length pairs') (λ q lt. omega (arith, longer)) ps h.within) (lt, tt);
  }
