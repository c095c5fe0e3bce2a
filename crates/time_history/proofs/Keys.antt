-- Keys that rise.
use Rattle.std.proofs.Common.{◌≡◌, ℕ, zero, suc, ◌<◌, List, [], ◌∷◌, ◌++◌, map, length, get_or, Some, sym, ap, arith}
use Rattle.std.specs.List.{AllByRecursion, All, slice_get}
use Rattle.std.proofs.lemmas.List.Elements.{recursion_from_All}
use Rattle.graph_model.specs.declared.properties.Value.{Value}
use Rattle.time_history.specs.declared.updates.KeyValue.{KeyValue}
use Rattle.time_history.specs.KeyValues.{KeyNumbersRise}
use Rattle.time_history.specs.Pairs.{pairs_of}

each_push : {X : Type 0} (P : X → Type 0) (xs : List X) (y : X) → AllByRecursion P xs → P y → AllByRecursion P (xs ++ y ∷ [])
each_push P [] y h k = (k, tt)
each_push P (x ∷ xs) y h k = (h.0, each_push P xs y h.1 k)

rise_push : (ps : List (ℕ × Value)) (q : ℕ × Value) → KeyNumbersRise ps → AllByRecursion (λ (p : ℕ × Value). p.0 < q.0) ps → KeyNumbersRise (ps ++ q ∷ [])
rise_push [] q h k = (tt, tt)
rise_push (p ∷ ps) q h k = (each_push (λ (r : ℕ × Value). p.0 < r.0) ps q h.0 k.0, rise_push ps q h.1 k.1)

pub KeyNumbersRise-push : (ps : List (ℕ × Value)) (q : ℕ × Value) → KeyNumbersRise ps → All (λ (p : ℕ × Value). p.0 < q.0) ps → KeyNumbersRise (ps ++ q ∷ [])
KeyNumbersRise-push ps q h k = rise_push ps q h (recursion_from_All (λ (p : ℕ × Value). p.0 < q.0) ps k)

-- the key and the value at a place
pub key_item : (items : List KeyValue) (i : ℕ) (x : KeyValue) → i < length items → x ≡ get_or items i x → slice_get (map (λ (p : ℕ × Value). p.0) (pairs_of items)) i ≡ Some x.key
key_item [] i x h e = absurd (omega arith)
key_item (y ∷ ys) zero x h e = ap (λ (z : KeyValue). Some z.key) (sym e)
key_item (y ∷ ys) (suc i) x h e = key_item ys i x (omega arith) e

pub value_item : (items : List KeyValue) (i : ℕ) (x : KeyValue) → i < length items → x ≡ get_or items i x → slice_get (map (λ (p : ℕ × Value). p.1) (pairs_of items)) i ≡ Some x.value
value_item [] i x h e = absurd (omega arith)
value_item (y ∷ ys) zero x h e = ap (λ (z : KeyValue). Some z.value) (sym e)
value_item (y ∷ ys) (suc i) x h e = value_item ys i x (omega arith) e
