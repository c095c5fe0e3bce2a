-- How a text is written in pieces.
use Rattle.std.proofs.Common.{◌≡◌, ◌∙◌, ◌++◌, List, ℕ, Option, Some, None, take, drop, length, refl, ap, sym, arith, append_assoc, length-append}
use Rattle.std.specs.Io.KnownBytes.{append_known}
use Rattle.std.proofs.lemmas.List.{take-append-drop}
use Rattle.std.proofs.Math.Seq.{take-append_seam}
use Rattle.outside_io.specs.Outside.{WritesFront}

-- so far a front of the bytes was written behind what was there, and these are left
abbrev pub Wrote : Option (List ℕ) → Option (List ℕ) → List ℕ → List ℕ → Type 0
Wrote old now bytes rest = (front : List ℕ) × (bytes ≡ front ++ rest) × (now ≡ append_known old front)

-- two pieces written one after the other are one piece
append_known-append_known : (old : Option (List ℕ)) (a b : List ℕ) → append_known (append_known old a) b ≡ append_known old (a ++ b)
append_known-append_known None a b = refl
append_known-append_known (Some xs) a b = ap Some (append_assoc xs a b)

-- the front grows by the piece that was taken
pub Wrote-more : (old now new : Option (List ℕ)) (bytes rest : List ℕ) (n : ℕ)
    → Wrote old now bytes rest → new ≡ append_known now (take n rest) → Wrote old new bytes (drop n rest)
Wrote-more old now new bytes rest n (front, split, written) takes =
    let joined : (front ++ take n rest) ++ drop n rest ≡ front ++ rest = rw (append_assoc, take-append-drop) refl in
    (front ++ take n rest, split ∙ sym joined, rw written at takes ∙ append_known-append_known old front (take n rest))

-- the front is a number of the bytes
pub Wrote-front : (old now : Option (List ℕ)) (bytes rest : List ℕ) → Wrote old now bytes rest → WritesFront old now bytes
Wrote-front old now bytes rest (front, split, written) =
    (length front, rw split (rw length-append (omega arith)), rw (split, take-append_seam front rest) written)
