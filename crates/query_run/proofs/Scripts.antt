-- The first line of a script.
use Rattle.std.proofs.Common.{◌≡◌, ◌<◌, ◌+◌, ◌-◌, ◌==◌, ◌∷◌, ℕ, true, false, Bool, List, [], None, position, length, take, drop, refl, ap, arith, one-add}
use Rattle.std.specs.Prelude.{not}
use Rattle.std.specs.List.{position_or_len}
use Rattle.std.proofs.lemmas.List.Sums.{prefix_len-le-length}
use Rattle.std.proofs.lemmas.Bool.Decides.{nat_tests}
use Rattle.std.proofs.Math.Seq.{take-length}
use Rattle.graph_model.specs.Script.{lines_of, onto_first}

-- how long the first line is
abbrev pub line_len : List ℕ → ℕ
line_len text = position_or_len (λ byte. byte == 10) text

-- a byte more at the front of the first line
onto-more : (byte : ℕ) (rest : List ℕ) (n : ℕ) → lines_of rest ≡ take n rest ∷ lines_of (drop 1 (drop n rest))
    → onto_first byte (lines_of rest) ≡ take (1 + n) (byte ∷ rest) ∷ lines_of (drop 1 (drop (1 + n) (byte ∷ rest)))
onto-more byte rest n h = rw (one-add, h) refl

-- a text that is not empty is its first line, the byte that ends it, and the lines behind
lines_of-first : (text : List ℕ) → 0 < length text → lines_of text ≡ take (line_len text) text ∷ lines_of (drop 1 (drop (line_len text) text))
lines_of-first [] some = absurd (omega arith)
lines_of-first (byte ∷ []) some = by (byte == 10) refl
  where
    by : (b : Bool) → (byte == 10) ≡ b → lines_of (byte ∷ []) ≡ take (line_len (byte ∷ [])) (byte ∷ []) ∷ lines_of (drop 1 (drop (line_len (byte ∷ [])) (byte ∷ [])))
    by true is = rw is refl
    by false is = rw is refl
lines_of-first (byte ∷ next ∷ text) some = by (byte == 10) refl (lines_of-first (next ∷ text) (omega arith))
  where
    by : (b : Bool) → (byte == 10) ≡ b
        → lines_of (next ∷ text) ≡ take (line_len (next ∷ text)) (next ∷ text) ∷ lines_of (drop 1 (drop (line_len (next ∷ text)) (next ∷ text)))
        → lines_of (byte ∷ next ∷ text) ≡ take (line_len (byte ∷ next ∷ text)) (byte ∷ next ∷ text) ∷ lines_of (drop 1 (drop (line_len (byte ∷ next ∷ text)) (byte ∷ next ∷ text)))
    by true is more = rw is refl
    by false is more = rw is (onto-more byte (next ∷ text) (line_len (next ∷ text)) more)

-- the same of the parts of a text
pub lines_of-parts : (text line behind : List ℕ) (n : ℕ) → 0 < length text → n ≡ line_len text → line ≡ take n text → behind ≡ drop n text
    → lines_of text ≡ line ∷ lines_of (drop 1 behind)
lines_of-parts text line behind n some is front back = rw (front, back, is) (lines_of-first text some)

pub no-bytes : (bytes : List ℕ) → length bytes < 1 → bytes ≡ []
no-bytes [] few = refl
no-bytes (byte ∷ bytes) few = absurd (omega arith)

-- where no byte ends the first line, it is the whole text
pub line_len-all : (text : List ℕ) → position (λ byte. byte == 10) text ≡ None → length text ≡ line_len text
line_len-all text none =
    let within = prefix_len-le-length (λ byte. not (byte == 10)) text in
    grind (arith, nat_tests)

-- a byte and the lines behind it
pub lines_of-behind : (bytes : List ℕ) → lines_of (take (length bytes - 1) (drop 1 bytes)) ≡ lines_of (drop 1 bytes)
lines_of-behind [] = refl
lines_of-behind (byte ∷ bytes) =
    let size : length (byte ∷ bytes) - 1 ≡ length bytes = omega arith in
    rw size (ap lines_of (take-length bytes))
