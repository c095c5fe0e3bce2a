-- The draws of the generator, one after another, and its records.
use Rattle.std.proofs.Common.{◌≡◌, ℕ, zero, suc, ◌+◌, ◌*◌, ◌/◌, ◌++◌, List, [], ◌∷◌, refl, ap, sym, ◌∙◌, append-nil, append_assoc, arith}
use Rattle.std.specs.List.{flat_map, range_with_len}
use Rattle.command_words.specs.Generator.{draw, edge_fields, generated_file, generated_record, number_after, number_at, record_line}

pub number_at-first : number_at 0 ≡ 1
unfolding number_at
number_at-first = refl

number_at-next : (j k : ℕ) → k ≡ j + 1 → number_at k ≡ number_after (number_at j)
unfolding number_at
number_at-next j k e = let after : k ≡ suc j = omega arith in rw after refl

-- the number that follows the one at a place is the one at the next place
pub number_at-reached : (j k x y : ℕ) → k ≡ j + 1 → x ≡ number_at j → y ≡ number_after x → y ≡ number_at k
number_at-reached j k x y next from reached = reached ∙ (ap number_after from ∙ sym (number_at-next j k next))

-- the record of three draws one behind another
pub record_of_draws : (i y z u p q r : ℕ) → y ≡ number_at (3 * i + 1) → z ≡ number_at (3 * i + 2) → u ≡ number_at (3 * i + 3)
    → p ≡ y / 65536 → q ≡ z / 65536 → r ≡ u / 65536 → record_line (edge_fields i p q r) ≡ generated_record i
record_of_draws i y z u p q r first second third a b c =
    let source : p ≡ draw (3 * i + 1) = a ∙ ap (λ n. n / 65536) first in
    let destination : q ≡ draw (3 * i + 2) = b ∙ ap (λ n. n / 65536) second in
    let last : r ≡ draw (3 * i + 3) = c ∙ ap (λ n. n / 65536) third in
    ap (λ n. record_line (edge_fields i n q r)) source
    ∙ (ap (λ n. record_line (edge_fields i (draw (3 * i + 1)) n r)) destination
    ∙ ap (λ n. record_line (edge_fields i (draw (3 * i + 1)) (draw (3 * i + 2)) n)) last)

-- what each number of a range gives, and what the next one does
flat_map-range_more : (f : ℕ → List ℕ) (a n k : ℕ) → k ≡ a + n → flat_map f (range_with_len a (n + 1)) ≡ flat_map f (range_with_len a n) ++ f k
flat_map-range_more f a zero k at = let here : k ≡ a = omega arith in rw (append-nil, here) refl
flat_map-range_more f a (suc n) k at =
    let further : k ≡ (a + 1) + n = omega arith in
    let more : suc n + 1 ≡ suc (n + 1) = omega arith in
    rw (more, flat_map-range_more f (a + 1) n k further) (sym (append_assoc (f a) (flat_map f (range_with_len (a + 1) n)) (f k)))

pub generated_file-none : generated_file 0 ≡ []
unfolding generated_file
generated_file-none = refl

-- the file of one record more
pub generated_file-more : (i : ℕ) → generated_file (i + 1) ≡ generated_file i ++ generated_record i
unfolding generated_file
generated_file-more i = flat_map-range_more generated_record 0 i i (omega arith)

-- texts, each behind its mark, put behind a file one after another
in_turn : (file a t b p c q d l e w end : List ℕ)
    → (((((file ++ (a ++ t)) ++ (b ++ p)) ++ (c ++ q)) ++ (d ++ l)) ++ (e ++ w)) ++ end
    ≡ file ++ (a ++ (t ++ (b ++ (p ++ (c ++ (q ++ (d ++ (l ++ (e ++ (w ++ end))))))))))
in_turn file a t b p c q d l e w end = simp append_assoc

-- an end behind texts and their marks
ended : (t b p c q d l e w end : List ℕ)
    → (t ++ (b ++ (p ++ (c ++ (q ++ (d ++ (l ++ (e ++ w)))))))) ++ end ≡ t ++ (b ++ (p ++ (c ++ (q ++ (d ++ (l ++ (e ++ (w ++ end))))))))
ended t b p c q d l e w end = simp append_assoc

-- a record in pieces: its numbers, each behind what stands before it, and its end
pub record_pieces : (file time source destination layer value : List ℕ)
    → (((((file ++ (101 ∷ 100 ∷ 103 ∷ 101 ∷ 44 ∷ time)) ++ (44 ∷ 110 ∷ source)) ++ (44 ∷ 110 ∷ destination)) ++ (44 ∷ 108 ∷ layer)) ++ (44 ∷ 119 ∷ 58 ∷ 105 ∷ 61 ∷ value)) ++ 10 ∷ []
    ≡ file ++ record_line ((101 ∷ 100 ∷ 103 ∷ 101 ∷ []) ∷ time ∷ (110 ∷ source) ∷ (110 ∷ destination) ∷ (108 ∷ layer) ∷ (119 ∷ 58 ∷ 105 ∷ 61 ∷ value) ∷ [])
record_pieces file time source destination layer value =
    in_turn file (101 ∷ 100 ∷ 103 ∷ 101 ∷ 44 ∷ []) time (44 ∷ 110 ∷ []) source (44 ∷ 110 ∷ []) destination (44 ∷ 108 ∷ []) layer (44 ∷ 119 ∷ 58 ∷ 105 ∷ 61 ∷ []) value (10 ∷ [])
    ∙ ap (λ xs. file ++ (101 ∷ 100 ∷ 103 ∷ 101 ∷ 44 ∷ xs)) (sym (ended time (44 ∷ 110 ∷ []) source (44 ∷ 110 ∷ []) destination (44 ∷ 108 ∷ []) layer (44 ∷ 119 ∷ 58 ∷ 105 ∷ 61 ∷ []) value (10 ∷ [])))
