-- Rows that are written one after another.
use Rattle.std.proofs.Common.{◌≡◌, ◌∙◌, ◌++◌, ◌∷◌, ◌+◌, ◌≤◌, [], ℕ, List, length, drop, map, sym, ap, append_assoc, refl}
use Rattle.std.specs.Prelude.{OnOk, Result, Ok, Err, Some, slice_get}
use Rattle.std.proofs.lemmas.List.{append-nil, drop_more, drop_all}
use Rattle.std.proofs.lemmas.Option.{get_or_from_slice_get, slice_get_within}
use Rattle.csv.specs.Writing.{default_writer, row_text}
use Rattle.graph_model.specs.Answer.{Row, row_fields}
use Rattle.graph_model.specs.Interval.{Interval}
use Rattle.graph_model.specs.Output.{world_row}
use Rattle.graph_model.specs.RowText.{rows_text}
use Rattle.graph_model.specs.World.{World}
use Rattle.answer_parts.specs.WorldPart.{part_rows}

-- the first of some rows, and those behind it
pub row_written : (row : Row) (left behind : List Row) (before after : List ℕ) → left ≡ row ∷ behind → after ≡ before ++ row_text default_writer (row_fields row)
    → after ++ rows_text (map row_fields behind) ≡ before ++ rows_text (map row_fields left)
row_written row left behind before after is written = rw (written, is, append_assoc) refl

-- rows behind the row of a world, of which none is left
pub part_written : (old first final : List ℕ) (world : List (List ℕ)) (left rows : List Row) → first ≡ old ++ row_text default_writer world
    → final ++ rows_text (map row_fields left) ≡ first ++ rows_text (map row_fields rows) → left ≡ [] → final ≡ old ++ rows_text (world ∷ map row_fields rows)
part_written old first final world left rows e h none =
    sym (append-nil final)
    ∙ (ap (λ rs. final ++ rows_text (map row_fields rs)) (sym none)
    ∙ (h ∙ (ap (λ t. t ++ rows_text (map row_fields rows)) e ∙ append_assoc old (row_text default_writer world) (rows_text (map row_fields rows)))))

-- ---- a row for each item

pub item_left : {X : Type 0} (f : X → Row) (xs : List X) (i : ℕ) (x : X) → slice_get xs i ≡ Some x → map f (drop i xs) ≡ f x ∷ map f (drop (i + 1) xs)
item_left f xs i x got = ap (map f) (drop_more xs i x (slice_get_within xs i x got) ∙ ap (λ y. y ∷ drop (i + 1) xs) (get_or_from_slice_get xs i x x got))

pub items_end : {X : Type 0} (f : X → Row) (xs : List X) (i : ℕ) → length xs ≤ i → map f (drop i xs) ≡ []
items_end f xs i h = ap (map f) (drop_all i xs h)

-- the part of a world with as many rows as there are items
pub part_of : {T E : Type 0} (r : Result T E) (w : World) (bounds : Interval) (n : ℕ) (rows answer : List Row) (old new : List ℕ) → bounds ≡ w.bounds → n ≡ length rows → rows ≡ answer
    → OnOk r (new ≡ old ++ rows_text (world_row bounds n ∷ map row_fields rows)) → OnOk r (new ≡ old ++ rows_text (part_rows w answer))
part_of (Err e) w bounds n rows answer old new b count is h = tt
part_of (Ok x) w bounds n rows answer old new b count is h =
    let size : n ≡ length answer = count ∙ ap length is in
    h ∙ (λ i. old ++ rows_text (world_row (b i) (size i) ∷ map row_fields (is i)))
