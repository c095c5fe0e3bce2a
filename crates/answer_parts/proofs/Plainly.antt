-- The part of a world whose rows answer a question.
use Rattle.std.proofs.Common.{◌≡◌, ◌++◌, ◌∷◌, [], List, ℕ, length, map, refl, subst, sym}
use Rattle.std.specs.Prelude.{OnOk, Result, Ok, Err}
use Rattle.std.proofs.lemmas.List.{append-nil}
use Rattle.csv.specs.Writing.{default_writer, row_text}
use Rattle.graph_model.specs.declared.queries.Ask.{Ask}
use Rattle.graph_model.specs.Answer.{IsAnswer, Row, row_fields}
use Rattle.graph_model.specs.Interval.{Interval}
use Rattle.graph_model.specs.Output.{world_row}
use Rattle.graph_model.specs.RowText.{rows_text}
use Rattle.graph_model.specs.World.{World}
use Rattle.answer_parts.specs.WorldPart.{AddsPart, part_rows}
use Rattle.answer_parts.proofs.Written.{part_of}

-- rows that answer a question, behind the row of their world, are its part, also for a question that is the same
pub part_added : {T E : Type 0} (r : Result T E) (w : World) (ask other : Ask) (answer : List Row) (old new : List ℕ) → ask ≡ other → IsAnswer w other answer
    → OnOk r (new ≡ old ++ rows_text (part_rows w answer)) → OnOk r (AddsPart w ask old new)
unfolding AddsPart
part_added (Ok x) w ask other answer old new is answers h = (part_rows w answer, (answer, subst (λ a. IsAnswer w a answer) (sym is) answers, refl), h)
part_added (Err e) w ask other answer old new is answers h = tt

-- as many rows as an answer has, of which they are the rows, behind the row of their world, are its part
pub answer_added : {T E : Type 0} (r : Result T E) (w : World) (ask : Ask) (bounds : Interval) (n : ℕ) (rows answer : List Row) (old new : List ℕ) → bounds ≡ w.bounds → n ≡ length rows → rows ≡ answer → IsAnswer w ask answer
    → OnOk r (new ≡ old ++ rows_text (world_row bounds n ∷ map row_fields rows)) → OnOk r (AddsPart w ask old new)
answer_added r w ask bounds n rows answer old new b count is answers h = part_added r w ask ask answer old new refl answers (part_of r w bounds n rows answer old new b count is h)

-- the row of a world alone is its part where the answer has no row
pub nothing_added : {T E : Type 0} (r : Result T E) (w : World) (ask : Ask) (bounds : Interval) (old new : List ℕ) → bounds ≡ w.bounds → IsAnswer w ask []
    → OnOk r (new ≡ old ++ row_text default_writer (world_row bounds 0)) → OnOk r (AddsPart w ask old new)
nothing_added r w ask bounds old new b answers h =
    answer_added r w ask bounds 0 [] [] old new b refl refl answers
    (subst (λ t. OnOk r (new ≡ old ++ t)) (sym (append-nil (row_text default_writer (world_row bounds 0)))) h)
