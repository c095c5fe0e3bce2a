-- The part of one world in the answer to a question.
use Rattle.std.specs.Prelude.{◌≡◌, ℕ, List, ◌∷◌, ◌++◌, length, map}
use Rattle.graph_model.specs.declared.queries.Ask.{Ask}
use Rattle.graph_model.specs.Answer.{Row, row_fields}
use Rattle.graph_model.specs.Output.{IsPart, world_row}
use Rattle.graph_model.specs.RowText.{rows_text}
use Rattle.graph_model.specs.World.{World}

-- the row of a world, and the rows of an answer
abbrev pub part_rows : World → List Row → List (List (List ℕ))
part_rows w answer = world_row w.bounds (length answer) ∷ map row_fields answer

-- a text has become another by the part of a world in the answer to a question, put behind it
unfoldable pub AddsPart : World → Ask → List ℕ → List ℕ → Type 0
AddsPart w ask old new = (part : List (List (List ℕ))) × IsPart w ask part × (new ≡ old ++ rows_text part)
