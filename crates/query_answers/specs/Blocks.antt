-- The block of a query in a text.
use Rattle.std.specs.Prelude.{◌≡◌, ◌∷◌, ◌++◌, ℕ, List, length}
use Rattle.graph_model.specs.declared.queries.Ask.{Ask}
use Rattle.graph_model.specs.declared.queries.Query.{Query}
use Rattle.graph_model.specs.Output.{AreParts, IsAnswerBlock, query_row}
use Rattle.graph_model.specs.RowText.{rows_text}
use Rattle.graph_model.specs.World.{World}

-- a text has become another by the block of a query that is answered about a world, put behind it
unfoldable pub AddsAnswer : World → ℕ → Query → List ℕ → List ℕ → Type 0
AddsAnswer w number query old new = (block : List (List (List ℕ)))
    × IsAnswerBlock w number query block × (new ≡ old ++ rows_text block)

-- by the parts of these worlds in the answer to a question
unfoldable pub AddsParts : List World → Ask → List ℕ → List ℕ → Type 0
AddsParts worlds ask old new = (parts : List (List (List ℕ)))
    × AreParts worlds ask parts × (new ≡ old ++ rows_text parts)

-- by the row of a question, and the parts of the worlds that it is answered on
unfoldable pub AddsBlock : List World → ℕ → Ask → List ℕ → List ℕ → Type 0
AddsBlock worlds number ask old new = (parts : List (List (List ℕ)))
    × AreParts worlds ask parts
    × (new ≡ old ++ rows_text (query_row number ask (length worlds) ∷ parts))
