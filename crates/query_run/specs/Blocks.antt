-- The blocks of lines in a text.
use Rattle.std.specs.Prelude.{◌≡◌, ◌++◌, ◌∷◌, ℕ, List, length, map, Result}
use Rattle.graph_model.specs.declared.queries.Query.{Query}
use Rattle.graph_model.specs.Output.{AreBlocks, IsBlock, IsQueryBlock, graph_row, refused_row}
use Rattle.graph_model.specs.RowText.{rows_text}
use Rattle.graph_model.specs.Script.{QueryRefusal, lines_of}
use Rattle.graph_model.specs.World.{World}
use Rattle.graph_store.specs.Contents.{base_of}
use Rattle.query_answers.specs.Refusing.{asked_refusal}
use Rattle.file_reading.specs.StoreReading.{reading_of}
use Rattle.file_reading.specs.declared.reading.FileReading.{FileReading}

-- a text has become another by the block of a query, or of its refusal, put behind it
unfoldable pub AddsQuery : World → ℕ → Result Query QueryRefusal → List ℕ → List ℕ → Type 0
AddsQuery w number said old new = (block : List (List (List ℕ)))
    × IsQueryBlock w number said block × (new ≡ old ++ rows_text block)

-- by the block of a line
unfoldable pub AddsLine : World → ℕ → List ℕ → List ℕ → List ℕ → Type 0
AddsLine w number line old new = (block : List (List (List ℕ)))
    × IsBlock asked_refusal w number line block × (new ≡ old ++ rows_text block)

-- by the blocks of lines, of which the first has this number
unfoldable pub AddsLines : World → ℕ → List (List ℕ) → List ℕ → List ℕ → Type 0
AddsLines w number lines old new = (blocks : List (List (List ℕ)))
    × AreBlocks asked_refusal w number lines blocks × (new ≡ old ++ rows_text blocks)

-- the text for what was read of an events file, and a script
unfoldable pub IsText : FileReading → List ℕ → List ℕ → Type 0
IsText read script text = let r = reading_of read in
    (blocks : List (List (List ℕ)))
    × AreBlocks asked_refusal (base_of read.store) 1 (lines_of script) blocks
    × (text ≡ rows_text (map refused_row r.refused
    ++ (graph_row read.store.model r.bounds (length r.accepted) (length r.refused) ∷ blocks)))
