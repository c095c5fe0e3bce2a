-- The output for what was read of an events file.
use Rattle.std.proofs.Common.{◌≡◌, ◌∙◌, ◌++◌, [], ℕ, List, length, map, refl, ap}
use Rattle.std.specs.Prelude.{IfOk, Result, Ok, Err, ◌&&◌, ◌==◌}
use Rattle.std.specs.List.{list_all}
use Rattle.graph_model.specs.declared.events.Model.{Model}
use Rattle.csv.specs.Writing.{default_writer, row_text}
use Rattle.graph_model.specs.Output.{IsOutput, graph_row, is_clean, is_clean_line, refused_row}
use Rattle.graph_model.specs.Reading.{Reading, base_world, reading, world_of}
use Rattle.graph_model.specs.RowText.{rows_text}
use Rattle.graph_model.specs.Script.{lines_of}
use Rattle.graph_model.specs.World.{World, base}
use Rattle.graph_store.specs.Contents.{base_of}
use Rattle.query_answers.specs.Refusing.{asked_refusal}
use Rattle.query_run.specs.Blocks.{AddsLines, IsText}
use Rattle.file_reading.specs.StoreReading.{refused_of, reading_of}
use Rattle.query_run.specs.declared.file_output.Answer.{Answer}
use Rattle.file_reading.specs.declared.reading.FileReading.{FileReading}
use Rattle.query_run.proofs.Blocks.{rows_text-whole}

-- the rows of refused records, that of the graph, and the blocks of lines
pub text-whole : (read : FileReading) (script none first second head all : List ℕ) → none ≡ []
    → first ≡ none ++ rows_text (map (λ r. refused_row (refused_of r)) read.refused.items)
    → second ≡ first ++ row_text default_writer (graph_row read.store.model read.store.bounds (length read.store.accepted) (length (map refused_of read.refused.items)))
    → head ≡ second → AddsLines (base_of read.store) 1 (lines_of script) head all → IsText read script all
unfolding AddsLines IsText
text-whole read script none first second head all empty e f same added =
    let (blocks, are, text) = added in
    let graph = graph_row read.store.model read.store.bounds (length read.store.accepted) (length (map refused_of read.refused.items)) in
    (blocks, are, rows_text-whole refused_of read.refused.items graph blocks none first second all empty e f (text ∙ ap (λ t. t ++ rows_text blocks) same))

-- the base world of a store is that of what was read
pub base-read : (model : Model) (read : FileReading) (events : List ℕ) → reading_of read ≡ reading model events → read.store.model ≡ model → base_of read.store ≡ base_world model events
base-read model read events is same =
    ap (λ (m : Model). base m read.store.bounds read.store.types read.store.accepted) same ∙ ap (world_of model) is

-- the text for what the file says is the output for the file
IsText-output : (model : Model) (read : FileReading) (events script text : List ℕ) → reading_of read ≡ reading model events → read.store.model ≡ model → IsText read script text → IsOutput asked_refusal model events script text
unfolding IsText IsOutput
IsText-output model read events script text is same given = rw (← base-read model read events is same, ← is, ← same) given

-- so is each that has this text
pub all_outputs : {E : Type 0} (model : Model) (events script : List ℕ) (answered : Result Answer E) (read : FileReading) → reading_of read ≡ reading model events → read.store.model ≡ model
    → IfOk answered (λ answer. IsText read script answer.text.items) → IfOk answered (λ answer. IsOutput asked_refusal model events script answer.text.items)
all_outputs model events script (Ok answer) read told_is same is = IsText-output model read events script answer.text.items told_is same is
all_outputs model events script (Err e) read told_is same is = tt

-- an answer is clean where no record and no line is refused
pub all_clean : {E : Type 0} (model : Model) (events script : List ℕ) (answered : Result Answer E) (read : FileReading) → reading_of read ≡ reading model events → read.store.model ≡ model
    → IfOk answered (λ answer. answer.clean ≡ ((length (reading_of read).refused == 0) && list_all (is_clean_line asked_refusal (base_of read.store)) (lines_of script)))
    → IfOk answered (λ answer. answer.clean ≡ is_clean asked_refusal model events script)
unfolding is_clean
all_clean model events script (Ok answer) read told_is same is =
    is
    ∙ ap (λ (w : World). (length (reading_of read).refused == 0) && list_all (is_clean_line asked_refusal w) (lines_of script)) (base-read model read events told_is same)
    ∙ ap (λ (r : Reading). (length r.refused == 0) && list_all (is_clean_line asked_refusal (base_world model events)) (lines_of script)) told_is
all_clean model events script (Err e) read told_is same is = tt
