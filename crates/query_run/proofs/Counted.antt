-- The readings of the lines of a script, one after another.
use Rattle.std.proofs.Common.{◌≡◌, ◌≤◌, ◌+◌, ◌∷◌, ℕ, Bool, true, false, List, length, refl, arith}
use Rattle.std.specs.Prelude.{IsTrue, Option, None, Some, Ok, if◌then◌else◌}
use Rattle.std.specs.List.{list_all}
use Rattle.std.proofs.lemmas.Bool.{and_parts}
use Rattle.graph_model.specs.declared.events.Model.{Model}
use Rattle.graph_model.specs.declared.queries.Query.{Query}
use Rattle.graph_model.specs.QueryLine.{asked_of, query_said, unless_refused}
use Rattle.graph_model.specs.Reading.{base_world, reading}
use Rattle.graph_model.specs.Script.{QueryRefusal, Windows, is_blank, lines_of}
use Rattle.graph_model.specs.World.{World}
use Rattle.query_answers.specs.Cost.{GraphSize, is_counted_query, query_steps}
use Rattle.query_answers.specs.Refusing.{are_too_many, asked_refusal, asked_worlds}
use Rattle.query_run.specs.Cost.{counted_steps, is_counted_line, is_counted_said, is_counted_script, line_steps, lines_steps, said_steps, size_read}
use Rattle.file_reading.specs.Costs.{most_steps}

-- where all lines are counted, the lines that are left are, and the steps so far leave enough for them
abbrev pub StepsLeft : World → GraphSize → List (List ℕ) → List (List ℕ) → ℕ → ℕ → Type 0
StepsLeft w size lines left old now = IsTrue (list_all (is_counted_line w) lines)
    → IsTrue (list_all (is_counted_line w) left) × (now + lines_steps w size left ≤ old + lines_steps w size lines)

-- one line more
pub StepsLeft-more : (w : World) (size : GraphSize) (lines left more : List (List ℕ)) (line : List ℕ) (old now after : ℕ) → left ≡ line ∷ more
    → (IsTrue (is_counted_line w line) → after ≤ now + line_steps w size line) → StepsLeft w size lines left old now → StepsLeft w size lines more old after
StepsLeft-more w size lines left more line old now after is cost before all =
    let next = rw is at (before all) in
    let parts = and_parts (is_counted_line w line) (list_all (is_counted_line w) more) next.0 in
    let step = cost parts.0 in
    let enough = next.1 in
    (parts.1, omega (arith, step, enough))

-- what is read for a line at which memory was wanting
pub StepsLeft-cut : (w : World) (size : GraphSize) (lines left more : List (List ℕ)) (line : List ℕ) (old now after : ℕ) → left ≡ line ∷ more
    → (IsTrue (is_counted_line w line) → after ≤ now + line_steps w size line) → StepsLeft w size lines left old now
    → IsTrue (list_all (is_counted_line w) lines) → after ≤ old + lines_steps w size lines
StepsLeft-cut w size lines left more line old now after is cost before all =
    let rest = StepsLeft-more w size lines left more line old now after is cost before all in
    let enough = rest.1 in
    omega (arith, enough)

-- the readings of a query, answered or not
pub said_steps-of : (w : World) (size : GraphSize) (query : Query) (old new : ℕ) → (IsTrue (is_counted_query w.model query) → new ≤ old + query_steps size query)
    → IsTrue (is_counted_said w.model false (asked_of asked_refusal w (Ok query))) → new ≤ old + said_steps size false (asked_of asked_refusal w (Ok query))
said_steps-of w size query old new cost = by (are_too_many (asked_worlds w query))
  where
    refusal_by : Bool → Option QueryRefusal
    refusal_by many = if many then Some Windows else None

    by : (many : Bool) → IsTrue (is_counted_said w.model false (unless_refused (refusal_by many) query)) → new ≤ old + said_steps size false (unless_refused (refusal_by many) query)
    by false counted = cost counted
    by true counted = cc counted

-- those of a line that is not skipped
pub line_steps-of : (w : World) (size : GraphSize) (line : List ℕ) (query : Query) (old new : ℕ) → is_blank line ≡ false → query_said line ≡ Ok query
    → (IsTrue (is_counted_said w.model false (asked_of asked_refusal w (Ok query))) → new ≤ old + said_steps size false (asked_of asked_refusal w (Ok query)))
    → IsTrue (is_counted_line w line) → new ≤ old + line_steps w size line
line_steps-of w size line query old new some said cost = rw (some, said) cost

-- the readings of events, and then those of lines
pub counted_steps-all : (model : Model) (w : World) (events script : List ℕ) (size : GraphSize) (old middle new : ℕ) → w ≡ base_world model events → size ≡ size_read (reading model events)
    → middle ≤ old + most_steps (length (reading model events).accepted)
    → (IsTrue (list_all (is_counted_line w) (lines_of script)) → new ≤ middle + lines_steps w size (lines_of script))
    → IsTrue (is_counted_script model events script) → new ≤ old + counted_steps model events script
unfolding is_counted_script counted_steps
counted_steps-all model w events script size old middle new same is first second counted =
    let more = (rw (same, is) at second) counted in
    omega (arith, more, first)

pub counted_steps-read : (model : Model) (events script : List ℕ) (old new : ℕ) → new ≤ old + most_steps (length (reading model events).accepted) → new ≤ old + counted_steps model events script
unfolding counted_steps
counted_steps-read model events script old new h = omega (arith, h)
