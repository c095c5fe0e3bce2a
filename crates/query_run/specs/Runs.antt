-- What a run does to its inputs and its sink.
use Rattle.std.specs.Prelude.{◌≡◌, ◌⊎◌, ◌<◌, ◌≤◌, ◌+◌, ◌%◌, ◌^◌, ℕ, true, false, Bool, IfSome, IsSomeAnd, IsTrue, List, [], ◌∷◌, Option, Some, None, length, slice_get, take, ⊤}
use Rattle.std.specs.Io.KnownBytes.{IsAtEnd, append_known}
use Rattle.graph_model.specs.declared.events.Model.{Model}
use Rattle.graph_model.specs.Limits.{most_events_bytes, most_script_bytes}
use Rattle.graph_model.specs.Output.{IsOutput, is_clean}
use Rattle.command_words.specs.Command.{Command, Files, Generate}
use Rattle.command_words.specs.Generator.{generated_file, generated_script}
use Rattle.outside_io.specs.Outside.{IsLonger, IsMissing, Rises, bytes_of}
use Rattle.query_answers.specs.Refusing.{asked_refusal}
use Rattle.query_run.specs.Cost.{counted_steps, is_counted_script}
use Rattle.query_run.specs.declared.top.Which.{Which}
use Rattle.query_run.specs.declared.top.Which.TheVariants.{Events, Script}
use Rattle.query_run.specs.declared.top.Status.{Status}
use Rattle.query_run.specs.declared.top.Status.TheVariants.{Done, DoneWithRefusals, Usage, Memory, InputFault, OutputFault, TooLong}

-- the files that a command begins, by their paths, in the order in which they are begun
abbrev pub paths_of : Command → List (List ℕ)
paths_of (Files model events script) = events ∷ script ∷ []
paths_of (Generate model count) = []

-- the files that words begin
abbrev pub begun_by : Option Command → List (List ℕ)
begun_by None = []
begun_by (Some command) = paths_of command

-- the place of a file among them
abbrev pub place_of : Which → ℕ
place_of Events = 0
place_of Script = 1

-- the path of a file, where words begin it
abbrev pub path_of : Which → Option Command → Option (List ℕ)
path_of which command = slice_get (begun_by command) (place_of which)

-- a fact of the model, the events file and the script that a command is about: those of both paths, where the files are
-- told, or those of the generator
abbrev pub HasTexts : Option Command → Option (List (List ℕ × List ℕ))
    → (Model → List ℕ → List ℕ → Type 0) → Type 0
HasTexts None files P = ⊥
HasTexts (Some (Files model events script)) None P = ⊤
HasTexts (Some (Files model events script)) (Some files) P =
    (e : List ℕ) × (bytes_of files events ≡ Some e)
    × (s : List ℕ) × (bytes_of files script ≡ Some s) × P model e s
HasTexts (Some (Generate model count)) files P =
    P model (generated_file count) generated_script

-- the whole output was written behind what was there
abbrev pub WritesAll : Option (List ℕ) → Option (List ℕ) → Model → List ℕ → List ℕ → Type 0
WritesAll old new model events script = (text : List ℕ)
    × IsOutput asked_refusal model events script text × (new ≡ append_known old text)

-- a front of the output was written behind what was there
abbrev pub WritesFrontOf : Option (List ℕ) → Option (List ℕ) → Model → List ℕ → List ℕ → Type 0
WritesFrontOf old new model events script = (text : List ℕ)
    × IsOutput asked_refusal model events script text
    × (n : ℕ) × (n ≤ length text) × (new ≡ append_known old (take n text))

-- what was written, by the status
abbrev pub Writes : Status → Option Command → Option (List (List ℕ × List ℕ)) → Option (List ℕ) → Option (List ℕ) → Type 0
Writes Done command files old new = HasTexts command files (λ model events script.
    WritesAll old new model events script × (is_clean asked_refusal model events script ≡ true))
Writes DoneWithRefusals command files old new = HasTexts command files (λ model events script.
    WritesAll old new model events script × (is_clean asked_refusal model events script ≡ false))
Writes OutputFault command files old new = HasTexts command files (WritesFrontOf old new)
Writes Usage command files old new = new ≡ old
Writes Memory command files old new = new ≡ old
Writes (InputFault which) command files old new = new ≡ old
Writes (TooLong which) command files old new = new ≡ old

-- what was written of the answer to a script on an events file, by the status: one that is about words or files is none
abbrev pub WritesAnswer : Status → Model → List ℕ → List ℕ → Option (List ℕ) → Option (List ℕ)
    → Type 0
WritesAnswer Done model events script old new =
    WritesAll old new model events script × (is_clean asked_refusal model events script ≡ true)
WritesAnswer DoneWithRefusals model events script old new =
    WritesAll old new model events script × (is_clean asked_refusal model events script ≡ false)
WritesAnswer OutputFault model events script old new = WritesFrontOf old new model events script
WritesAnswer Memory model events script old new = new ≡ old
WritesAnswer Usage model events script old new = ⊥
WritesAnswer (InputFault which) model events script old new = ⊥
WritesAnswer (TooLong which) model events script old new = ⊥

-- a status at which some of the output may have been written
abbrev pub MayHaveWritten : Status → Type 0
MayHaveWritten Done = ⊤
MayHaveWritten DoneWithRefusals = ⊤
MayHaveWritten OutputFault = ⊤
MayHaveWritten Usage = ⊥
MayHaveWritten Memory = ⊥
MayHaveWritten (InputFault which) = ⊥
MayHaveWritten (TooLong which) = ⊥

-- a file that words begin is missing
abbrev pub Misses : Option Command → Option (List (List ℕ × List ℕ)) → Which → Type 0
Misses command files which = IsSomeAnd (path_of which command) (IsMissing files)

-- how many bytes a file may have
abbrev pub most_of : Which → ℕ
most_of Events = most_events_bytes
most_of Script = most_script_bytes

-- a file that words begin is there and too long, where the files are told
abbrev pub IsTooLong : Option Command → Option (List (List ℕ × List ℕ)) → Which → Type 0
IsTooLong command files which = IsSomeAnd (path_of which command) (λ path. IsLonger files path (most_of which))

-- a file is there and not too long, where the files are told
abbrev pub IsWithin : Option (List (List ℕ × List ℕ)) → Which → List ℕ → Type 0
IsWithin None which path = ⊤
IsWithin (Some files) which path = (bytes : List ℕ) × (bytes_of files path ≡ Some bytes) × (length bytes ≤ most_of which)

-- words begin an events file, and it is there and not too long
abbrev pub HasEvents : Option Command → Option (List (List ℕ × List ℕ)) → Type 0
HasEvents command files = IsSomeAnd (path_of Events command) (IsWithin files Events)

-- the answer was written, or memory was wanting for it
abbrev pub IsAnswered : Status → Type 0
IsAnswered Done = ⊤
IsAnswered DoneWithRefusals = ⊤
IsAnswered Memory = ⊤
IsAnswered Usage = ⊥
IsAnswered (InputFault which) = ⊥
IsAnswered OutputFault = ⊥
IsAnswered (TooLong which) = ⊥

-- how many files are begun when a file is read
abbrev pub begun_for : Which → ℕ
begun_for which = place_of which + 1

-- a file was begun, and more bytes of it were given than it may have
abbrev pub IsOver : Which → ℕ → ℕ → ℕ → Type 0
IsOver which begun_before begun given = (begun ≡ (begun_before + begun_for which) % 2 ^ 64) × (most_of which < given)

-- how the inputs stand where some of the output may have been written: behind both files of a command, read to their
-- ends, or, where it begins none, with none begun
abbrev pub HasRead : Option Command → (begun_before begun : ℕ) → Option Bool → Option (List ℕ) → Type 0
HasRead None begun_before begun had_left left = ⊥
HasRead (Some (Files model events script)) begun_before begun had_left left =
    (begun ≡ (begun_before + 2) % 2 ^ 64) × IfSome had_left (λ had. had ≡ false) × IsAtEnd left
HasRead (Some (Generate model count)) begun_before begun had_left left = begun ≡ begun_before

-- something is amiss with a file that a command begins: one is missing, a count of faults rose, or one is over its limit
abbrev pub IsAmiss : Option Command → Option (List (List ℕ × List ℕ)) → (faults_before faults : ℕ)
    → (begun_before begun given : ℕ) → Type 0
IsAmiss None files faults_before faults begun_before begun given = ⊥
IsAmiss (Some (Files model events script)) files faults_before faults begun_before begun given =
    (IsMissing files events ⊎ IsMissing files script)
    ⊎ (Rises faults_before faults
    ⊎ (IsOver Events begun_before begun given ⊎ IsOver Script begun_before begun given))
IsAmiss (Some (Generate model count)) files faults_before faults begun_before begun given = ⊥

-- how many steps a run adds: none where the words are no command or a file is missing, and no more than the texts ask
-- for where both are told and each answered query is counted
abbrev pub AddsUpTo : Model → Option (List ℕ) → Option (List ℕ) → ℕ → ℕ → Type 0
AddsUpTo model None script old new = new ≡ old
AddsUpTo model (Some events) None old new = new ≡ old
AddsUpTo model (Some events) (Some script) old new = IsTrue (is_counted_script model events script)
    → new ≤ old + counted_steps model events script

abbrev pub IsCounted : Option Command → Option (List (List ℕ × List ℕ)) → ℕ → ℕ → Type 0
IsCounted None files old new = new ≡ old
IsCounted (Some (Files model events script)) None old new = ⊤
IsCounted (Some (Files model events script)) (Some files) old new =
    AddsUpTo model (bytes_of files events) (bytes_of files script) old new
IsCounted (Some (Generate model count)) files old new =
    AddsUpTo model (Some (generated_file count)) (Some generated_script) old new
