-- The command that the words of a command line are.
use Rattle.std.specs.Prelude.{ℕ, ℤ, pos, negsuc, nat_le, ◌≤◌, ⊤, Bool, false, not, ◌==◌, ◌&&◌, List, [], ◌∷◌, codes, length, Option, Some, None, unwrap_or, option_map, option_and_then, if◌then◌else◌}
use Rattle.std.specs.Str.{bytes_eq}
use Rattle.graph_model.specs.declared.events.Model.{Model}
use Rattle.graph_model.specs.declared.events.Model.TheVariants.{Event as Instants, Persistent}
use Rattle.graph_model.specs.WholeNumber.{whole_of}
use Rattle.command_words.specs.declared.words.Command as declared
use Rattle.command_words.specs.declared.words.Command.TheVariants as declared_form

-- a command: to answer a script on an events file, or the generator's script on its file of so many records, under a model
pub data Command : Type 0 where
  Files : (model : Model) → (events script : List ℕ) → Command
  Generate : (model : Model) → (count : ℕ) → Command

-- the word behind the first option of this name, where options and values take turns
abbrev pub first_value : List ℕ → List (List ℕ) → Option (List ℕ)
first_value option [] = None
first_value option (name ∷ []) = None
first_value option (name ∷ value ∷ words) = if bytes_eq name option then Some value else first_value option words

-- that word, or an empty one where the option is not there
abbrev pub option_value : List (List ℕ) → List ℕ → List ℕ
option_value words option = unwrap_or (first_value option words) []

-- the model that a word names
abbrev pub model_of : List ℕ → Option Model
model_of word = if bytes_eq word (codes "event") then Some Instants else (if bytes_eq word (codes "persistent") then Some Persistent else None)

-- a path is not empty and does not begin with a dash
abbrev pub is_path : List ℕ → Bool
is_path [] = false
is_path (byte ∷ bytes) = not (byte == 45)

-- the most records that the generator is asked for
abbrev pub most_generated : ℕ
most_generated = 1000000

-- so many records, where that is a number from 1 to the most
abbrev pub count_in : ℤ → Option ℕ
count_in (pos n) = if nat_le 1 n && nat_le n most_generated then Some n else None
count_in (negsuc n) = None

-- how many records a word asks for
abbrev pub count_of : List ℕ → Option ℕ
count_of word = option_and_then count_in (whole_of word)

-- the command that six words are: each of three options has a value of its kind
abbrev pub files_command : List (List ℕ) → Option Command
files_command words =
    let events = option_value words (codes "--events") in
    let script = option_value words (codes "--script") in
    if is_path events && is_path script
    then option_map (λ model. Files model events script) (model_of (option_value words (codes "--model")))
    else None

-- the command that four words are: both of two options have a value of their kind
abbrev pub generate_command : List (List ℕ) → Option Command
generate_command words = option_and_then
    (λ model. option_map (Generate model) (count_of (option_value words (codes "--generate"))))
    (model_of (option_value words (codes "--model")))

-- the command that words are, if they are one
abbrev pub command : List (List ℕ) → Option Command
command words =
    if length words == 6 then files_command words
    else (if length words == 4 then generate_command words else None)

-- what a command that was read says
abbrev pub command_said : declared.Command → Command
command_said (declared_form.Files model events script) = Files model events.now script.now
command_said (declared_form.Generate model count) = Generate model count

-- a command that was read asks for no records, or for a number from 1 to the most
abbrev pub IsInRange : declared.Command → Type 0
IsInRange (declared_form.Files model events script) = ⊤
IsInRange (declared_form.Generate model count) = (1 ≤ count) × (count ≤ most_generated)
