-- Which words are a command, option by option.
use Rattle.std.specs.Prelude.{◌≡◌, ℕ, pos, ◌+◌, ◌*◌, ◌≤◌, true, List, codes, length, Some, slice_get}
use Rattle.graph_model.specs.declared.events.Model.{Model}
use Rattle.command_words.specs.Command.{is_path}
use Rattle.graph_model.specs.Output.{model_word}
use Rattle.graph_model.specs.WholeNumber.{WritesWhole}
use Rattle.command_words.specs.Command.{most_generated}

-- an option stands among words in which options and values take turns, with this value behind it
abbrev pub HasOption : List (List ℕ) → List ℕ → List ℕ → Type 0
HasOption words option value = (i : ℕ)
    × (slice_get words (2 * i) ≡ Some option) × (slice_get words (2 * i + 1) ≡ Some value)

-- six words that are three options, each with its value: the word of a model, and two paths
pub record NamesFiles (words : List (List ℕ)) (model : Model) (events script : List ℕ) : Type 0 where
  pub six : length words ≡ 6
  pub named_model : HasOption words (codes "--model") (model_word model)
  pub events_file : HasOption words (codes "--events") events
  pub script_file : HasOption words (codes "--script") script
  pub events_path : is_path events ≡ true
  pub script_path : is_path script ≡ true

-- four words that are two options, each with its value: the word of a model, and a whole number of records
pub record AsksForRecords (words : List (List ℕ)) (model : Model) (count : ℕ) : Type 0 where
  pub four : length words ≡ 4
  pub named_model : HasOption words (codes "--model") (model_word model)
  pub number : List ℕ
  pub given_number : HasOption words (codes "--generate") number
  pub writes : WritesWhole number (pos count)
  pub one : 1 ≤ count
  pub most : count ≤ most_generated
