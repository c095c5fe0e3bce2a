-- Options and values that take turns.
use Rattle.std.proofs.Common.{◌≡◌, ◌<◌, ◌+◌, ℕ, List, [], ◌∷◌, Some, None, length, get_or, drop, refl, arith}
use Rattle.std.specs.Prelude.{if◌then◌else◌}
use Rattle.std.specs.Str.{bytes_eq}
use Rattle.std.proofs.lemmas.List.{drop_more}
use Rattle.command_words.specs.Command.{first_value}

-- an option and its value, and then the words behind them
pub first_value-step : (words : List (List ℕ)) (option : List ℕ) (i : ℕ) → i + 1 < length words
    → first_value option (drop i words) ≡ (if bytes_eq (get_or words i []) option then Some (get_or words (i + 1) []) else first_value option (drop (i + 1 + 1) words))
first_value-step words option i within =
    let first : i < length words = omega arith in
    rw (drop_more words i [] first, drop_more words (i + 1) [] within) refl

-- of fewer than two words none is behind an option
pub first_value-few : (words : List (List ℕ)) (option : List ℕ) → length words < 2 → first_value option words ≡ None
first_value-few [] option few = refl
first_value-few (name ∷ []) option few = refl
first_value-few (name ∷ value ∷ words) option few = absurd (omega arith)
