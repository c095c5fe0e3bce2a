-- Properties as the fields of a record: a key, a `:`, and a value by its type.
use Rattle.std.specs.Prelude.{◌≡◌, ℕ, Bool, true, false, not, ◌==◌, ◌&&◌, nat_eq, nat_lt, IsTrue, List, length, drop, ◌++◌, codes, FitsSigned, Option, Some, None, option_map, if◌then◌else◌}
use Rattle.std.specs.Int.{w64}
use Rattle.std.specs.List.{before_first, after_first, position_or_len, starts_with, list_all}
use Rattle.std.specs.Str.{bytes_eq}
use Rattle.graph_model.specs.declared.properties.Value.{Value}
use Rattle.graph_model.specs.declared.properties.Value.TheVariants.{Int, Flag, Text}
use Rattle.graph_model.specs.Record.{flag_text}
use Rattle.graph_model.specs.TextForm.{is_name, is_text}
use Rattle.graph_model.specs.WholeNumber.{WritesWhole, whole_of}

-- a byte is a `:`
abbrev pub is_colon : ℕ → Bool
is_colon b = b == 58

-- a text has no `:`
abbrev pub has_no_colon : List ℕ → Bool
has_no_colon text = list_all (λ b. not (is_colon b)) text

-- a value that can be written: a whole number of 64 signed bits, a flag, or a text of at most 4,096 bytes
abbrev pub IsWritable : Value → Type 0
IsWritable (Int n) = FitsSigned w64 n
IsWritable (Flag b) = Unit {0}
IsWritable (Text text) = IsTrue (is_text text)

-- a text writes a value: `i=` and a whole number, `b=` and `true` or `false`, or `s=` and a text
abbrev pub WritesValue : List ℕ → Value → Type 0
WritesValue text (Int n) = (number : List ℕ) × (text ≡ codes "i=" ++ number) × WritesWhole number n
WritesValue text (Flag b) = text ≡ codes "b=" ++ flag_text b
WritesValue text (Text written) = (text ≡ codes "s=" ++ written) × IsTrue (is_text written)

-- a field writes a property: a name without a `:`, then a `:`, then a value
pub record WritesProperty (field key : List ℕ) (value : Value) : Type 0 where
  pub text : List ℕ
  pub parts : field ≡ key ++ codes ":" ++ text
  pub plain : IsTrue (has_no_colon key)
  pub name : IsTrue (is_name key)
  pub written : WritesValue text value

-- the flag that a text writes
abbrev pub flag_of : List ℕ → Option Bool
flag_of text = if bytes_eq text (codes "true") then Some true else (if bytes_eq text (codes "false") then Some false else None)

-- the text of a value, where it is not too long
abbrev pub words_of : List ℕ → Option (List ℕ)
words_of text = if is_text text then Some text else None

-- the value that a text writes, by the letter before its `=`
abbrev pub value_of_text : List ℕ → Option Value
value_of_text text = if starts_with nat_eq text (codes "i=") then option_map Int (whole_of (drop 2 text))
    else (if starts_with nat_eq text (codes "b=") then option_map Flag (flag_of (drop 2 text))
    else (if starts_with nat_eq text (codes "s=") then option_map Text (words_of (drop 2 text)) else None))

-- what stands before the first `:` of a field, and what stands after it
abbrev pub key_of : List ℕ → List ℕ
key_of field = before_first is_colon field

abbrev pub behind_key : List ℕ → List ℕ
behind_key field = after_first is_colon field

-- a field has a `:`, and a name before the first of them
abbrev pub has_named_key : List ℕ → Bool
has_named_key field = nat_lt (position_or_len is_colon field) (length field) && is_name (key_of field)

-- the property that a field writes, where it writes one
abbrev pub property_of : List ℕ → Option (List ℕ × Value)
property_of field = if has_named_key field then option_map (λ value. (key_of field, value)) (value_of_text (behind_key field)) else None
