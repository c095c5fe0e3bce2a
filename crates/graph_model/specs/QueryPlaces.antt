-- What may stand in the places of a form: a number, a name, names, a comparison, a direction, a value.
-- What is not of the kind of its place is refused as shape; a number that cannot stand in it, as number.
use Rattle.std.specs.Prelude.{ℕ, ℤ, Bool, List, [], ◌∷◌, codes, Option, Some, None, option_map, unwrap_or, slice_get, Result, Ok, Err, if◌then◌else◌}
use Rattle.std.specs.Str.{bytes_eq}
use Rattle.serde_json.specs.Data.{Data, Num, null, boolean, number, string, array, object, Items, no_items, item}
use Rattle.serde_json.specs.Find.{as_array, as_number, as_str, as_i64, as_u64}
use Rattle.graph_model.specs.declared.properties.Value.{Value}
use Rattle.graph_model.specs.declared.properties.Value.TheVariants.{Int, Flag, Text}
use Rattle.graph_model.specs.declared.queries.Cmp.{Cmp}
use Rattle.graph_model.specs.declared.queries.Cmp.TheVariants.{Eq, Ne, Lt, Le, Gt, Ge}
use Rattle.graph_model.specs.declared.queries.Direction.{Direction}
use Rattle.graph_model.specs.declared.queries.Direction.TheVariants.{Outward, Inward, Both}
use Rattle.graph_model.specs.QueryOutcome.{all_of, map_outcome}
use Rattle.graph_model.specs.Range.{is_bound, is_moment, is_step, is_core_number}
use Rattle.graph_model.specs.Script.{QueryRefusal, Shape, Number}
use Rattle.graph_model.specs.TextForm.{is_name_long, is_text_long}

-- the items of an array, where a value is one
abbrev pub list_of : Items → List Data
list_of no_items = []
list_of (item d ds) = d ∷ list_of ds

abbrev pub as_list : Data → Option (List Data)
as_list d = option_map list_of (as_array d)

-- the item at a place, or null where there is none
abbrev pub place : ℕ → List Data → Data
place i items = unwrap_or (slice_get items i) null

-- a text, or an empty one where a value is none
abbrev pub text_of : Data → List ℕ
text_of d = unwrap_or (as_str d) []

-- the word of a form: the text that stands first
abbrev pub word_of : List Data → List ℕ
word_of items = text_of (place 0 items)

-- a number that is held as a whole one
abbrev pub held : {A : Type 0} → Option A → Result A QueryRefusal
held None = Err Number
held (Some n) = Ok n

-- a whole number of 64 signed bits
abbrev pub whole_in : Option Num → Result ℤ QueryRefusal
whole_in None = Err Shape
whole_in (Some n) = held (as_i64 n)

abbrev pub whole : Data → Result ℤ QueryRefusal
whole d = whole_in (as_number d)

-- a number in its range
abbrev pub ranged : {A : Type 0} → (A → Bool) → Result A QueryRefusal → Result A QueryRefusal
ranged fits (Err refusal) = Err refusal
ranged fits (Ok n) = if fits n then Ok n else Err Number

-- the end of a window, a moment, and a width or a step
abbrev pub bound : Data → Result ℤ QueryRefusal
bound d = ranged is_bound (whole d)

abbrev pub moment : Data → Result ℤ QueryRefusal
moment d = ranged is_moment (whole d)

abbrev pub step : Data → Result ℤ QueryRefusal
step d = ranged is_step (whole d)

-- the number of a core
abbrev pub count_in : Option Num → Result ℕ QueryRefusal
count_in None = Err Shape
count_in (Some n) = held (as_u64 n)

abbrev pub core_number : Data → Result ℕ QueryRefusal
core_number d = ranged is_core_number (count_in (as_number d))

-- a name
abbrev pub name_in : Option (List ℕ) → Result (List ℕ) QueryRefusal
name_in None = Err Shape
name_in (Some text) = if is_name_long text then Ok text else Err Shape

abbrev pub name : Data → Result (List ℕ) QueryRefusal
name d = name_in (as_str d)

-- names
abbrev pub names_in : Option (List Data) → Result (List (List ℕ)) QueryRefusal
names_in None = Err Shape
names_in (Some ds) = all_of name ds

abbrev pub names : Data → Result (List (List ℕ)) QueryRefusal
names d = names_in (as_list d)

-- what a text stands for among others
abbrev pub meaning : {A : Type 0} → List (List ℕ × A) → List ℕ → Result A QueryRefusal
meaning [] text = Err Shape
meaning (entry ∷ entries) text = if bytes_eq text entry.0 then Ok entry.1 else meaning entries text

-- the comparisons
abbrev pub comparisons : List (List ℕ × Cmp)
comparisons = (codes "==", Eq) ∷ (codes "!=", Ne) ∷ (codes "<", Lt) ∷ (codes "<=", Le) ∷ (codes ">", Gt) ∷ (codes ">=", Ge) ∷ []

abbrev pub comparison : Data → Result Cmp QueryRefusal
comparison d = meaning comparisons (text_of d)

-- the directions
abbrev pub directions : List (List ℕ × Direction)
directions = (codes "out", Outward) ∷ (codes "in", Inward) ∷ (codes "both", Both) ∷ []

abbrev pub direction : Data → Result Direction QueryRefusal
direction d = meaning directions (text_of d)

-- a value: a whole number of 64 signed bits, a flag, or a text
abbrev pub value : Data → Result Value QueryRefusal
value null = Err Shape
value (boolean b) = Ok (Flag b)
value (number n) = map_outcome Int (held (as_i64 n))
value (string text) = if is_text_long text then Ok (Text text) else Err Shape
value (array ds) = Err Shape
value (object ms) = Err Shape
