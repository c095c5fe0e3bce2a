-- The keys of properties, by their numbers, with the types that they keep.
use Rattle.std.specs.Prelude.{ℕ, pos, List, [], ◌∷◌, ◌++◌, Bool, false, not, if◌then◌else◌, fold, ◌≡◌, ◌<◌, Option, Some, None, is_some, map, length, slice_index_or, MatchOption}
use Rattle.std.specs.Option.{option_map_or}
use Rattle.std.specs.List.{find, AllByRecursion}
use Rattle.std.specs.Map.{lookup}
use Rattle.graph_model.specs.declared.properties.Value.{Value}
use Rattle.graph_model.specs.declared.properties.Value.TheVariants.{Int}
use Rattle.graph_model.specs.declared.properties.ValueType.{ValueType}
use Rattle.graph_model.specs.Names.{same_name}
use Rattle.graph_model.specs.ValueKind.{value_type, same_value_type}
use Rattle.time_history.specs.Telling.{with_key_names}

-- the type that a table has for a key
abbrev pub type_in : List (List ℕ × ValueType) → List ℕ → Option ValueType
type_in keys key = lookup (same_name key) keys

-- the name of a key's number
abbrev pub key_name : List (List ℕ × ValueType) → ℕ → List ℕ
key_name keys k = slice_index_or (map (λ (p : List ℕ × ValueType). p.0) keys) k []

-- whether a table has another type for the key of a property
abbrev pub clashes : List (List ℕ × ValueType) → List ℕ × Value → Bool
clashes keys p = option_map_or (λ kept. not (same_value_type kept (value_type p.1))) (type_in keys p.0) false

-- the type that a table has for the key of the first property that clashes, and the type of its value
abbrev pub IsClash : List (List ℕ × ValueType) → List (List ℕ × Value) → Option (ValueType × ValueType) → Type 0
IsClash keys props clash = MatchOption clash (find (clashes keys) props ≡ None)
    (λ r. (p : List ℕ × Value) × (find (clashes keys) props ≡ Some p) × (type_in keys p.0 ≡ Some r.0) × (value_type p.1 ≡ r.1))

-- a key and its type
abbrev pub key_with_type : List ℕ × Value → List ℕ × ValueType
key_with_type p = (p.0, value_type p.1)

-- a table with the key of a property, put last with the type of its value, unless it is there
abbrev pub with_key : List (List ℕ × ValueType) → List ℕ × Value → List (List ℕ × ValueType)
with_key keys p = if is_some (type_in keys p.0) then keys else (keys ++ (p.0, value_type p.1) ∷ [])

-- a table with the keys of properties, one after another
abbrev pub with_keys : List (List ℕ × ValueType) → List (List ℕ × Value) → List (List ℕ × ValueType)
with_keys keys props = fold with_key keys props

-- values by the numbers of their keys, which are those of the properties
pub record AreNumbered (keys : List (List ℕ × ValueType)) (props : List (List ℕ × Value)) (values : List (ℕ × Value)) : Type 0 where
  pub names : with_key_names (key_name keys) values ≡ props
  pub below : AllByRecursion (λ (p : ℕ × Value). p.0 < length keys) values

-- a property for places past the end of a list
abbrev pub prop_at : List (List ℕ × Value) → ℕ → List ℕ × Value
prop_at props i = slice_index_or props i ([], Int (pos 0))
