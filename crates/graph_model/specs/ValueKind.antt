-- The types of values.
use Rattle.std.specs.Prelude.{Bool, true, false}
use Rattle.graph_model.specs.declared.properties.Value.{Value}
use Rattle.graph_model.specs.declared.properties.Value.TheVariants.{Int, Flag, Text}
use Rattle.graph_model.specs.declared.properties.ValueType.{ValueType}
use Rattle.graph_model.specs.declared.properties.ValueType.TheVariants as types

-- the type of a value
abbrev pub value_type : Value → ValueType
value_type (Int n) = types.Int
value_type (Flag b) = types.Flag
value_type (Text text) = types.Text

-- types that are one
abbrev pub same_value_type : ValueType → ValueType → Bool
same_value_type types.Int types.Int = true
same_value_type types.Flag types.Flag = true
same_value_type types.Text types.Text = true
same_value_type _ _ = false
