-- Why a property is not put.
use Rattle.std.specs.Prelude.{ℕ, List, ◌≤◌, ◌<◌, length, IsTrue, IsFalse}
use Rattle.graph_model.specs.declared.properties.Value.{Value}
use Rattle.graph_model.specs.declared.properties.PropsFault.{PropsFault}
use Rattle.graph_model.specs.declared.properties.PropsFault.TheVariants.{Repeated, Full, Memory}
use Rattle.graph_model.specs.Props.{has_key}
use Rattle.graph_model.specs.Limits.{most_properties}

-- the key is there; or it is not, and as many as there may be are; or neither, and memory is wanting
abbrev pub IsPutFault : List ℕ → List (List ℕ × Value) → PropsFault → Type 0
IsPutFault key props Repeated = IsTrue (has_key key props)
IsPutFault key props Full = IsFalse (has_key key props) × (most_properties ≤ length props)
IsPutFault key props Memory = IsFalse (has_key key props) × (length props < most_properties)
