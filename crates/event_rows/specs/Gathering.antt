-- Properties as they are gathered, one field after another.
use Rattle.std.specs.Prelude.{ℕ, nat_le, List, [], ◌∷◌, length, Option, Some, None, if◌then◌else◌}
use Rattle.graph_model.specs.declared.properties.Value.{Value}
use Rattle.graph_model.specs.Limits.{most_properties}
use Rattle.graph_model.specs.Props.{has_key, put_prop}
use Rattle.graph_model.specs.PropertyField.{property_of}

-- a property, put in its place among others, where its key is not among them and there are fewer
-- than there may be
abbrev pub put_read : List (List ℕ × Value) → Option (List ℕ × Value) → Option (List (List ℕ × Value))
put_read props None = None
put_read props (Some p) = if has_key p.0 props then None else (if nat_le most_properties (length props) then None else Some (put_prop p props))

abbrev pub put_field : List (List ℕ × Value) → List ℕ → Option (List (List ℕ × Value))
put_field props field = put_read props (property_of field)

abbrev pub on_some : {A B : Type 0} → Option A → (A → Option B) → Option B
on_some None more = None
on_some (Some x) more = more x

-- properties with those of further fields put in their places
abbrev pub with_properties : List (List ℕ × Value) → List (List ℕ) → Option (List (List ℕ × Value))
with_properties props [] = Some props
with_properties props (field ∷ fields) = on_some (put_field props field) (λ more. with_properties more fields)
