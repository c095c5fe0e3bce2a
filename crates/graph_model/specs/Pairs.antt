-- Properties as they lie in memory, and as pairs.
use Rattle.std.specs.Prelude.{ℕ, List, map}
use Rattle.graph_model.specs.declared.properties.Value.{Value}
use Rattle.graph_model.specs.declared.properties.Prop.{Prop}

-- the keys and values of properties
abbrev pub pairs : List Prop → List (List ℕ × Value)
pairs items = map (λ p. (p.key, p.value)) items
