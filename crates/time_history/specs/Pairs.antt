-- Pairs of key and value.
use Rattle.std.specs.Prelude.{ℕ, List, [], ◌∷◌, map}
use Rattle.graph_model.specs.declared.properties.Value.{Value}
use Rattle.time_history.specs.declared.updates.KeyValue.{KeyValue}
use Rattle.time_history.specs.declared.updates.Form.{Form}
use Rattle.time_history.specs.declared.updates.Form.TheVariants.{Nothing, One, Many}

abbrev pub pairs_of : List KeyValue → List (ℕ × Value)
pairs_of xs = map (λ (p : KeyValue). (p.key, p.value)) xs

-- the pairs, of which one lies apart from the others
abbrev pub pairs_in : Form → List (ℕ × Value)
pairs_in Nothing = []
pairs_in (One p) = (p.key, p.value) ∷ []
pairs_in (Many items) = pairs_of items.items
