-- Values by the numbers of their keys.
use Rattle.std.specs.Prelude.{ℕ, List, [], ◌∷◌, ◌<◌, ⊤, Option, ◌==◌}
use Rattle.std.specs.List.{AllByRecursion, find}
use Rattle.std.specs.Option.{option_map}
use Rattle.graph_model.specs.declared.properties.Value.{Value}

-- each key is less than those after it
abbrev pub KeyNumbersRise : List (ℕ × Value) → Type 0
KeyNumbersRise [] = ⊤
KeyNumbersRise (p ∷ ps) = AllByRecursion (λ (q : ℕ × Value). p.0 < q.0) ps × KeyNumbersRise ps

-- the value of a key
abbrev pub value_at_key : ℕ → List (ℕ × Value) → Option Value
value_at_key key ps = option_map (λ (p : ℕ × Value). p.1) (find (λ (p : ℕ × Value). p.0 == key) ps)
