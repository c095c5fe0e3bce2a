-- Values by the numbers of their keys, as they lie in memory.
use Rattle.std.specs.Prelude.{ℕ, List, [], ◌∷◌, map, nat_lt, if◌then◌else◌}
use Rattle.graph_model.specs.declared.properties.Value.{Value}
use Rattle.graph_store.specs.declared.numbered.Numbered.{Numbered}

abbrev pub pairs_in : List Numbered → List (ℕ × Value)
pairs_in xs = map (λ (x : Numbered). (x.key, x.value)) xs

-- a value, put before the first of a greater key
abbrev pub put_number : ℕ × Value → List (ℕ × Value) → List (ℕ × Value)
put_number p [] = p ∷ []
put_number p (q ∷ qs) = if nat_lt p.0 q.0 then (p ∷ q ∷ qs) else (q ∷ put_number p qs)
