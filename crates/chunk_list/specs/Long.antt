-- Keys with the places of what stands beside them.
use Rattle.std.specs.Prelude.{ℕ, List, [], ◌∷◌, ◌<◌, map, slice_index_or}
use Rattle.std.specs.List.{All}

-- each key with what stands at its place
abbrev pub looked_up : {K V : Type 0} → List V → List (K × ℕ) → List (K × V)
looked_up [] ps = []
looked_up (v ∷ vs) ps = map (λ p. (p.0, slice_index_or (v ∷ vs) p.1 v)) ps

-- each place is less than a number
abbrev pub AreBelow : {K : Type 0} → ℕ → List (K × ℕ) → Type 0
AreBelow n ps = All (λ p. p.1 < n) ps
