-- What stands beside keys.
use Rattle.std.specs.Prelude.{List, map}

-- what stands beside the keys of items, in their order
abbrev pub besides_of : {K V : Type 0} → List (K × V) → List V
besides_of items = map (λ p. p.1) items
