-- Places in a list.
use Rattle.std.specs.Prelude.{ℕ, suc, List, [], ◌∷◌, Bool, if◌then◌else◌}

-- the places of the items that pass a test, rising, where the first item of the list has this place
abbrev pub places_from : {X : Type 0} → ℕ → (X → Bool) → List X → List ℕ
places_from i test [] = []
places_from i test (x ∷ xs) = if test x then (i ∷ places_from (suc i) test xs) else places_from (suc i) test xs

-- the places of the items that pass a test, rising
abbrev pub places : {X : Type 0} → (X → Bool) → List X → List ℕ
places test xs = places_from 0 test xs
