-- A list in parts.
use Rattle.std.specs.Prelude.{ℕ, List, [], ◌∷◌, ◌++◌, ◌+◌, ◌≡◌, ◌<◌, ⊤, length, slice_index_or, Option, None, Some}

-- the parts, one after another
abbrev pub joined : {T : Type 0} → List (List T) → List T
joined [] = []
joined (p ∷ ps) = p ++ joined ps

-- the part at a place
abbrev pub part_at : {T : Type 0} → List (List T) → ℕ → List T
part_at ps i = slice_index_or ps i []

-- the first place of each part, where the first part begins at a place
abbrev pub starts : {T : Type 0} → ℕ → List (List T) → List ℕ
starts s [] = []
starts s (p ∷ ps) = s ∷ starts (s + length p) ps

-- one, where there is a part at hand
abbrev pub at_hand : {T : Type 0} → Option (List T) → ℕ
at_hand None = 0
at_hand (Some p) = 1

-- a part at hand has no item
abbrev pub IsBlank : {T : Type 0} → Option (List T) → Type 0
IsBlank None = ⊤
IsBlank (Some p) = p ≡ []

-- what is true of a list in parts
pub record IsSound {T : Type 0} (firsts : List ℕ) (parts : List (List T)) (len : ℕ) (fresh : Option (List T)) : Type 0 where
  pub begins : firsts ≡ starts 0 parts
  pub some : 0 < length parts
  pub count : len ≡ length (joined parts)
  pub blank : IsBlank fresh
