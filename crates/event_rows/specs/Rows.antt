-- Rows that are read back as they were written.
use Rattle.std.specs.Prelude.{ℕ, List, [], ◌∷◌, Bool, true, false, not, ◌==◌}

-- whether a row has a field
abbrev pub has_field : List (List ℕ) → Bool
has_field [] = false
has_field (field ∷ fields) = true

-- whether a row's first field begins with a byte that begins no byte order mark
abbrev pub begins_plainly : List (List ℕ) → Bool
begins_plainly [] = false
begins_plainly ([] ∷ fields) = false
begins_plainly ((b ∷ field) ∷ fields) = not (b == 239)
