-- Texts that lie in the value itself where they are short.
use Rattle.std.specs.Prelude.{ℕ, ◌≤◌, List, take, IsUtf8}
use Rattle.std.specs.String.{string_bytes}
use Rattle.graph_model.specs.declared.short_text.Place.{Place}
use Rattle.graph_model.specs.declared.short_text.Place.TheVariants.{Here, There}

-- the bytes of the text that lies there
abbrev pub bytes_at : Place → List ℕ
bytes_at (Here len bytes) = take len bytes
bytes_at (There text) = string_bytes text.value

-- what lies in the value itself is at most 22 bytes, and text
abbrev pub IsTextAt : Place → Type 0
IsTextAt (Here len bytes) = (len ≤ 22) × IsUtf8 (take len bytes)
IsTextAt (There text) = Unit {0}
