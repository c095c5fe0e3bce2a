-- The lines of a script, and why queries are refused.
use Rattle.std.specs.Prelude.{ℕ, Bool, ◌==◌, ◌||◌, List, [], ◌∷◌, codes, if◌then◌else◌}
use Rattle.std.specs.List.{list_all}

-- a byte more at the front of the first line
abbrev pub onto_first : ℕ → List (List ℕ) → List (List ℕ)
onto_first byte [] = (byte ∷ []) ∷ []
onto_first byte (line ∷ lines) = (byte ∷ line) ∷ lines

-- the lines of a script: it is split at each line feed, and a last piece that is empty is no line
abbrev pub lines_of : List ℕ → List (List ℕ)
lines_of [] = []
lines_of (byte ∷ bytes) =
    if byte == 10 then [] ∷ lines_of bytes else onto_first byte (lines_of bytes)

-- a space, a tab or a carriage return
abbrev pub is_space : ℕ → Bool
is_space byte = (byte == 32) || ((byte == 9) || (byte == 13))

-- a line that is skipped
abbrev pub is_blank : List ℕ → Bool
is_blank line = list_all is_space line

-- why a query is refused, in the order in which it is judged
pub data QueryRefusal : Type 0 where
  -- the line is no JSON value
  Json : QueryRefusal
  -- it is of no form
  Shape : QueryRefusal
  -- a number in it cannot stand in its place
  Number : QueryRefusal
  -- it has more than 64 views
  Depth : QueryRefusal
  -- it is asked of more than 65,536 windows
  Windows : QueryRefusal

-- the word for a cause
abbrev pub query_refusal_name : QueryRefusal → List ℕ
query_refusal_name Json = codes "json"
query_refusal_name Shape = codes "shape"
query_refusal_name Number = codes "number"
query_refusal_name Depth = codes "depth"
query_refusal_name Windows = codes "windows"
