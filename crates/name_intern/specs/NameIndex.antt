-- What a contract sees of a table of names.
use Rattle.std.specs.Prelude.{ℕ, List, Option}
use Rattle.std.specs.List.{position}
use Rattle.graph_model.specs.Names.{same_name}

-- how many names the table holds at most, its distinct names in the order of their first sight, and how many more fit with no memory
pub record NameIndex : Type 0 where
  pub limit : ℕ
  pub names : List (List ℕ)
  pub spare : ℕ

-- the place of a name among names
abbrev pub place_of : List ℕ → List (List ℕ) → Option ℕ
place_of name names = position (same_name name) names
