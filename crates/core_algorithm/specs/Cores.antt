-- Core numbers of nodes by their numbers.
use Rattle.std.specs.Prelude.{ℕ, List, ◌≡◌, ◌<◌, ◌⊎◌, false, length, slice_index_or}
use Rattle.graph_model.specs.Answer.{Row, NumberRow}
use Rattle.graph_store.specs.Contents.{Contents, name_at}
use Rattle.view_trait.specs.Numbered.{is_listed}
use Rattle.present_links.specs.Adjacent.{AdjacentNodes, number_at}
use Rattle.core_algorithm.specs.declared.core_rows.Core.{Core}

-- the name of a node with a core number
abbrev pub core_name : Contents → Core → List ℕ
core_name c core = name_at c.nodes core.node.0

-- the row of its name and the number
abbrev pub core_row_of : Contents → Core → Row
core_row_of c core = NumberRow (core_name c core) core.number

-- a node's number is the one by its place, and 0 where it has no place
abbrev pub IsNumberIn : AdjacentNodes → List ℕ → ℕ → ℕ → Type 0
IsNumberIn adjacent numbers n number =
    ((v : ℕ) × (v < length adjacent.nodes) × (number_at adjacent.nodes v ≡ n)
    × (number ≡ slice_index_or numbers v 0))
    ⊎ ((is_listed adjacent.nodes n ≡ false) × (number ≡ 0))
