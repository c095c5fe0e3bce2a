-- The nodes that a walk reaches, without its start.
use Rattle.std.specs.Prelude.{ℕ, List, Bool, not, nat_eq}
use Rattle.std.specs.List.{filter}
use Rattle.graph_model.specs.Answer.{Row, NodeRow}
use Rattle.node_visits.specs.declared.visited.Visit.{Visit}
use Rattle.walk_laws.specs.Numbers.{name_of}

-- whether a visit is of another node than the start
abbrev pub is_other : ℕ → Visit → Bool
is_other start v = not (nat_eq v.node start)

-- the visits of other nodes
abbrev pub others : ℕ → List Visit → List Visit
others start visits = filter (is_other start) visits

-- the row of the name of a visited node
abbrev pub reached_row : List (List ℕ) → Visit → Row
reached_row nodes v = NodeRow (name_of nodes v.node)
