-- Rows of the names of nodes, by their numbers.
use Rattle.std.specs.Prelude.{ℕ}
use Rattle.graph_model.specs.Answer.{Row, NodeRow}
use Rattle.graph_store.specs.Contents.{Contents, name_at}

-- the row of a node's name
abbrev pub node_row_of : Contents → ℕ → Row
node_row_of c n = NodeRow (name_at c.nodes n)
