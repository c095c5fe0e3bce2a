-- Degrees of nodes by their numbers.
use Rattle.graph_model.specs.Answer.{Row, DegreeRow}
use Rattle.graph_store.specs.Contents.{Contents, name_at}
use Rattle.walk_algorithms.specs.declared.degree_rows.Degree.{Degree}

-- the row of a node's name and its three degrees
abbrev pub degree_row_of : Contents → Degree → Row
degree_row_of c d = DegreeRow (name_at c.nodes d.node.0) d.ins d.outs d.both
