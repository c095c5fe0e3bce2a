-- Rows of nodes by their numbers.
use Rattle.graph_model.specs.Answer.{Row, LabelRow, NumberRow}
use Rattle.graph_store.specs.Contents.{Contents, name_at}
use Rattle.walk_algorithms.specs.declared.hop_rows.Hop.{Hop}
use Rattle.walk_algorithms.specs.declared.labels.Part.{Part}

-- the row of a node's name and its distance
abbrev pub hop_row_of : Contents → Hop → Row
hop_row_of c h = NumberRow (name_at c.nodes h.node.0) h.hops

-- the row of a node's name and that of its label
abbrev pub part_row_of : Contents → Part → Row
part_row_of c p = LabelRow (name_at c.nodes p.node.0) (name_at c.nodes p.label.0)
