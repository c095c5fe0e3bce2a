-- The rows of types.
use Rattle.graph_model.specs.Answer.{Row, TypeRow}
use Rattle.view_lists.specs.declared.types.TypedNode.{TypedNode}

-- the row of a node's type
abbrev pub type_row : TypedNode → Row
type_row t = TypeRow t.node.now t.kind.now
