-- What a store contains with a type more.
use Rattle.std.specs.Prelude.{ℕ, List}
use Rattle.indexmap.specs.IndexSet.{insert_key}
use Rattle.graph_model.specs.Names.{same_name}
use Rattle.graph_model.specs.World.{put_type}
use Rattle.graph_store.specs.Contents.{Contents}

-- the contents with the type of a node: a new node and a new name of a type get the next numbers
abbrev pub with_type : Contents → List ℕ → List ℕ → Contents
with_type c node kind = record c {
  types = put_type (node, kind) c.types;
  nodes = insert_key same_name c.nodes node;
  kinds = insert_key same_name c.kinds kind;
}
