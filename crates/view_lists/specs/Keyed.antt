-- Keys of nodes and of edges.
use Rattle.std.specs.Prelude.{ℕ, length}
use Rattle.graph_model.specs.declared.events.Entity.{Entity}
use Rattle.graph_model.specs.declared.events.Entity.TheVariants.{Node, Edge}
use Rattle.graph_store.specs.Contents.{Contents}

-- how many keys there are of nodes, or of edges
abbrev pub key_count : Contents → Entity → ℕ
key_count c (Node name) = length c.node_keys
key_count c (Edge edge) = length c.edge_keys
