-- Edges by the names of their parts.
use Rattle.std.specs.Prelude.{List, map}
use Rattle.graph_model.specs.declared.events.EdgeName.{EdgeName}
use Rattle.graph_store.specs.Contents.{Contents, edge_name}
use Rattle.view_answers.specs.declared.edges.NamedEdge.{NamedEdge}

-- the name of an edge
abbrev pub edge_told : NamedEdge → EdgeName
edge_told e = record { src = e.src.now; dst = e.dst.now; layer = e.layer.now }

-- the names of all edges of a store, in the order of their numbers
abbrev pub edge_names : Contents → List EdgeName
edge_names c = map (edge_name c.nodes c.layers) c.edges
