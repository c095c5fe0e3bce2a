-- Edges, by the numbers of their parts.
use Rattle.std.specs.Prelude.{ℕ, List, Bool, ◌==◌, ◌&&◌, slice_index_or}
use Rattle.graph_store.specs.declared.pairs.Ends.{Ends}
use Rattle.graph_store.specs.declared.edges.EdgeParts.{EdgeParts}

-- whether they have one source, one destination and one layer
abbrev pub same_parts : EdgeParts → EdgeParts → Bool
same_parts a b = (a.src == b.src) && ((a.dst == b.dst) && (a.layer == b.layer))

-- the pair that an edge belongs to
abbrev pub ends_of : EdgeParts → Ends
ends_of e = record { src = e.src; dst = e.dst }

-- the parts of an edge
abbrev pub parts_at : List EdgeParts → ℕ → EdgeParts
parts_at edges e = slice_index_or edges e (record { src = 0; dst = 0; layer = 0 })

-- the edge of a pair in a layer
abbrev pub parts_in_layer : Ends → ℕ → EdgeParts
parts_in_layer ends layer = record { src = ends.src; dst = ends.dst; layer = layer }

-- whether the edge of a number is in a layer, by the layers of edges
abbrev pub is_in : List ℕ → ℕ → ℕ → Bool
is_in layers layer e = layer == slice_index_or layers e 0
