-- Ends of edges.
use Rattle.std.specs.Prelude.{ℕ, List, Bool, slice_index_or, ◌==◌, ◌&&◌}
use Rattle.graph_store.specs.declared.pairs.Ends.{Ends}

-- whether they have one source and one destination
abbrev pub same_ends : Ends → Ends → Bool
same_ends a b = (a.src == b.src) && (a.dst == b.dst)

-- the ends of a pair
abbrev pub ends_at : List Ends → ℕ → Ends
ends_at pairs p = slice_index_or pairs p (record { src = 0; dst = 0 })
