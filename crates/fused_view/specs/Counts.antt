-- Numbers of searches, counted up to the greatest that a word holds.
use Rattle.std.specs.Prelude.{ℕ, ◌-◌, ◌^◌, min}
use Rattle.graph_model.specs.Searches.{Searches}
use Rattle.fused_view.specs.declared.counts.SearchCounts.{SearchCounts}

-- the greatest number that is counted
abbrev pub most : ℕ
most = 2 ^ 64 - 1

-- searches as they are counted
abbrev pub counted : Searches → SearchCounts
counted s = record { nodes = min s.nodes most; edges = min s.edges most }
