use Rattle.std.proofs.Common.{◌≡◌, map, take}
use Rattle.walk_algorithms.specs.Visits.{hop_of}
use Rattle.walk_algorithms.proofs.hop_rows.rows_of.Given as goal

abbrev pub invariant-loop-x : goal.invariant-loop-x
invariant-loop-x l = record { rows : l.rows.items ≡ map hop_of (take l.x-index l.named) }
