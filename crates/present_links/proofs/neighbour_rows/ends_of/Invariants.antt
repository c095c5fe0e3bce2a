use Rattle.std.proofs.Common.{◌≡◌, map, take}
use Rattle.present_links.proofs.neighbour_rows.ends_of.Given as goal

abbrev pub invariant-loop-way : goal.invariant-loop-way
invariant-loop-way l = record { ends : l.ends.items ≡ map (λ way. way.dst) (take l.way-index l.ways) }
