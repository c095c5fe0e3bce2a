use Rattle.std.proofs.Common.{◌≡◌, map}
use Rattle.std.specs.List.{range_with_len}
use Rattle.walk_algorithms.specs.Parts.{part_at}
use Rattle.walk_algorithms.proofs.labels.parts_of.Given as goal

abbrev pub invariant-loop-i : goal.invariant-loop-i
invariant-loop-i l = record {
  same : l.sets ≡ l.fn.sets;
  rows : l.rows.items ≡ map (part_at l.fn.nodes l.fn.sets) (range_with_len 0 l.i);
}
