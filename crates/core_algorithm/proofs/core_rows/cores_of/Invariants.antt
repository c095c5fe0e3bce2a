use Rattle.std.proofs.Common.{◌≡◌, map, take}
use Rattle.std.specs.List.{All}
use Rattle.core_algorithm.specs.Cores.{IsNumberIn}
use Rattle.core_algorithm.proofs.core_rows.cores_of.Given as goal

abbrev pub invariant-loop-i : goal.invariant-loop-i
invariant-loop-i l = record {
  nodes : map (λ core. core.node.0) l.cores.items ≡ take l.i l.nodes;
  numbers : All (λ core. IsNumberIn l.adjacent l.numbers core.node.0 core.number) l.cores.items;
}
