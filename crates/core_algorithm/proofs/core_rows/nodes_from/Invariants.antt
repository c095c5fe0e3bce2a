use Rattle.std.proofs.Common.{◌≡◌, map, take}
use Rattle.std.specs.Prelude.{nat_le}
use Rattle.std.specs.List.{filter}
use Rattle.core_algorithm.proofs.core_rows.nodes_from.Given as goal

abbrev pub invariant-loop-i : goal.invariant-loop-i
invariant-loop-i l = record { nodes : l.nodes.items ≡ map (λ core. core.node.0) (filter (λ core. nat_le l.k core.number) (take l.i l.cores)) }
