use Rattle.core_algorithm.specs.Peeled.{IsPeeling}
use Rattle.core_algorithm.proofs.Finding.{left_count}
use Rattle.core_algorithm.proofs.peeling.Peeling.peel_all.Given as goal

abbrev pub invariant-loop-node : goal.invariant-loop-node
invariant-loop-node l = IsPeeling l.adjacent.rows l.self

-- how many nodes are left
abbrev pub decreases-loop-node : goal.decreases-loop-node
decreases-loop-node l = left_count l.self.left.items
