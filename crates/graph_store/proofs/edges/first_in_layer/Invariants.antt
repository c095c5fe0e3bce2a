use Rattle.std.proofs.Common.{◌≡◌, ◌<◌, length}
use Rattle.std.specs.List.{AllByRecursion, find}
use Rattle.graph_store.specs.EdgeParts.{is_in}
use Rattle.graph_store.proofs.edges.first_in_layer.Given as goal

abbrev pub invariant-loop-edge : goal.invariant-loop-edge
invariant-loop-edge l = record { within : AllByRecursion (λ e. e < length l.layers) l.edges; same : find (is_in l.layers l.layer) l.edges ≡ find (is_in l.layers l.layer) l.fn.edges }

abbrev pub decreases-loop-edge : goal.decreases-loop-edge
decreases-loop-edge l = length l.edges
