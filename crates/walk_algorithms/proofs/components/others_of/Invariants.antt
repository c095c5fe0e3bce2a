use Rattle.std.proofs.Common.{◌≡◌, map, take}
use Rattle.node_visits.specs.Visits.{nodes_of}
use Rattle.walk_laws.specs.Components.{others}
use Rattle.walk_algorithms.specs.Visits.{visit_of}
use Rattle.walk_algorithms.proofs.components.others_of.Given as goal

abbrev pub invariant-loop-x : goal.invariant-loop-x
invariant-loop-x l = record { nodes : l.nodes.items ≡ nodes_of (others l.start.0 (map visit_of (take l.x-index l.named))) }
