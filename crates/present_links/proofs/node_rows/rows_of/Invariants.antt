use Rattle.std.proofs.Common.{◌≡◌, map, take}
use Rattle.present_links.proofs.node_rows.rows_of.Given as goal

abbrev pub invariant-loop-x : goal.invariant-loop-x
invariant-loop-x l = record { nodes : l.nodes.items ≡ map (λ x. x.node) (take l.x-index l.named) }
