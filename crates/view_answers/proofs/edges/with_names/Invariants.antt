use Rattle.std.proofs.Common.{◌≡◌, map, take}
use Rattle.view_trait.specs.Meaning.{edge_named}
use Rattle.view_answers.specs.Edges.{edge_told}
use Rattle.view_answers.proofs.edges.with_names.Given as goal

abbrev pub invariant-loop-e : goal.invariant-loop-e
invariant-loop-e l = map edge_told l.named.items ≡ map (edge_named l.store) (take l.e-index l.numbers)
