use Rattle.std.proofs.Common.{ap, arith, length}
use Rattle.disjoint_sets.proofs.Forest.{length-least}
use Rattle.disjoint_sets.proofs.sets.DisjointSets.least.Goals as goal

pub find-requires-clause-number : goal.find-requires-clause-number
find-requires-clause-number c = let long = length-least c.self.inside.parents.items in let view = ap length c.self.view_is in let lt = c.requires in omega (arith, long, view, lt)
