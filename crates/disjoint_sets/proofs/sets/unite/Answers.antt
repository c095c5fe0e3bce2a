use Rattle.disjoint_sets.proofs.Forest.{joined_left, joined_right}
use Rattle.disjoint_sets.proofs.sets.unite.Goals as goal

pub returns-then-a-b-clause-joined : goal.returns-then-a-b-clause-joined
returns-then-a-b-clause-joined c = (joined_left c.args.parents.now.items c.args.a c.args.b c.requires.parents c.requires.a c.requires.b c.if-a-b.true).1

pub returns-else-a-b-clause-joined : goal.returns-else-a-b-clause-joined
returns-else-a-b-clause-joined c = (joined_right c.args.parents.now.items c.args.a c.args.b c.requires.parents c.requires.a c.requires.b c.if-a-b.false).1
