use Rattle.core_algorithm.proofs.Finding.{least_is, least_of, all_done, one_less}
use Rattle.core_algorithm.proofs.peeling.Peeling.peel_all.Goals as goal

pub peel-requires-clause-here : goal.peel-requires-clause-here
peel-requires-clause-here c = (least_is c.loop-node.self.buckets c.loop-node.self.left.items c.loop-node.self.degrees.items c.in-Some.node c.in-Some.degree c.loop-node.invariant.shelved c.in-Some.ensures.first).0

pub peel-requires-clause-degree : goal.peel-requires-clause-degree
peel-requires-clause-degree c = (least_is c.loop-node.self.buckets c.loop-node.self.left.items c.loop-node.self.degrees.items c.in-Some.node c.in-Some.degree c.loop-node.invariant.shelved c.in-Some.ensures.first).1

pub peel-requires-clause-least : goal.peel-requires-clause-least
peel-requires-clause-least c = least_of c.loop-node.self.buckets c.loop-node.self.left.items c.loop-node.self.degrees.items c.in-Some.degree c.loop-node.invariant.shelved c.in-Some.ensures.lower

pub loop-node-smaller : goal.loop-node-smaller
loop-node-smaller c =
    one_less c.loop-node.self.left.items c.peel.new.self.left.items c.in-Some.node
    (least_is c.loop-node.self.buckets c.loop-node.self.left.items c.loop-node.self.degrees.items c.in-Some.node c.in-Some.degree c.loop-node.invariant.shelved c.in-Some.ensures.first).0
    c.peel.ensures.left

pub returns-clause-numbers : goal.returns-clause-numbers
returns-clause-numbers c =
    λ v lt. all_done c.args.adjacent.now.rows c.loop-node.self.buckets c.loop-node.self.left.items c.loop-node.self.degrees.items c.loop-node.self.level c.loop-node.self.numbers.items c.loop-node.invariant c.in_default.ensures.none v lt
