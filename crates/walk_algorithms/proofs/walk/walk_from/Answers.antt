use Rattle.std.proofs.Common.{◌∙◌, ◌<◌, ◌≤◌, length, arith}
use Rattle.walk_algorithms.proofs.Walked.{settle, settled}
use Rattle.walk_algorithms.proofs.walk.walk_from.Goals as goal

pub loop-next-preserved : goal.loop-next-preserved
loop-next-preserved g c =
    let contents = g.V.View.contents c.args.view.now in
    let world = g.V.View.world c.args.view.now in
    let before = c.loop-next.visited.visits in
    let lt : c.loop-next.next < length before = (let test = c.loop-next-test.true in let len = c.len.ensures.len in omega arith) in
    record {
      limit = c.visit_neighbours.ensures.limit ∙ c.loop-next.invariant.limit;
      walking = settle contents world c.args.direction (g.met.V.View.shown c.args.view.now) c.args.start.0 c.loop-next.next before c.visit_neighbours.new.visited.visits c.item-node.result c.item-node.ensures lt c.loop-next.invariant.walking c.in_ok-visit_neighbours.ensures.visits;
    }

pub returns-clause-distances : goal.returns-clause-distances
returns-clause-distances g c =
    let contents = g.V.View.contents c.args.view.now in
    let world = g.V.View.world c.args.view.now in
    let past : length c.loop-next.visited.visits ≤ c.loop-next.next = (let test = c.loop-next-test.false in let len = c.len.ensures.len in omega arith) in
    settled contents world c.args.direction (g.met.V.View.shown c.args.view.now) c.args.start.0 c.loop-next.next c.loop-next.visited.limit c.loop-next.visited.visits c.loop-next.invariant.limit c.len.ensures.visits past c.loop-next.invariant.walking
