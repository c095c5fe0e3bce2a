use Rattle.std.proofs.Common.{◌∙◌, ap, sym}
use Rattle.node_visits.specs.Visits.{all_visited}
use Rattle.walk_algorithms.proofs.Led.{neighbours_led}
use Rattle.walk_algorithms.proofs.walk.visit_asked.Goals as goal

pub returns-clause-visits : goal.returns-clause-visits
returns-clause-visits g c =
    let contents = g.V.View.contents c.args.view.now in
    let world = g.V.View.world c.args.view.now in
    let all = c.neighbours-left.result in (
      all,
      neighbours_led contents world (g.met.V.View.shown c.args.view.now) c.args.direction c.args.node.0 all c.neighbours-left.ensures,
      sym (c.loop-neighbour.invariant.visits ∙ ap (λ ns. all_visited c.args.mark ns c.loop-neighbour.visited.visits) c.in_default.ensures.0),
    )
