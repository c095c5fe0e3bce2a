use Rattle.std.proofs.Common.{◌∙◌, ap, map, subst}
use Rattle.std.proofs.lemmas.Result.{IfOk-weaker}
use Rattle.graph_store.specs.Contents.{Contents}
use Rattle.node_visits.specs.Visits.{nodes_of}
use Rattle.walk_laws.specs.Components.{others}
use Rattle.walk_laws.specs.Numbers.{NamesRise}
use Rattle.walk_laws.proofs.HopFacts.{distances_moved}
use Rattle.walk_algorithms.specs.Visits.{visit_of}
use Rattle.walk_algorithms.proofs.components.component.Goals as goal

pub returns : goal.returns
returns g c =
    let s = g.V.View.contents c.args.view.now in
    let w = g.V.View.world c.args.view.now in
    let start = c.args.start.0 in
    let sorted = map visit_of c.in_ok-named.named.items in
    let rise = subst (λ (v : Contents). NamesRise v.nodes sorted) c.store.ensures c.in_ok-named.ensures.rise in
    let moved = distances_moved w s.nodes c.args.direction start c.in_ok-visited.visited.visits sorted c.in_ok-named.ensures.visits c.in_ok-visited.ensures.distances in
    IfOk-weaker c.others_of.result _ _ (λ nodes e. (sorted, moved, rise, e ∙ ap (λ named. nodes_of (others start (map visit_of named))) c.as_slice.ensures.value)) c.others_of.ensures
