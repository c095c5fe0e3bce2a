use Rattle.std.proofs.Common.{◌∙◌, ap, to_z, of_z, w64}
use Rattle.std.proofs.lemmas.Int.{to_z-of_z}
use Rattle.graph_model.specs.Presence.{alive_at}
use Rattle.view_trait.specs.Meaning.{edge_at, edge_named}
use Rattle.view_trait.proofs.Found.{IsFound, edge_tells, model_found}
use Rattle.view_answers.proofs.Asked.{alive_is, one_more}
use Rattle.view_answers.proofs.point.edge_alive.Given.{Over}
use Rattle.view_answers.proofs.point.edge_alive.Goals.{After-alive_at}
use Rattle.view_answers.proofs.point.edge_alive.Goals as goal

found : (g : Over) (c : After-alive_at g) → IsFound (g.V.View.contents c.args.view.now) (g.V.View.world c.args.view.now) (edge_at (g.V.View.contents c.args.view.now) c.args.e.0) c.model.result c.bounds.result c.edge_history.result.now.updates c.edge_span-span.result
found g c =
    let contents = g.V.View.contents c.args.view.now in
    let shown = g.met.V.View.shown c.args.view.now in
    record {
      shown = shown;
      model_is = model_found c.store-store.result.now contents (g.V.View.world c.args.view.now) c.model.result c.store-store.ensures shown c.model.ensures;
      bounds_are = c.bounds.ensures;
      tells = edge_tells c.store-store.result.now contents c.args.e.0 c.edge_history.result.now.updates c.store-store.ensures c.edge_history.ensures.told c.edge_history.ensures.fits;
      shows = c.edge_span-span.ensures.shows;
    }

pub returns-clause-alive : goal.returns-clause-alive
returns-clause-alive g c =
    let contents = g.V.View.contents c.args.view.now in
    let world = g.V.View.world c.args.view.now in
    alive_is contents world c.args.e.0 c.model.result c.bounds.result c.edge_history.result.now.updates c.edge_span-span.result (to_z w64 (of_z w64 c.args.m)) c.alive_at.result (found g (goal.at.returns-clause-alive g c).After-alive_at) c.alive_at.ensures.alive
    ∙ ap (alive_at world (edge_named contents c.args.e.0)) (to_z-of_z w64 c.args.m c.ranges.m)

pub returns-clause-cost : goal.returns-clause-cost
returns-clause-cost g c =
    let contents = g.V.View.contents c.args.view.now in
    one_more contents (g.V.View.world c.args.view.now) (edge_at contents c.args.e.0) c.model.result c.bounds.result c.edge_history.result.now.updates c.edge_span-span.result c.args.steps.now c.edge_span-span.new.steps c.alive_at.new.steps (g.V.View.searches c.args.view.now).edges
    (found g (goal.at.returns-clause-cost g c).After-alive_at) c.edge_span-span.ensures.cost c.alive_at.ensures.cost
