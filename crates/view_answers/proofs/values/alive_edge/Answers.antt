use Rattle.std.proofs.Common.{◌≡◌, ◌∙◌, Some, None, ap, sym, to_z, of_z, w64}
use Rattle.std.proofs.lemmas.Int.{to_z-of_z}
use Rattle.graph_model.specs.Presence.{alive_at}
use Rattle.std.specs.Prelude.{position}
use Rattle.graph_model.specs.declared.events.Entity.TheVariants.{Edge}
use Rattle.graph_model.specs.Entity.{same_entity}
use Rattle.graph_store.specs.Contents.{Contents, edge_entities}
use Rattle.view_answers.proofs.Unknown.{alive_named, edge_numbered, never_alive, no_edge}
use Rattle.view_answers.proofs.values.alive_edge.Goals as goal

pub returns-in-None-clause-alive : goal.returns-in-None-clause-alive
returns-in-None-clause-alive g c =
    let contents = g.V.View.contents c.args.view.now in
    let world = g.V.View.world c.args.view.now in
    let place : position (same_entity (Edge c.args.edge.now)) (edge_entities contents.nodes contents.layers contents.edges) ≡ None =
    ap (λ (s : Contents). position (same_entity (Edge c.args.edge.now)) (edge_entities s.nodes s.layers s.edges)) (sym c.store.ensures) ∙ sym c.in-None.ensures.place in
    never_alive world c.args.edge.now _ (no_edge contents world c.args.edge.now (g.met.V.View.shown c.args.view.now) place)

pub returns-in-Some-clause-alive : goal.returns-in-Some-clause-alive
returns-in-Some-clause-alive g c =
    let contents = g.V.View.contents c.args.view.now in
    let world = g.V.View.world c.args.view.now in
    let place : position (same_entity (Edge c.args.edge.now)) (edge_entities contents.nodes contents.layers contents.edges) ≡ Some c.in-Some.e.0 =
    ap (λ (s : Contents). position (same_entity (Edge c.args.edge.now)) (edge_entities s.nodes s.layers s.edges)) (sym c.store.ensures) ∙ sym c.in-Some.ensures.place in
    c.edge_alive.ensures.alive ∙ (alive_named contents world c.args.edge.now c.in-Some.e.0 (to_z w64 (of_z w64 c.args.m)) (edge_numbered contents c.args.edge.now c.in-Some.e.0 place).1 ∙ ap (alive_at world c.args.edge.now) (to_z-of_z w64 c.args.m c.ranges.m))
