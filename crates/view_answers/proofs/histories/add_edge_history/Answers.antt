use Rattle.std.proofs.Common.{◌≡◌, ◌∙◌, ◌++◌, Some, None, ap, map, sym, subst}
use Rattle.std.specs.Prelude.{OnOk, position}
use Rattle.graph_model.specs.declared.events.Entity.TheVariants.{Edge}
use Rattle.graph_model.specs.RowText.{rows_text}
use Rattle.graph_model.specs.World.{events_of}
use Rattle.graph_model.specs.Entity.{same_entity}
use Rattle.graph_store.specs.Contents.{Contents, edge_entities}
use Rattle.graph_model.specs.Answer.{edge_kind, history_rows}
use Rattle.view_lists.specs.Moments.{moment_of_event}
use Rattle.view_answers.proofs.Happenings.{edge_part, none_part}
use Rattle.view_answers.proofs.Unknown.{no_edge, edge_numbered}
use Rattle.view_answers.proofs.histories.add_edge_history.Goals as goal

pub returns-in_ok-moments-in-Some : goal.returns-in_ok-moments-in-Some
returns-in_ok-moments-in-Some g c =
    let contents = g.V.View.contents c.args.view.now in
    let world = g.V.View.world c.args.view.now in
    let place : position (same_entity (Edge c.args.edge.now)) (edge_entities contents.nodes contents.layers contents.edges) ≡ Some c.in-Some.e.0 = ap (λ (s : Contents). position (same_entity (Edge c.args.edge.now)) (edge_entities s.nodes s.layers s.edges)) (sym c.store.ensures) ∙ sym c.in-Some.ensures.place in
    let moments : c.in_ok-moments-in-Some.moments ≡ map moment_of_event (events_of world (Edge c.args.edge.now)) = c.in_ok-moments-in-Some.ensures ∙ ap (λ x. map moment_of_event (events_of world x)) (edge_numbered contents c.args.edge.now c.in-Some.e.0 place).1 in
    subst (λ rows. OnOk c.add_moments.result (c.add_moments.new.out ≡ c.args.out.now ++ rows_text rows)) (edge_part world c.bounds.result c.in_ok-moments-in-Some.moments c.args.edge.now c.bounds.ensures moments) c.add_moments.ensures

pub returns-in-None : goal.returns-in-None
returns-in-None g c =
    let contents = g.V.View.contents c.args.view.now in
    let world = g.V.View.world c.args.view.now in
    let place : position (same_entity (Edge c.args.edge.now)) (edge_entities contents.nodes contents.layers contents.edges) ≡ None = ap (λ (s : Contents). position (same_entity (Edge c.args.edge.now)) (edge_entities s.nodes s.layers s.edges)) (sym c.store.ensures) ∙ sym c.in-None.ensures.place in
    let none = ap (history_rows edge_kind 0) (no_edge contents world c.args.edge.now (g.met.V.View.shown c.args.view.now) place) in
    subst (λ text. OnOk c.add_world.result (c.add_world.new.out ≡ c.args.out.now ++ text)) (none_part world c.bounds-in-None.result (history_rows edge_kind 0 (events_of world (Edge c.args.edge.now))) c.bounds-in-None.ensures none) c.add_world.ensures
