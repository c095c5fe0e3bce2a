use Rattle.std.proofs.Common.{◌≡◌, ◌∙◌, ◌++◌, Some, None, ap, map, sym, subst}
use Rattle.std.specs.Prelude.{OnOk, position}
use Rattle.graph_model.specs.declared.events.Entity.TheVariants.{Node}
use Rattle.graph_model.specs.RowText.{rows_text}
use Rattle.graph_model.specs.World.{events_of}
use Rattle.std.specs.Prelude.{codes}
use Rattle.graph_model.specs.Names.{same_name}
use Rattle.graph_store.specs.Contents.{Contents}
use Rattle.graph_model.specs.Answer.{history_rows}
use Rattle.view_lists.specs.Moments.{moment_of_event}
use Rattle.view_answers.proofs.Happenings.{node_part, none_part}
use Rattle.view_answers.proofs.Unknown.{no_node, node_named}
use Rattle.view_answers.proofs.histories.add_node_history.Goals as goal

pub returns-in_ok-moments-in-Some : goal.returns-in_ok-moments-in-Some
returns-in_ok-moments-in-Some g c =
    let contents = g.V.View.contents c.args.view.now in
    let world = g.V.View.world c.args.view.now in
    let place : position (same_name c.args.node.now) contents.nodes ≡ Some c.in-Some.n.0 = ap (λ (s : Contents). position (same_name c.args.node.now) s.nodes) (sym c.store.ensures) ∙ sym c.in-Some.ensures.place in
    let moments : c.in_ok-moments-in-Some.moments ≡ map moment_of_event (events_of world (Node c.args.node.now)) = c.in_ok-moments-in-Some.ensures ∙ ap (λ x. map moment_of_event (events_of world x)) (node_named contents c.args.node.now c.in-Some.n.0 place).1 in
    subst (λ rows. OnOk c.add_moments.result (c.add_moments.new.out ≡ c.args.out.now ++ rows_text rows)) (node_part world c.bounds.result c.in_ok-moments-in-Some.moments c.args.node.now c.bounds.ensures moments) c.add_moments.ensures

pub returns-in-None : goal.returns-in-None
returns-in-None g c =
    let contents = g.V.View.contents c.args.view.now in
    let world = g.V.View.world c.args.view.now in
    let place : position (same_name c.args.node.now) contents.nodes ≡ None = ap (λ (s : Contents). position (same_name c.args.node.now) s.nodes) (sym c.store.ensures) ∙ sym c.in-None.ensures.place in
    let none = ap (history_rows (λ x. codes "node") 0) (no_node contents world c.args.node.now (g.met.V.View.shown c.args.view.now) place) in
    subst (λ text. OnOk c.add_world.result (c.add_world.new.out ≡ c.args.out.now ++ text)) (none_part world c.bounds-in-None.result (history_rows (λ x. codes "node") 0 (events_of world (Node c.args.node.now))) c.bounds-in-None.ensures none) c.add_world.ensures
