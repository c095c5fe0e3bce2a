use Rattle.std.proofs.Common.{◌≡◌, ◌∙◌, ap, length, map, subst, sym}
use Rattle.std.specs.Prelude.{None, Some, position}
use Rattle.std.proofs.lemmas.List.{length-map}
use Rattle.graph_model.specs.Answer.{IsAnswer}
use Rattle.graph_model.specs.Names.{same_name}
use Rattle.graph_model.specs.declared.queries.Ask.TheVariants.{OutComponent}
use Rattle.graph_store.specs.Contents.{Contents}
use Rattle.present_links.specs.NodeNames.{node_row_of}
use Rattle.answer_parts.proofs.Plainly.{answer_added, nothing_added}
use Rattle.node_answers.proofs.UnknownNode.{named_at, unknown_absent}
use Rattle.walk_laws.proofs.Components.{no_out}
use Rattle.node_answers.proofs.walks.add_out_component.Goals as goal

pub returns-in_ok-rows-in-Some : goal.returns-in_ok-rows-in-Some
returns-in_ok-rows-in-Some g c =
    let contents = g.V.View.contents c.args.view.now in
    let w = g.V.View.world c.args.view.now in
    let name = c.args.node.now in
    let n = c.in-Some.n.0 in
    let place : position (same_name name) contents.nodes ≡ Some n = ap (λ (s : Contents). position (same_name name) s.nodes) (sym c.store.ensures) ∙ sym c.in-Some.ensures.place in
    let rows = c.in_ok-rows-in-Some.rows in
    let answer : IsAnswer w (OutComponent name) (map (node_row_of contents) c.in_ok-rows-in-Some.rows) = subst (λ x. IsAnswer w (OutComponent x) (map (node_row_of contents) c.in_ok-rows-in-Some.rows)) (sym (named_at contents name n place)) c.in_ok-rows-in-Some.ensures.rows in
    answer_added c.add_names.result w (OutComponent name) c.bounds.result (length rows) (map (node_row_of c.store-in-Some.result.now) rows) (map (node_row_of contents) c.in_ok-rows-in-Some.rows) c.args.out.now c.add_names.new.out c.bounds.ensures
    (sym (length-map rows (node_row_of c.store-in-Some.result.now))) (ap (λ (s : Contents). map (node_row_of s) rows) c.store-in-Some.ensures) answer c.add_names.ensures

pub returns-in-None : goal.returns-in-None
returns-in-None g c =
    let contents = g.V.View.contents c.args.view.now in
    let w = g.V.View.world c.args.view.now in
    let name = c.args.node.now in
    let place : position (same_name name) contents.nodes ≡ None = ap (λ (s : Contents). position (same_name name) s.nodes) (sym c.store.ensures) ∙ sym c.in-None.ensures.place in
    let absent = unknown_absent contents w (g.met.V.View.shown c.args.view.now) name place in
    nothing_added c.add_world.result w (OutComponent name) c.bounds-in-None.result c.args.out.now c.add_world.new.out c.bounds-in-None.ensures (no_out w name absent) c.add_world.ensures
