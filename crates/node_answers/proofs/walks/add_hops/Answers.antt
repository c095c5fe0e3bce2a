use Rattle.std.proofs.Common.{◌≡◌, ◌∙◌, ap, length, map, subst, sym}
use Rattle.std.specs.Prelude.{None, Some, position}
use Rattle.std.proofs.lemmas.List.{length-map}
use Rattle.graph_model.specs.Answer.{IsAnswer}
use Rattle.graph_model.specs.Names.{same_name}
use Rattle.graph_model.specs.declared.queries.Ask.TheVariants.{Hops}
use Rattle.graph_store.specs.Contents.{Contents}
use Rattle.walk_algorithms.specs.WalkRows.{hop_row_of}
use Rattle.answer_parts.proofs.Plainly.{answer_added, nothing_added}
use Rattle.node_answers.proofs.UnknownNode.{named_at, unknown_absent}
use Rattle.walk_laws.proofs.HopFacts.{no_hops}
use Rattle.node_answers.proofs.walks.add_hops.Goals as goal

pub returns-in_ok-rows-in-Some : goal.returns-in_ok-rows-in-Some
returns-in_ok-rows-in-Some g c =
    let contents = g.V.View.contents c.args.view.now in
    let w = g.V.View.world c.args.view.now in
    let name = c.args.node.now in
    let n = c.in-Some.n.0 in
    let place : position (same_name name) contents.nodes ≡ Some n = ap (λ (s : Contents). position (same_name name) s.nodes) (sym c.store.ensures) ∙ sym c.in-Some.ensures.place in
    let rows = c.as_slice.result.now in
    let answer : IsAnswer w (Hops name c.args.direction) (map (hop_row_of contents) c.in_ok-rows-in-Some.rows) = subst (λ x. IsAnswer w (Hops x c.args.direction) (map (hop_row_of contents) c.in_ok-rows-in-Some.rows)) (sym (named_at contents name n place)) c.in_ok-rows-in-Some.ensures.rows in
    answer_added c.add_rows.result w (Hops name c.args.direction) c.bounds.result (length rows) (map (hop_row_of c.store-in-Some.result.now) rows) (map (hop_row_of contents) c.in_ok-rows-in-Some.rows) c.args.out.now c.add_rows.new.out c.bounds.ensures
    (sym (length-map rows (hop_row_of c.store-in-Some.result.now))) (ap (λ (s : Contents). map (hop_row_of s) rows) c.store-in-Some.ensures ∙ ap (map (hop_row_of contents)) c.as_slice.ensures) answer c.add_rows.ensures

pub returns-in-None : goal.returns-in-None
returns-in-None g c =
    let contents = g.V.View.contents c.args.view.now in
    let w = g.V.View.world c.args.view.now in
    let name = c.args.node.now in
    let place : position (same_name name) contents.nodes ≡ None = ap (λ (s : Contents). position (same_name name) s.nodes) (sym c.store.ensures) ∙ sym c.in-None.ensures.place in
    let absent = unknown_absent contents w (g.met.V.View.shown c.args.view.now) name place in
    nothing_added c.add_world.result w (Hops name c.args.direction) c.bounds-in-None.result c.args.out.now c.add_world.new.out c.bounds-in-None.ensures (no_hops w c.args.direction name (sym absent)) c.add_world.ensures
