use Rattle.std.proofs.Common.{ap, length, map, sym}
use Rattle.std.proofs.lemmas.List.{length-map}
use Rattle.graph_model.specs.declared.queries.Ask.TheVariants.{Core as CoreOf}
use Rattle.graph_store.specs.Contents.{Contents}
use Rattle.present_links.specs.NodeNames.{node_row_of}
use Rattle.answer_parts.proofs.Plainly.{answer_added}
use Rattle.node_answers.proofs.cores.add_core.Goals as goal

pub returns : goal.returns
returns g c =
    let contents = g.V.View.contents c.args.view.now in
    let w = g.V.View.world c.args.view.now in
    let rows = c.in_ok-rows.rows in
    answer_added c.add_names.result w (CoreOf c.args.k) c.bounds.result (length rows) (map (node_row_of c.store.result.now) rows) (map (node_row_of contents) c.in_ok-rows.rows) c.args.out.now c.add_names.new.out c.bounds.ensures
    (sym (length-map rows (node_row_of c.store.result.now))) (ap (λ (s : Contents). map (node_row_of s) rows) c.store.ensures) c.in_ok-rows.ensures.answer c.add_names.ensures
