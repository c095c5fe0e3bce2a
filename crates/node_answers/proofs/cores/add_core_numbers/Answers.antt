use Rattle.std.proofs.Common.{◌∙◌, ap, length, map, sym}
use Rattle.std.proofs.lemmas.List.{length-map}
use Rattle.graph_model.specs.declared.queries.Ask.TheVariants.{CoreNumbers}
use Rattle.graph_store.specs.Contents.{Contents}
use Rattle.core_algorithm.specs.Cores.{core_row_of}
use Rattle.answer_parts.proofs.Plainly.{answer_added}
use Rattle.node_answers.proofs.cores.add_core_numbers.Goals as goal

pub returns : goal.returns
returns g c =
    let contents = g.V.View.contents c.args.view.now in
    let w = g.V.View.world c.args.view.now in
    let rows = c.as_slice.result.now in
    answer_added c.add_rows.result w (CoreNumbers) c.bounds.result (length rows) (map (core_row_of c.store.result.now) rows) (map (core_row_of contents) c.in_ok-rows.rows) c.args.out.now c.add_rows.new.out c.bounds.ensures
    (sym (length-map rows (core_row_of c.store.result.now))) (ap (λ (s : Contents). map (core_row_of s) rows) c.store.ensures ∙ ap (map (core_row_of contents)) c.as_slice.ensures) c.in_ok-rows.ensures.answer c.add_rows.ensures
