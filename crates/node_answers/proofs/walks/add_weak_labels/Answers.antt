use Rattle.std.proofs.Common.{◌∙◌, ap, length, map, sym}
use Rattle.std.proofs.lemmas.List.{length-map}
use Rattle.graph_model.specs.declared.queries.Ask.TheVariants.{Weak}
use Rattle.graph_store.specs.Contents.{Contents}
use Rattle.walk_algorithms.specs.WalkRows.{part_row_of}
use Rattle.answer_parts.proofs.Plainly.{answer_added}
use Rattle.node_answers.proofs.walks.add_weak_labels.Goals as goal

pub returns : goal.returns
returns g c =
    let contents = g.V.View.contents c.args.view.now in
    let w = g.V.View.world c.args.view.now in
    let rows = c.as_slice.result.now in
    answer_added c.add_rows.result w (Weak) c.bounds.result (length rows) (map (part_row_of c.store.result.now) rows) (map (part_row_of contents) c.in_ok-rows.rows) c.args.out.now c.add_rows.new.out c.bounds.ensures
    (sym (length-map rows (part_row_of c.store.result.now))) (ap (λ (s : Contents). map (part_row_of s) rows) c.store.ensures ∙ ap (map (part_row_of contents)) c.as_slice.ensures) c.in_ok-rows.ensures.rows c.add_rows.ensures
