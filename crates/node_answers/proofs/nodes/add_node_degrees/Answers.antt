use Rattle.std.proofs.Common.{◌∙◌, ap, length, map, sym}
use Rattle.std.proofs.lemmas.List.{length-map}
use Rattle.graph_model.specs.Answer.{degree_row}
use Rattle.graph_model.specs.Presence.{nodes}
use Rattle.graph_store.specs.Contents.{Contents}
use Rattle.walk_algorithms.specs.Degrees.{degree_row_of}
use Rattle.answer_parts.proofs.Written.{part_of}
use Rattle.node_answers.proofs.nodes.add_node_degrees.Goals as goal

pub returns-clause-rows : goal.returns-clause-rows
returns-clause-rows g c =
    let world = g.V.View.world c.args.view.now in
    let rows = c.as_slice.result.now in
    let f = degree_row_of c.store.result.now in
    let same = ap (λ (s : Contents). map (degree_row_of s) rows) c.store.ensures ∙ (ap (map (degree_row_of (g.V.View.contents c.args.view.now))) c.as_slice.ensures ∙ c.in_ok-rows.ensures.rows) in
    part_of c.add_rows.result world c.bounds.result (length rows) (map f rows) (map (degree_row world) (nodes world)) c.args.out.now c.add_rows.new.out c.bounds.ensures (sym (length-map rows f)) same c.add_rows.ensures
