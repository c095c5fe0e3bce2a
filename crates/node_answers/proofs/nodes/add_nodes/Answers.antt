use Rattle.std.proofs.Common.{◌∙◌, ℕ, ap, length, map, sym}
use Rattle.std.proofs.lemmas.List.{length-map}
use Rattle.std.proofs.lemmas.Simd.{map-map}
use Rattle.graph_model.specs.Answer.{Row, NodeRow}
use Rattle.graph_model.specs.Presence.{nodes}
use Rattle.graph_store.specs.Contents.{Contents, name_at}
use Rattle.answer_parts.proofs.Written.{part_of}
use Rattle.node_answers.proofs.nodes.add_nodes.Goals as goal

pub returns-clause-rows : goal.returns-clause-rows
returns-clause-rows g c =
    let world = g.V.View.world c.args.view.now in
    let contents = g.V.View.contents c.args.view.now in
    let rows = c.in_ok-nodes.nodes in
    let f : ℕ → Row = λ n. NodeRow (name_at c.store.result.now.nodes n) in
    let same = ap (λ (s : Contents). map (λ n. NodeRow (name_at s.nodes n)) rows) c.store.ensures ∙ (sym (map-map NodeRow (name_at contents.nodes) rows) ∙ ap (map NodeRow) c.in_ok-nodes.ensures.names) in
    part_of c.add_names.result world c.bounds.result (length rows) (map f rows) (map NodeRow (nodes world)) c.args.out.now c.add_names.new.out c.bounds.ensures (sym (length-map rows f)) same c.add_names.ensures
