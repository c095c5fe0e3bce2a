use Rattle.std.proofs.Common.{◌≡◌, ◌∙◌, ◌+◌, ◌++◌, ℕ, [], drop, map, subst, sym}
use Rattle.std.proofs.lemmas.Option.{get_or_from_slice_get}
use Rattle.csv.specs.Writing.{default_writer, row_text}
use Rattle.graph_model.specs.Answer.{Row, NodeRow, row_fields}
use Rattle.graph_store.specs.Contents.{name_at}
use Rattle.answer_parts.proofs.Written.{item_left, row_written}
use Rattle.node_answers.proofs.nodes.add_names.Goals as goal

pub loop-i-preserved : goal.loop-i-preserved
loop-i-preserved c =
    let names = c.args.store.now.nodes in
    let f : ℕ → Row = λ n. NodeRow (name_at names n) in
    let rows = c.args.rows.now in
    let n = c.item.result.0 in
    let i = c.loop-i.i in
    let name : c.node_name.result.now ≡ name_at names n = sym (get_or_from_slice_get names n c.node_name.result.now [] c.node_name.ensures) in
    let written : c.add_name.new.out ≡ c.loop-i.out ++ row_text default_writer (row_fields (f n)) = subst (λ t. c.add_name.new.out ≡ c.loop-i.out ++ row_text default_writer (row_fields (NodeRow t))) name c.in_ok-add_name.ensures in
    row_written (f n) (map f (drop i rows)) (map f (drop (i + 1) rows)) c.loop-i.out c.add_name.new.out (item_left f rows i n c.item.ensures) written ∙ c.loop-i.invariant
