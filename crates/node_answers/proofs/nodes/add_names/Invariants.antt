use Rattle.std.proofs.Common.{◌≡◌, ◌++◌, drop, map}
use Rattle.graph_model.specs.Answer.{NodeRow, row_fields}
use Rattle.graph_model.specs.RowText.{rows_text}
use Rattle.graph_store.specs.Contents.{name_at}
use Rattle.node_answers.proofs.nodes.add_names.Given as goal

abbrev pub invariant-loop-i : goal.invariant-loop-i
invariant-loop-i l = l.out ++ rows_text (map row_fields (map (λ n. NodeRow (name_at l.store.nodes n)) (drop l.i l.rows))) ≡ l.initial.out ++ rows_text (map row_fields (map (λ n. NodeRow (name_at l.store.nodes n)) l.rows))
