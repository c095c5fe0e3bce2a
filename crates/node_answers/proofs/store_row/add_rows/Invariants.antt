use Rattle.std.proofs.Common.{◌≡◌, ◌++◌, drop, map}
use Rattle.graph_model.specs.Answer.{row_fields}
use Rattle.graph_model.specs.RowText.{rows_text}
use Rattle.node_answers.proofs.store_row.add_rows.Given as goal

abbrev pub invariant-loop-row : goal.invariant-loop-row
invariant-loop-row g l = l.out ++ rows_text (map row_fields (map (g.R.StoreRow.as_row l.store) (drop l.row-index l.rows))) ≡ l.initial.out ++ rows_text (map row_fields (map (g.R.StoreRow.as_row l.store) l.rows))
