use Rattle.std.proofs.Common.{◌≡◌, ◌++◌, drop, map}
use Rattle.graph_model.specs.Answer.{EdgeRow, row_fields}
use Rattle.graph_model.specs.RowText.{rows_text}
use Rattle.view_answers.specs.Edges.{edge_told}
use Rattle.view_answers.proofs.edges.add_listed.Given as goal

abbrev pub invariant-loop-edge : goal.invariant-loop-edge
invariant-loop-edge l = l.out ++ rows_text (map row_fields (map (λ e. EdgeRow (edge_told e)) (drop l.edge-index l.listed))) ≡ l.initial.out ++ rows_text (map row_fields (map (λ e. EdgeRow (edge_told e)) l.listed))
