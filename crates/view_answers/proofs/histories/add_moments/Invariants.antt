use Rattle.std.proofs.Common.{◌≡◌, ◌++◌, drop, map}
use Rattle.graph_model.specs.Answer.{row_fields}
use Rattle.graph_model.specs.RowText.{rows_text}
use Rattle.view_answers.specs.Moments.{moment_rows}
use Rattle.view_answers.proofs.histories.add_moments.Given as goal

abbrev pub invariant-loop-i : goal.invariant-loop-i
invariant-loop-i l = l.out ++ rows_text (map row_fields (moment_rows l.i (drop l.i l.moments))) ≡ l.initial.out ++ rows_text (map row_fields (moment_rows 0 l.moments))
