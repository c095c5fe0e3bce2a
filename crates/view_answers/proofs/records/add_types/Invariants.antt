use Rattle.std.proofs.Common.{◌≡◌, ◌++◌, drop, map}
use Rattle.graph_model.specs.Answer.{row_fields}
use Rattle.graph_model.specs.RowText.{rows_text}
use Rattle.view_answers.specs.Records.{type_row}
use Rattle.view_answers.proofs.records.add_types.Given as goal

abbrev pub invariant-loop-typed : goal.invariant-loop-typed
invariant-loop-typed l = l.out ++ rows_text (map row_fields (map type_row (drop l.typed-index l.types))) ≡ l.initial.out ++ rows_text (map row_fields (map type_row l.types))
