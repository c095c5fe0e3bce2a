use Rattle.std.proofs.Common.{◌≡◌, ◌++◌, drop, map}
use Rattle.graph_model.specs.Output.{refused_row}
use Rattle.graph_model.specs.RowText.{rows_text}
use Rattle.file_reading.specs.StoreReading.{refused_of}
use Rattle.query_run.proofs.file_output.add_all_refused.Given as goal

abbrev pub invariant-loop-refusal : goal.invariant-loop-refusal
invariant-loop-refusal l = l.out ++ rows_text (map (λ r. refused_row (refused_of r)) (drop l.refusal-index l.refused)) ≡ l.fn.out ++ rows_text (map (λ r. refused_row (refused_of r)) l.refused)
