use Rattle.std.proofs.Common.{◌≡◌, drop}
use Rattle.csv.specs.Records.{fields_of}
use Rattle.graph_model.specs.Said.{are_texts}
use Rattle.event_rows.proofs.fields.all_text.Given as goal

abbrev pub invariant-loop-i : goal.invariant-loop-i
invariant-loop-i l = are_texts (drop l.i (fields_of l.fields)) ≡ are_texts (fields_of l.fields)
