use Rattle.std.proofs.Common.{◌≡◌, drop}
use Rattle.csv.specs.Records.{fields_of}
use Rattle.graph_model.specs.Said.{props_from}
use Rattle.event_rows.specs.Gathering.{with_properties}
use Rattle.event_rows.proofs.row.read_props.Given as goal

abbrev pub invariant-loop-i : goal.invariant-loop-i
invariant-loop-i l = with_properties l.props (drop l.i (fields_of l.fields)) ≡ props_from l.start (fields_of l.fields)
