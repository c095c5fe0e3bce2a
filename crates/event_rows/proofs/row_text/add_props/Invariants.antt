use Rattle.std.proofs.Common.{◌≡◌, ◌++◌, [], drop, map}
use Rattle.csv.specs.Records.{fields_of, partial_of}
use Rattle.graph_model.specs.Record.{prop_text}
use Rattle.event_rows.proofs.row_text.add_props.Given as goal

abbrev pub invariant-loop-i : goal.invariant-loop-i
invariant-loop-i l = (fields_of l.row ++ map prop_text (drop l.i l.props) ≡ fields_of l.fn.row ++ map prop_text l.props) × (partial_of l.row ≡ [])
