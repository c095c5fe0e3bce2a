use Rattle.std.proofs.Common.{◌≡◌, ◌++◌, [], drop, map}
use Rattle.csv.specs.Records.{fields_of, partial_of}
use Rattle.graph_model.specs.Record.{prop_text}
use Rattle.view_lists.specs.Borrowed.{props_borrowed}
use Rattle.view_answers.proofs.records.add_props.Given as goal

abbrev pub invariant-loop-property : goal.invariant-loop-property
invariant-loop-property l = record {
  fields : fields_of l.row ++ map prop_text (props_borrowed (drop l.property-index l.props)) ≡ fields_of l.initial.row ++ map prop_text (props_borrowed l.props);
  whole : partial_of l.row ≡ [];
}
