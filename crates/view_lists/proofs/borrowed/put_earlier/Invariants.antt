use Rattle.std.proofs.Common.{◌≡◌, ◌≤◌, length, drop}
use Rattle.graph_model.specs.Props.{overwrite}
use Rattle.time_history.specs.Telling.{with_key_names}
use Rattle.graph_store.specs.Contents.{key_names_for}
use Rattle.view_lists.specs.Borrowed.{props_borrowed}
use Rattle.view_lists.specs.Listing.{entity_named}
use Rattle.view_lists.proofs.borrowed.put_earlier.Given as goal

abbrev pub decreases-loop-j : goal.decreases-loop-j
decreases-loop-j l = l.j

abbrev pub invariant-loop-j : goal.invariant-loop-j
invariant-loop-j l = record {
  within : l.j ≤ length l.values;
  props : props_borrowed l.props.items ≡ overwrite (with_key_names (key_names_for l.store (entity_named l.subject)) (drop l.j l.values)) (props_borrowed l.initial.props.items);
}
