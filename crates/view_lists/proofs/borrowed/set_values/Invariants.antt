use Rattle.std.proofs.Common.{◌≡◌, ◌≤◌, length, drop}
use Rattle.time_history.specs.Telling.{with_key_names}
use Rattle.graph_store.specs.Contents.{key_names_for}
use Rattle.view_lists.specs.Borrowed.{props_borrowed}
use Rattle.view_lists.specs.Listing.{entity_named}
use Rattle.view_lists.proofs.borrowed.set_values.Given as goal

abbrev pub decreases-loop-i : goal.decreases-loop-i
decreases-loop-i l = l.i

abbrev pub invariant-loop-i : goal.invariant-loop-i
invariant-loop-i l = record {
  within : l.i ≤ length l.values;
  props : props_borrowed l.props.items ≡ with_key_names (key_names_for l.store (entity_named l.subject)) (drop l.i l.values);
}
