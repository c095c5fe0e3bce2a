use Rattle.std.proofs.Common.{◌≤◌, take}
use Rattle.graph_model.specs.Props.{KeysRise}
use Rattle.time_history.specs.Telling.{events_told}
use Rattle.graph_store.specs.Contents.{key_names_for}
use Rattle.view_lists.specs.Borrowed.{props_borrowed}
use Rattle.view_lists.specs.Listing.{entity_named}
use Rattle.view_lists.proofs.LiveProps.{Gathered}
use Rattle.view_lists.proofs.borrowed.set_live.Given as goal

abbrev pub decreases-loop-i : goal.decreases-loop-i
decreases-loop-i l = l.i

abbrev pub invariant-loop-i : goal.invariant-loop-i
invariant-loop-i l =
    let x = entity_named l.subject in
    record {
      within : l.i ≤ l.to;
      rise : KeysRise (props_borrowed l.props.items);
      values : Gathered (take l.to (events_told x (key_names_for l.store x) l.history.updates)) l.i (props_borrowed l.props.items);
    }
