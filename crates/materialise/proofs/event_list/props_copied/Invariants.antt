use Rattle.std.proofs.Common.{◌≡◌, ◌≤◌, length, drop}
use Rattle.view_lists.specs.Borrowed.{props_borrowed}
use Rattle.materialise.proofs.event_list.props_copied.Given as goal

abbrev pub decreases-loop-i : goal.decreases-loop-i
decreases-loop-i l = l.i

abbrev pub invariant-loop-i : goal.invariant-loop-i
invariant-loop-i l = record {
  within : l.i ≤ length l.props;
  copied : l.copied ≡ drop l.i (props_borrowed l.props);
}
