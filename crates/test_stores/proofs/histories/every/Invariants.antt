use Rattle.std.proofs.Common.{◌≡◌, ◌<◌, ◌≤◌, length, false}
use Rattle.std.specs.List.{All}
use Rattle.time_history.specs.declared.updates.Update.{Update}
use Rattle.time_history.specs.Kinds.{is_node, NoDeletion}
use Rattle.graph_model.specs.Interval.{earliest, latest}
use Rattle.time_history.specs.Spans.{AreWithin}
use Rattle.test_stores.proofs.histories.every.Given as goal

abbrev pub invariant-loop-i : goal.invariant-loop-i
invariant-loop-i g l = record {
  len : length l.history.updates ≡ l.i;
  time : l.time < l.round;
  arrived : All (λ (u : Update). u.arrival < l.i) l.history.updates;
  edges : All (λ (u : Update). is_node u.kind ≡ false) l.history.updates;
  range : AreWithin (record { lo = earliest; hi = latest }) l.history.updates;
  kept : l.i ≤ l.deletion → NoDeletion l.history.updates;
}
