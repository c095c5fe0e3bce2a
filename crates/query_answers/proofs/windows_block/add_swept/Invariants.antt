use Rattle.std.proofs.Common.{◌+◌, ◌*◌, ◌≤◌, length}
use Rattle.std.specs.Prelude.{IsTrue}
use Rattle.window_ends.specs.Ends.{windows_at}
use Rattle.window_sweep.specs.WindowSwept.{IsOver}
use Rattle.query_answers.specs.Cost.{event_steps, held_in, is_counted_in_windows}
use Rattle.query_answers.proofs.QueryBlocks.{AddsRest}
use Rattle.query_answers.proofs.windows_block.add_swept.Given as goal

-- the parts so far, that the sweep is over the view, and what the windows that are left may cost
abbrev pub invariant-loop-ends : goal.invariant-loop-ends
invariant-loop-ends g l = record {
  rest : AddsRest (g.V.View.world l.fn.view) l.fn.ask l.ends-iterator l.fn.windows l.fn.out l.out;
  over : IsOver (g.V.View.contents l.fn.view) (g.V.View.world l.fn.view) l.sweep;
  cost : IsTrue (is_counted_in_windows (g.V.View.world l.fn.view).model l.fn.ask)
      → l.steps + held_in (windows_at (g.V.View.world l.fn.view) l.ends-iterator) * event_steps (g.V.View.searches l.fn.view) (length (g.V.View.contents l.fn.view).accepted)
      ≤ l.fn.steps + held_in (windows_at (g.V.View.world l.fn.view) l.fn.windows) * event_steps (g.V.View.searches l.fn.view) (length (g.V.View.contents l.fn.view).accepted);
}
