use Rattle.std.proofs.Common.{◌≡◌, ◌≤◌, ◌+◌, ◌*◌, length, take}
use Rattle.graph_model.specs.Searches.{digits}
use Rattle.view_trait.specs.Coverage.{edges_on}
use Rattle.window_sweep.specs.Filling.{edges_held}
use Rattle.window_sweep.proofs.filling.held_edges.Given as goal

-- the events of the first edges on the roster, and the steps for them
abbrev pub invariant-loop-i : goal.invariant-loop-i
invariant-loop-i g l =
    let contents = g.V.View.contents l.fn.view in
    let world = g.V.View.world l.fn.view in
    record {
      held : l.held.items ≡ edges_held contents world (take l.i (edges_on contents l.fn.roster));
      cost : l.steps ≤ l.fn.steps + (l.i * (g.V.View.searches l.fn.view).edges) * digits (length contents.accepted) + length l.held.items;
    }
