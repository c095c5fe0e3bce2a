use Rattle.std.proofs.Common.{◌≡◌, ◌≤◌, ◌+◌, ◌*◌, length, take}
use Rattle.graph_model.specs.Searches.{digits}
use Rattle.view_trait.specs.Coverage.{nodes_on}
use Rattle.window_sweep.specs.Filling.{nodes_held}
use Rattle.window_sweep.proofs.filling.held_nodes.Given as goal

-- the events of the first nodes on the roster, and the steps for them
abbrev pub invariant-loop-i : goal.invariant-loop-i
invariant-loop-i g l =
    let contents = g.V.View.contents l.fn.view in
    let world = g.V.View.world l.fn.view in
    record {
      held : l.held.items ≡ nodes_held contents world (take l.i (nodes_on contents l.fn.roster));
      cost : l.steps ≤ l.fn.steps + (l.i * (g.V.View.searches l.fn.view).nodes) * digits (length contents.accepted) + length l.held.items;
    }
