use Rattle.std.proofs.Common.{◌≤◌, ◌+◌, ◌*◌, ◌^◌, ◌++◌, take}
use Rattle.std.specs.List.{flat_map}
use Rattle.graph_model.specs.Limits.{most_events}
use Rattle.graph_model.specs.World.{events_of}
use Rattle.graph_model.specs.Searches.{digits}
use Rattle.std.proofs.Common.{length}
use Rattle.view_trait.specs.Coverage.{edges_among, edges_on, node_count_on, nodes_among, nodes_on}
use Rattle.view_trait.proofs.Extents.{IsExtent}
use Rattle.view_trait.proofs.extent_of_view.extent.Given as goal

-- the extent of the first nodes on the roster, and the steps for them; there are no more than numbers of nodes
abbrev pub invariant-loop-i : goal.invariant-loop-i
invariant-loop-i g l =
    let contents = g.V.View.contents l.fn.view in
    let world = g.V.View.world l.fn.view in
    let roster = l.fn.roster in
    record {
      reach : l.i ≤ 2 ^ 32;
      few : l.all.events ≤ most_events * l.i;
      cost : l.steps ≤ l.fn.steps + (l.i * (g.V.View.searches l.fn.view).nodes) * digits (length contents.accepted) + 2 * l.i;
      extent : IsExtent (flat_map (events_of world) (nodes_among contents (take l.i (nodes_on contents roster)))) l.all;
    }

-- the extent of all nodes and the first edges on the roster
abbrev pub invariant-loop-j : goal.invariant-loop-j
invariant-loop-j g l =
    let contents = g.V.View.contents l.fn.view in
    let world = g.V.View.world l.fn.view in
    let roster = l.fn.roster in
    record {
      reach : l.j ≤ 2 ^ 32;
      few : l.all.events ≤ most_events * 2 ^ 32 + most_events * l.j;
      cost : l.steps ≤ l.fn.steps + (node_count_on contents roster * (g.V.View.searches l.fn.view).nodes + l.j * (g.V.View.searches l.fn.view).edges) * digits (length contents.accepted) + 2 * (node_count_on contents roster + l.j);
      extent : IsExtent (flat_map (events_of world) (nodes_among contents (nodes_on contents roster) ++ edges_among contents (take l.j (edges_on contents roster)))) l.all;
    }
