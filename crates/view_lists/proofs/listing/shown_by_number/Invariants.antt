use Rattle.std.proofs.Common.{◌≡◌, ◌+◌, ◌*◌, ◌++◌, length, take}
use Rattle.std.specs.List.{filter, All}
use Rattle.view_trait.specs.Coverage.{edges_among, edges_on, node_count_on, nodes_among, nodes_on}
use Rattle.view_trait.specs.Meaning.{StepsWithin}
use Rattle.view_lists.specs.Listing.{IsShownEntity, entities_of, appears}
use Rattle.view_lists.proofs.listing.shown_by_number.Given as goal

abbrev pub invariant-loop-i : goal.invariant-loop-i
invariant-loop-i g l =
    let contents = g.V.View.contents l.fn.view in
    let world = g.V.View.world l.fn.view in
    record {
      entities : entities_of l.shown.items ≡ filter (appears world) (nodes_among contents (take l.i (nodes_on contents l.fn.roster)));
      parts : All (IsShownEntity contents world) l.shown.items;
      cost : StepsWithin l.fn.steps l.steps (l.i * (g.V.View.searches l.fn.view).nodes) (length contents.accepted);
    }

abbrev pub invariant-loop-j : goal.invariant-loop-j
invariant-loop-j g l =
    let contents = g.V.View.contents l.fn.view in
    let world = g.V.View.world l.fn.view in
    record {
      entities : entities_of l.shown.items ≡ filter (appears world) (nodes_among contents (nodes_on contents l.fn.roster) ++ edges_among contents (take l.j (edges_on contents l.fn.roster)));
      parts : All (IsShownEntity contents world) l.shown.items;
      cost : StepsWithin l.fn.steps l.steps (node_count_on contents l.fn.roster * (g.V.View.searches l.fn.view).nodes + l.j * (g.V.View.searches l.fn.view).edges) (length contents.accepted);
    }
