use Rattle.std.proofs.Common.{◌≡◌, ◌*◌, ◌++◌, length, take}
use Rattle.std.specs.List.{filter}
use Rattle.view_trait.specs.Coverage.{nodes_on}
use Rattle.view_trait.specs.Meaning.{StepsWithin}
use Rattle.present_links.specs.Links.{has_own}
use Rattle.present_links.proofs.node_rows.present_numbers.Given as goal

-- those of the first nodes on the roster that have an event of their own, and the searches for these nodes
abbrev pub invariant-loop-i : goal.invariant-loop-i
invariant-loop-i g l =
    let contents = g.V.View.contents l.fn.view in
    let world = g.V.View.world l.fn.view in
    record {
      numbers : l.numbers.items ≡ l.initial.numbers.items ++ filter (has_own contents world) (take l.i (nodes_on contents l.fn.roster));
      cost : StepsWithin l.fn.steps l.steps (l.i * (g.V.View.searches l.fn.view).nodes) (length contents.accepted);
    }
