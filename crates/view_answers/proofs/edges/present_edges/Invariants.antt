use Rattle.std.proofs.Common.{◌≡◌, ◌*◌, length, take}
use Rattle.std.specs.List.{filter}
use Rattle.graph_model.specs.declared.events.Model.TheVariants.{Event as Instants}
use Rattle.view_trait.specs.Coverage.{edges_on}
use Rattle.view_trait.specs.Meaning.{StepsWithin}
use Rattle.present_links.specs.Links.{has_edge}
use Rattle.view_answers.proofs.edges.present_edges.Given as goal

-- those of the first edges on the roster that are present, and the searches for these edges
abbrev pub invariant-loop-i : goal.invariant-loop-i
invariant-loop-i g l =
    let contents = g.V.View.contents l.fn.view in
    let world = g.V.View.world l.fn.view in
    record {
      numbers : l.numbers.items ≡ filter (has_edge contents world) (take l.i (edges_on contents l.fn.roster));
      cost : world.model ≡ Instants → StepsWithin l.fn.steps l.steps (l.i * (g.V.View.searches l.fn.view).edges) (length contents.accepted);
    }
