use Rattle.std.proofs.Common.{◌≡◌, ◌<◌, ◌≤◌, ◌-◌, ◌*◌, length}
use Rattle.std.specs.List.{AllByRecursion}
use Rattle.graph_model.specs.declared.events.Model.TheVariants.{Event as Instants}
use Rattle.view_trait.specs.Meaning.{StepsWithin}
use Rattle.view_trait.specs.Present.{any_pair_leads, edge_count_of}
use Rattle.view_trait.proofs.presence.any_pair_present.Given as goal

abbrev pub invariant-loop-p : goal.invariant-loop-p
invariant-loop-p g l =
    let contents = g.V.View.contents l.fn.view in
    let world = g.V.View.world l.fn.view in
    let all = edge_count_of contents l.initial.pairs in
    record {
      within : AllByRecursion (λ p. p < length contents.pairs) l.pairs;
      left : any_pair_leads contents world l.initial.pairs ≡ any_pair_leads contents world l.pairs;
      few : edge_count_of contents l.pairs ≤ all;
      cost : world.model ≡ Instants → StepsWithin l.fn.steps l.steps ((all - edge_count_of contents l.pairs) * (g.V.View.searches l.fn.view).edges) (length contents.accepted);
    }

abbrev pub decreases-loop-p : goal.decreases-loop-p
decreases-loop-p g l = length l.pairs
