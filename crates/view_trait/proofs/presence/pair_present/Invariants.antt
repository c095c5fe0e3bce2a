use Rattle.std.proofs.Common.{◌≡◌, ◌<◌, ◌≤◌, ◌-◌, ◌*◌, length}
use Rattle.std.specs.List.{list_any, AllByRecursion}
use Rattle.graph_model.specs.Presence.{edge_present}
use Rattle.graph_model.specs.declared.events.Model.TheVariants.{Event as Instants}
use Rattle.view_trait.specs.Meaning.{StepsWithin, edge_named}
use Rattle.view_trait.specs.Present.{edge_count}
use Rattle.graph_store.specs.Ends.{ends_at}
use Rattle.graph_store.specs.EdgeIndex.{edges_between}
use Rattle.view_trait.proofs.presence.pair_present.Given as goal

abbrev pub invariant-loop-e : goal.invariant-loop-e
invariant-loop-e g l =
    let contents = g.V.View.contents l.fn.view in
    let world = g.V.View.world l.fn.view in
    record {
      within : AllByRecursion (λ e. e < length contents.edges) l.edges;
      left : list_any (λ e. edge_present world (edge_named contents e)) (edges_between contents.edges (ends_at contents.pairs l.fn.p.0)) ≡ list_any (λ e. edge_present world (edge_named contents e)) l.edges;
      few : length l.edges ≤ edge_count contents l.fn.p.0;
      cost : world.model ≡ Instants → StepsWithin l.fn.steps l.steps ((edge_count contents l.fn.p.0 - length l.edges) * (g.V.View.searches l.fn.view).edges) (length contents.accepted);
    }

abbrev pub decreases-loop-e : goal.decreases-loop-e
decreases-loop-e g l = length l.edges
