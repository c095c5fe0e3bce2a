use Rattle.view_trait.specs.Meaning.{node_at}
use Rattle.view_trait.proofs.Found.{events_fit}
use Rattle.view_trait.proofs.Costs.{StepsWithin-among}
use Rattle.stack_view.proofs.edges.node_passes_below.Goals as goal

pub returns-clause-cost : goal.returns-clause-cost
returns-clause-cost g c = StepsWithin-among _ _ _ _ _ c.node_span_below-part.ensures.cost (events_fit c.args.store.now (node_at c.args.store.now c.args.n.0))
