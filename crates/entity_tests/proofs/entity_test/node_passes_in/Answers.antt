use Rattle.view_trait.specs.Meaning.{node_at}
use Rattle.view_trait.proofs.Found.{events_fit}
use Rattle.view_trait.proofs.Costs.{StepsWithin-among}
use Rattle.entity_tests.proofs.entity_test.node_passes_in.Goals as goal

pub returns-clause-cost : goal.returns-clause-cost
returns-clause-cost g c =
    let contents = g.V.View.contents c.args.view.now in
    StepsWithin-among _ _ _ _ _ c.node_span-span.ensures.cost (events_fit contents (node_at contents c.args.n.0))
