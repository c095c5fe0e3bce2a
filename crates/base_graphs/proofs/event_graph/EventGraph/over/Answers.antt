use Rattle.base_graphs.proofs.event_graph.EventGraph.over.Goals as goal

pub invariant_of-result : goal.invariant_of-result
invariant_of-result c = record { shown = c.store_facts.ensures }
