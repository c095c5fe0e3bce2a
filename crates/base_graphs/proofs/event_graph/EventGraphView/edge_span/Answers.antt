use Rattle.std.proofs.Common.{refl}
use Rattle.view_trait.specs.Meaning.{edge_at}
use Rattle.view_trait.proofs.Found.{edge_tells}
use Rattle.view_trait.proofs.Whole.{Shows-whole}
use Rattle.base_graphs.proofs.event_graph.EventGraphView.edge_span.Goals as goal

pub returns-clause-shows : goal.returns-clause-shows
returns-clause-shows g c =
    let store = c.args.self.now.store.now in
    let us = c.edge_history.result.now.updates in
    Shows-whole store (edge_at store c.args.e.0) us c.whole.result (edge_tells store store c.args.e.0 us refl c.edge_history.ensures.told c.edge_history.ensures.fits) c.whole.ensures c.edge_history.ensures.whole
