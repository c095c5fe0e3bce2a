use Rattle.std.proofs.Common.{refl}
use Rattle.view_trait.specs.Meaning.{node_at}
use Rattle.view_trait.proofs.Found.{node_tells}
use Rattle.view_trait.proofs.Whole.{Shows-whole}
use Rattle.base_graphs.proofs.persistent_graph.PersistentGraphView.node_span.Goals as goal

pub returns-clause-shows : goal.returns-clause-shows
returns-clause-shows g c =
    let store = c.args.self.now.store.now in
    let us = c.node_history.result.now.updates in
    Shows-whole store (node_at store c.args.n.0) us c.whole.result (node_tells store store c.args.n.0 us refl c.node_history.ensures.told c.node_history.ensures.fits) c.whole.ensures c.node_history.ensures.whole
