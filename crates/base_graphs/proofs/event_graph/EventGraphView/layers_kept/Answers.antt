use Rattle.graph_store.specs.Contents.{base_of}
use Rattle.view_trait.proofs.Whole.{HasLayers-all}
use Rattle.base_graphs.proofs.event_graph.EventGraphView.layers_kept.Goals as goal

pub returns : goal.returns
returns c =
    let graph = c.args.self.now in
    HasLayers-all graph.store.now (base_of graph.store.now) graph.shown
