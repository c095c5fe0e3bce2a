use Rattle.view_answers.proofs.EdgeList.{told_by_parts}
use Rattle.view_answers.proofs.edges.named_edge.Goals as goal

pub returns : goal.returns
returns c =
    told_by_parts c.args.store.now c.args.e.0 c.edge_parts-parts.result.0.0 c.edge_parts-parts.result.1.0 c.edge_parts-parts.result.2 c.node_name-src.result.now c.node_name-dst.result.now c.layer_name-layer.result.now
    c.edge_parts-parts.ensures.src c.edge_parts-parts.ensures.dst c.edge_parts-parts.ensures.layer c.node_name-src.ensures c.node_name-dst.ensures c.layer_name-layer.ensures
