use Rattle.std.proofs.Common.{sym, ◌∙◌, ap}
use Rattle.graph_model.specs.Keep.{keep, edge_holds, node_holds}
use Rattle.graph_model.specs.Stack.{view}
use Rattle.view_trait.proofs.ReadyWorlds.{ready_layers, ready_other_layers, ready_nodes, ready_other_nodes, ready_types, ready_edges, ready_filtered_nodes}
use Rattle.view_trait.proofs.ready_views.ready_op.Goals as goal

pub returns-in-Layers-clause-view : goal.returns-in-Layers-clause-view
returns-in-Layers-clause-view c w h = ready_layers c.args.store.now c.layer_bits.result c.in-Layers.names w h.shown c.layer_bits.ensures ∙ ap (view w) (sym c.in-Layers.is)

pub returns-in-ExcludeLayers-clause-view : goal.returns-in-ExcludeLayers-clause-view
returns-in-ExcludeLayers-clause-view c w h =
    ready_other_layers c.args.store.now c.layer_bits-in-ExcludeLayers.result c.in-ExcludeLayers.names w c.layer_bits-in-ExcludeLayers.type_inv h.shown c.layer_bits-in-ExcludeLayers.ensures ∙ ap (view w) (sym c.in-ExcludeLayers.is)

pub returns-in_ok-nodes_of-in-Subgraph-clause-view : goal.returns-in_ok-nodes_of-in-Subgraph-clause-view
returns-in_ok-nodes_of-in-Subgraph-clause-view c w h =
    ready_nodes c.args.store.now c.in_ok-nodes_of-in-Subgraph.field-0 c.in-Subgraph.names w h.shown c.in_ok-nodes_of-in-Subgraph.ensures ∙ ap (view w) (sym c.in-Subgraph.is)

pub returns-in_ok-nodes_of-in-ExcludeNodes-clause-view : goal.returns-in_ok-nodes_of-in-ExcludeNodes-clause-view
returns-in_ok-nodes_of-in-ExcludeNodes-clause-view c w h =
    ready_other_nodes c.args.store.now c.in_ok-nodes_of-in-ExcludeNodes.field-0 c.in-ExcludeNodes.names w h.shown c.in_ok-nodes_of-in-ExcludeNodes.ensures ∙ ap (view w) (sym c.in-ExcludeNodes.is)

pub returns-in_ok-copy-in-EdgesWhere-clause-view : goal.returns-in_ok-copy-in-EdgesWhere-clause-view
returns-in_ok-copy-in-EdgesWhere-clause-view c w h =
    ready_edges c.args.store.now w c.in-EdgesWhere.key c.edge_key.result c.in-EdgesWhere.cmp c.in_ok-copy-in-EdgesWhere.field-0 h c.edge_key.ensures.place c.edge_key.ensures.known
    ∙ (ap (λ v. keep (edge_holds w c.in-EdgesWhere.key c.in-EdgesWhere.cmp v) w) c.in_ok-copy-in-EdgesWhere.ensures ∙ ap (view w) (sym c.in-EdgesWhere.is))

pub returns-in_ok-copy-in-NodesWhere-clause-view : goal.returns-in_ok-copy-in-NodesWhere-clause-view
returns-in_ok-copy-in-NodesWhere-clause-view c w h =
    ready_filtered_nodes c.args.store.now w c.in-NodesWhere.key c.node_key.result c.in-NodesWhere.cmp c.in_ok-copy-in-NodesWhere.field-0 h c.node_key.ensures.place c.node_key.ensures.known
    ∙ (ap (λ v. keep (node_holds w c.in-NodesWhere.key c.in-NodesWhere.cmp v) w) c.in_ok-copy-in-NodesWhere.ensures ∙ ap (view w) (sym c.in-NodesWhere.is))

pub returns-in_ok-typed_nodes-in-NodeTypes-clause-view : goal.returns-in_ok-typed_nodes-in-NodeTypes-clause-view
returns-in_ok-typed_nodes-in-NodeTypes-clause-view c w h =
    ready_types c.args.store.now c.in_ok-typed_nodes-in-NodeTypes.field-0 c.in-NodeTypes.names w h c.in_ok-typed_nodes-in-NodeTypes.ensures ∙ ap (view w) (sym c.in-NodeTypes.is)
