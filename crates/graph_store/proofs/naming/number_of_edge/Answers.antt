use Rattle.std.proofs.Common.{◌∙◌, sym}
use Rattle.graph_store.proofs.EdgeNames.{no_src, no_dst, no_layer, place_of_parts}
use Rattle.graph_store.proofs.naming.number_of_edge.Goals as goal

pub returns-in_err-src : goal.returns-in_err-src
returns-in_err-src c =
    c.from_residual.ensures
    ∙ sym (no_src c.args.nodes.now.names c.args.layers.now.names c.args.edge.now c.args.links.now.edges c.requires.within (sym c.find.ensures ∙ c.in_err-src.was))

pub returns-in_err-dst : goal.returns-in_err-dst
returns-in_err-dst c =
    c.from_residual-in_err-dst.ensures
    ∙ sym (no_dst c.args.nodes.now.names c.args.layers.now.names c.args.edge.now c.args.links.now.edges c.requires.within (sym c.find-2.ensures ∙ c.in_err-dst.was))

pub returns-in_err-layer : goal.returns-in_err-layer
returns-in_err-layer c =
    c.from_residual-in_err-layer.ensures
    ∙ sym (no_layer c.args.nodes.now.names c.args.layers.now.names c.args.edge.now c.args.links.now.edges c.requires.within (sym c.find-3.ensures ∙ c.in_err-layer.was))

pub returns : goal.returns
returns c =
    c.find-4.ensures.place
    ∙ sym (place_of_parts c.args.nodes.now.names c.args.layers.now.names c.args.edge.now c.args.links.now.edges c.requires.within c.len-node_count.ensures.distinct c.len-layer_count.ensures.distinct
    (record { src = c.in_ok-src.src; dst = c.in_ok-dst.dst; layer = c.in_ok-layer.layer }) (sym c.find.ensures ∙ c.in_ok-src.was) (sym c.find-2.ensures ∙ c.in_ok-dst.was) (sym c.find-3.ensures ∙ c.in_ok-layer.was))
