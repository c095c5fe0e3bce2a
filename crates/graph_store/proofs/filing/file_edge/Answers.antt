use Rattle.std.proofs.Common.{◌≡◌, ◌∙◌, [], ◌∷◌, ◌++◌, length, sym, ap, subst, arith}
use Rattle.std.specs.List.{list_any}
use Rattle.indexmap.specs.IndexSet.{insert_key}
use Rattle.graph_model.specs.Names.{same_name}
use Rattle.world_laws.proofs.Digits.{digits-le}
use Rattle.graph_store.specs.EdgeParts.{same_parts}
use Rattle.graph_store.specs.Histories.{updates_in}
use Rattle.graph_store.specs.Telling.{updates_of_number}
use Rattle.graph_store.specs.WithUpdate.{with_ends}
use Rattle.graph_store.specs.Contents.{edge_name}
use Rattle.graph_store.specs.FiledAs.{IsEdgeNumber}
use Rattle.graph_store.proofs.FiledNumbers.{last_edge}
use Rattle.graph_store.proofs.EdgeNames.{known_edge, known_ends, known_layer, known_histories, new_parts}
use Rattle.graph_store.proofs.filing.file_edge.Goals as goal

pub file_update-requires-clause-kinds : goal.file_update-requires-clause-kinds
file_update-requires-clause-kinds g c =
    let lt = (known_edge c.args.nodes.now.names c.args.layers.now.names c.args.edge c.args.links.now.edges c.requires.within c.in-Some.number (sym c.in-Some.ensures)).0 in
    let lengths = c.requires.lengths in
    (c.requires.next c.in-Some.number (omega arith)).sort

pub returns-in-Some-clause-names : goal.returns-in-Some-clause-names
returns-in-Some-clause-names g c = known_ends c.args.nodes.now.names c.args.layers.now.names c.args.edge c.args.links.now.edges c.requires.within c.in-Some.number (sym c.in-Some.ensures)

pub returns-in-Some-clause-layers : goal.returns-in-Some-clause-layers
returns-in-Some-clause-layers g c = known_layer c.args.nodes.now.names c.args.layers.now.names c.args.edge c.args.links.now.edges c.requires.within c.in-Some.number (sym c.in-Some.ensures)

pub returns-in-Some-clause-nodes_filed : goal.returns-in-Some-clause-nodes_filed
returns-in-Some-clause-nodes_filed g c =
    known_histories c.args.nodes.now.names c.args.layers.now.names c.args.edge c.args.links.now.edges c.requires.within c.in-Some.number (sym c.in-Some.ensures) (updates_in c.args.node_histories.now.items)

pub returns-in-Some-clause-number : goal.returns-in-Some-clause-number
returns-in-Some-clause-number g c =
    let known = known_edge c.args.nodes.now.names c.args.layers.now.names c.args.edge c.args.links.now.edges c.requires.within c.in-Some.number (sym c.in-Some.ensures) in
    (known.0, sym known.1)

pub returns-in-Some-clause-cost : goal.returns-in-Some-clause-cost
returns-in-Some-clause-cost g c =
    let lt = (known_edge c.args.nodes.now.names c.args.layers.now.names c.args.edge c.args.links.now.edges c.requires.within c.in-Some.number (sym c.in-Some.ensures)).0 in
    let lengths = c.requires.lengths in
    let few = (c.requires.next c.in-Some.number (omega arith)).few in
    let cost = c.in_ok-file_update.ensures.cost in
    omega (arith, digits-le (length (updates_of_number (updates_in c.args.edge_histories.now.items) c.in-Some.number)) c.args.update.arrival few)

pub returns-in_err-file_update-clause-cost : goal.returns-in_err-file_update-clause-cost
returns-in_err-file_update-clause-cost g c =
    let lt = (known_edge c.args.nodes.now.names c.args.layers.now.names c.args.edge c.args.links.now.edges c.requires.within c.in-Some.number (sym c.in-Some.ensures)).0 in
    let lengths = c.requires.lengths in
    let few = (c.requires.next c.in-Some.number (omega arith)).few in
    let cost = c.in_err-file_update.ensures.cost in
    omega (arith, digits-le (length (updates_of_number (updates_in c.args.edge_histories.now.items) c.in-Some.number)) c.args.update.arrival few)

pub add-requires-clause-new : goal.add-requires-clause-new
add-requires-clause-new g c =
    let e = c.number_parts-parts.ensures in
    let parts = c.number_parts-parts.result in
    let nodes = e.names ∙ ap (λ ns. with_ends ns c.args.edge) c.reserve_edge.ensures.names in
    let layers = e.layers ∙ ap (λ ls. insert_key same_name ls c.args.edge.layer) c.reserve_edge.ensures.layers in
    let is_named : edge_name (with_ends c.args.nodes.now.names c.args.edge) (insert_key same_name c.args.layers.now.names c.args.edge.layer) parts ≡ c.args.edge = sym (λ k. edge_name (nodes k) (layers k) parts) ∙ e.parts in
    ap (list_any (same_parts parts)) (e.edges ∙ c.reserve_edge.ensures.edges) ∙ new_parts c.args.nodes.now.names c.args.layers.now.names c.args.edge c.args.links.now.edges c.requires.within (sym c.in_default.ensures) parts is_named

pub returns-clause-number : goal.returns-clause-number
returns-clause-number g c =
    let nodes = c.number_parts-parts.new.nodes.names in
    let layers = c.number_parts-parts.new.layers.names in
    subst (λ es. IsEdgeNumber nodes layers es c.args.edge c.add.result) (sym c.add.ensures.edges)
    (subst (IsEdgeNumber nodes layers (c.number_parts-parts.new.links.edges ++ c.number_parts-parts.result ∷ []) c.args.edge) (sym c.add.ensures.number)
    (last_edge nodes layers c.number_parts-parts.new.links.edges c.args.edge c.number_parts-parts.result c.number_parts-parts.ensures.parts))
