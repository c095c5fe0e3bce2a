use Rattle.std.proofs.Common.{◌≡◌, ◌∙◌, [], sym, ap}
use Rattle.std.proofs.lemmas.List.Quantifiers.{position-Some}
use Rattle.graph_model.specs.Names.{same_name}
use Rattle.graph_store.specs.Contents.{name_at}
use Rattle.graph_store.proofs.AcceptNode.{name_at-insert}
use Rattle.graph_store.proofs.EdgeNames.{name-found}
use Rattle.graph_store.proofs.naming.number_parts.Goals as goal

pub returns-clause-parts : goal.returns-clause-parts
returns-clause-parts c =
    let first = c.number_node-src_number in
    let second = c.number_node-dst_number in
    let third = c.number_name-layer_number in
    let lt = (position-Some (same_name c.args.edge.src) first.new.nodes.names first.result [] first.ensures.number).0 in
    let src : name_at second.new.nodes.names first.result ≡ c.args.edge.src =
    ap (λ ns. name_at ns first.result) second.ensures.names ∙ (name_at-insert first.new.nodes.names c.args.edge.dst first.result lt ∙ sym (name-found first.new.nodes.names c.args.edge.src first.result first.ensures.number)) in
    let dst : name_at second.new.nodes.names second.result ≡ c.args.edge.dst = sym (name-found second.new.nodes.names c.args.edge.dst second.result second.ensures.number) in
    let layer : name_at third.new.names.names third.result ≡ c.args.edge.layer = sym (name-found third.new.names.names c.args.edge.layer third.result third.ensures.number) in
    λ i. record { src = src i; dst = dst i; layer = layer i }
