use Rattle.std.proofs.Common.{ℕ, ◌&&◌, sym, ap, ◌∙◌}
use Rattle.graph_store.specs.EdgeParts.{parts_at}
use Rattle.view_trait.specs.Numbered.{is_listed, keeps_number}
use Rattle.view_trait.proofs.Kept.{ends_keep}
use Rattle.entity_tests.proofs.number_tests.NodeTestEntityTest.passes_edge.Goals as goal

pub returns : goal.returns
returns c = λ asked w h.
    let contents = c.args.store.now in
    let keeps = c.args.self.now.keeps in
    let nodes = c.args.self.now.nodes.now in
    let test = λ (n : ℕ). keeps_number keeps (is_listed nodes n) in
    c.has_nodes.ensures ∙ (ap (λ n. test n && test c.edge_parts-layer.result.1.0) c.edge_parts-layer.ensures.src
    ∙ (ap (λ n. test (parts_at contents.edges c.args.e.0).src && test n) c.edge_parts-layer.ensures.dst
    ∙ sym (ends_keep contents keeps nodes c.args.e.0 c.store_facts.ensures.indexed c.requires.exists)))
