use Rattle.std.proofs.Common.{sym, ap, ◌∙◌}
use Rattle.view_trait.specs.Numbered.{has_bit}
use Rattle.view_trait.proofs.Kept.{layer_keeps}
use Rattle.entity_tests.proofs.number_tests.LayerTestEntityTest.passes_edge.Goals as goal

pub returns : goal.returns
returns c = λ asked w h.
    c.has_layer.ensures ∙ (ap (has_bit c.args.self.now.kept) c.edge_parts-layer.ensures.layer
    ∙ sym (layer_keeps c.args.store.now c.args.self.now.kept c.args.e.0 c.store_facts.ensures.indexed c.requires.exists))
