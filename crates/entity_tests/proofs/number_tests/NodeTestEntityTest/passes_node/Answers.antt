use Rattle.std.proofs.Common.{sym, ◌∙◌}
use Rattle.view_trait.proofs.Kept.{node_keeps}
use Rattle.entity_tests.proofs.number_tests.NodeTestEntityTest.passes_node.Goals as goal

pub returns : goal.returns
returns c = λ w h. c.has_node.ensures ∙ sym (node_keeps c.args.store.now c.args.self.now.keeps c.args.self.now.nodes.now c.args.n.0 c.store_facts.ensures.indexed c.requires.exists)
