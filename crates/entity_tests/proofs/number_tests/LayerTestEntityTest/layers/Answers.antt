use Rattle.entity_tests.proofs.Layers.{passes_layers}
use Rattle.entity_tests.proofs.number_tests.LayerTestEntityTest.layers.Goals as goal

pub returns : goal.returns
returns c = passes_layers c.args.self.now.kept
