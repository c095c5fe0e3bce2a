use Rattle.entity_tests.proofs.Layers.{passes_each_layer}
use Rattle.entity_tests.proofs.number_tests.NodeTestEntityTest.layers.Goals as goal

pub returns : goal.returns
returns c = passes_each_layer _
