use Rattle.std.proofs.Common.{sym, subst}
use Rattle.entity_tests.specs.Ready.{keeps_entity}
use Rattle.entity_tests.specs.Tests.{PassesLayers}
use Rattle.entity_tests.proofs.Layers.{passes_layers, passes_each_layer}
use Rattle.entity_tests.proofs.ready_test.ReadyOpEntityTest.layers.Goals as goal

pub returns-in-Layers : goal.returns-in-Layers
returns-in-Layers c = subst (λ op. PassesLayers (λ s w. keeps_entity s w op) c.in-Layers.bits) (sym c.in-Layers.is) (passes_layers c.in-Layers.bits)

pub returns-in_default : goal.returns-in_default
returns-in_default c = passes_each_layer _
