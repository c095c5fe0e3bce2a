use Rattle.entity_tests.proofs.Layers.{HasLayers-kept}
use Rattle.entity_tests.proofs.keep_view.KeepViewView.layers_kept.Goals as goal

pub returns : goal.returns
returns g c =
    let view = c.args.self.now in
    HasLayers-kept (g.T.EntityTest.passes view.test) (g.V.View.contents view.inner) (g.V.View.world view.inner) c.layers_kept.result c.layers.result (g.met.V.View.shown view.inner) c.layers_kept.ensures c.layers.ensures
