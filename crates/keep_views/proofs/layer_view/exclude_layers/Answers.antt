use Rattle.view_trait.proofs.Kept.{layers_dropped}
use Rattle.keep_views.proofs.layer_view.exclude_layers.Goals as goal

pub returns-clause-world : goal.returns-clause-world
returns-clause-world g c = λ contents w h. layers_dropped contents c.args.dropped w c.ranges.dropped.fits h
