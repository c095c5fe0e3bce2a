use Rattle.view_trait.proofs.Covered.{Covers-whole}
use Rattle.window_iters.proofs.ends_of_view.ends_over.Goals as goal

pub extent-extent-requires : goal.extent-extent-requires
extent-extent-requires g c = record { covers = Covers-whole (g.V.View.contents c.args.view.now) (g.V.View.world c.args.view.now) }
