use Rattle.view_trait.proofs.Covered.{Covers-whole}
use Rattle.query_answers.proofs.windows_block.add_windows.Goals as goal

pub new-requires : goal.new-requires
new-requires g c = record { covers = Covers-whole (g.V.View.contents c.args.view.now) (g.V.View.world c.args.view.now) }
