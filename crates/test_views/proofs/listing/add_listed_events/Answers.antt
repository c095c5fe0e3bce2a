use Rattle.view_trait.proofs.Covered.{Covers-whole}
use Rattle.test_views.proofs.listing.add_listed_events.Goals as goal

pub list_world-requires : goal.list_world-requires
list_world-requires g c = record { covers = Covers-whole (g.V.View.contents c.args.view.now) (g.V.View.world c.args.view.now) }
