use Rattle.view_trait.proofs.Covered.{Covers-whole}
use Rattle.test_views.proofs.listing.add_listed_types.Goals as goal

pub list_types-requires : goal.list_types-requires
list_types-requires g c = record { covers = Covers-whole (g.V.View.contents c.args.view.now) (g.V.View.world c.args.view.now) }
