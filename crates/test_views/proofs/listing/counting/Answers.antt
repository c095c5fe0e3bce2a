use Rattle.view_trait.proofs.Covered.{Covers-whole}
use Rattle.test_views.proofs.listing.counting.Goals as goal

pub degrees-requires : goal.degrees-requires
degrees-requires g c = record { covers = Covers-whole _ _ }
