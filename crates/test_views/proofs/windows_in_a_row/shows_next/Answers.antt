use Rattle.view_trait.proofs.Covered.{Covers-whole}
use Rattle.test_views.proofs.windows_in_a_row.shows_next.Goals as goal

pub extent-requires : goal.extent-requires
extent-requires g c = record { covers = Covers-whole _ _ }
