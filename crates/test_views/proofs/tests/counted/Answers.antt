use Rattle.view_trait.proofs.Covered.{Covers-whole}
use Rattle.test_views.proofs.tests.counted.Goals as goal

pub extent-shown-requires : goal.extent-shown-requires
extent-shown-requires g c = record { covers = Covers-whole _ _ }
