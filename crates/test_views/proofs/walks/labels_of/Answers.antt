use Rattle.view_trait.proofs.Covered.{Covers-whole}
use Rattle.test_views.proofs.walks.labels_of.Goals as goal

pub weak_parts-requires : goal.weak_parts-requires
weak_parts-requires g c = record { covers = Covers-whole _ _ }
