use Rattle.view_trait.proofs.Covered.{Covers-whole}
use Rattle.test_views.proofs.walks.walk_of.Goals as goal

pub hops-requires-clause-covers : goal.hops-requires-clause-covers
hops-requires-clause-covers g c = Covers-whole _ _
