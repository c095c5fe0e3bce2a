use Rattle.view_trait.proofs.Covered.{Covers-whole}
use Rattle.test_views.proofs.walks.components_of.Goals as goal

pub out_component-requires-clause-covers : goal.out_component-requires-clause-covers
out_component-requires-clause-covers g c = Covers-whole _ _

pub in_component-requires-clause-covers : goal.in_component-requires-clause-covers
in_component-requires-clause-covers g c = Covers-whole _ _
