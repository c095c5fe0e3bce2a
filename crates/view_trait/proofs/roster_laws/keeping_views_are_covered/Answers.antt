use Rattle.view_trait.proofs.Covered.{Covers-keep}
use Rattle.view_trait.proofs.roster_laws.keeping_views_are_covered.Goals as goal

pub returns : goal.returns
returns c = Covers-keep
