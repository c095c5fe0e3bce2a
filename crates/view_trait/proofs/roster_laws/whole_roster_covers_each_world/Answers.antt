use Rattle.view_trait.proofs.Covered.{Covers-whole}
use Rattle.view_trait.proofs.roster_laws.whole_roster_covers_each_world.Goals as goal

pub returns : goal.returns
returns c = Covers-whole
