use Rattle.view_trait.proofs.Covered.{Covers-window}
use Rattle.view_trait.proofs.roster_laws.windows_are_covered.Goals as goal

pub returns : goal.returns
returns c = Covers-window
