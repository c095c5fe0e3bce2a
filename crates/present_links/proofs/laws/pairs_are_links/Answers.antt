use Rattle.present_links.proofs.Base.{pairs_are_links}
use Rattle.present_links.proofs.laws.pairs_are_links.Goals as goal

pub returns : goal.returns
returns c = pairs_are_links
