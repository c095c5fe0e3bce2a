use Rattle.present_links.proofs.Shown.{shown_are_links}
use Rattle.present_links.proofs.laws.shown_pairs_are_links.Goals as goal

pub returns : goal.returns
returns c = shown_are_links
