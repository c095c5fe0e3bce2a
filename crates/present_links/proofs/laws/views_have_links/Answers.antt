use Rattle.present_links.proofs.Views.{view_links, view_links_rising}
use Rattle.present_links.proofs.laws.views_have_links.Goals as goal

pub returns-clause-links : goal.returns-clause-links
returns-clause-links c = view_links

pub returns-clause-rising : goal.returns-clause-rising
returns-clause-rising c = view_links_rising
