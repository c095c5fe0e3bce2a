use Rattle.walk_algorithms.proofs.Paired.{none_far_links}
use Rattle.walk_algorithms.proofs.link_ways.next_leads_back.Goals as goal

pub returns-then-i-links-clause-far : goal.returns-then-i-links-clause-far
returns-then-i-links-clause-far c = none_far_links c.args.links.now c.requires.paired c.args.i c.if-i-links.true c.leads_back.result c.leads_back.ensures.back c.leads_back.ensures.shared
