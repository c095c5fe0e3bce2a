use Rattle.present_links.proofs.Neighbours.{count_both, count_in, count_out}
use Rattle.present_links.proofs.laws.links_count_neighbours.Goals as goal

pub returns-clause-outward : goal.returns-clause-outward
returns-clause-outward c = count_out

pub returns-clause-inward : goal.returns-clause-inward
returns-clause-inward c = count_in

pub returns-clause-both : goal.returns-clause-both
returns-clause-both c = count_both
