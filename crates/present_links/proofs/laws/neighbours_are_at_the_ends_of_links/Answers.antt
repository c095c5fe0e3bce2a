use Rattle.present_links.proofs.Neighbours.{names_both, names_inward, names_outward}
use Rattle.present_links.proofs.laws.neighbours_are_at_the_ends_of_links.Goals as goal

pub returns-clause-outward : goal.returns-clause-outward
returns-clause-outward c = names_outward

pub returns-clause-inward : goal.returns-clause-inward
returns-clause-inward c = names_inward

pub returns-clause-both : goal.returns-clause-both
returns-clause-both c = names_both
