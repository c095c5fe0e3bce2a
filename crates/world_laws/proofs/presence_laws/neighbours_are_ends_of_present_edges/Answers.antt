use Rattle.world_laws.proofs.presence_laws.neighbours_are_ends_of_present_edges.Goals as goal
use Rattle.world_laws.proofs.Nodes.{neighbour_words, neighbours_inward, neighbours_both, neighbours_rise}

pub returns-clause-outward : goal.returns-clause-outward
returns-clause-outward c = neighbour_words

pub returns-clause-inward : goal.returns-clause-inward
returns-clause-inward c = neighbours_inward

pub returns-clause-both : goal.returns-clause-both
returns-clause-both c = neighbours_both

pub returns-clause-rise : goal.returns-clause-rise
returns-clause-rise c = neighbours_rise
