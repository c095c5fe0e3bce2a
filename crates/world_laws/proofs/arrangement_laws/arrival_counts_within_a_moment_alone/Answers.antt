use Rattle.world_laws.proofs.arrangement_laws.arrival_counts_within_a_moment_alone.Goals as goal
use Rattle.world_laws.proofs.Arrivals.{arranged_alike, base_alike}

pub returns-clause-base : goal.returns-clause-base
returns-clause-base c = base_alike

pub returns-clause-list : goal.returns-clause-list
returns-clause-list c = arranged_alike
