use Rattle.world_laws.proofs.each_laws.ends_of_windows_are_bounds.Goals as goal
use Rattle.world_laws.proofs.Ends.{start_fits, end_fits}

pub returns-clause-begins : goal.returns-clause-begins
returns-clause-begins c = start_fits

pub returns-clause-ends : goal.returns-clause-ends
returns-clause-ends c = end_fits
