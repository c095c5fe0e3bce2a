use Rattle.world_laws.proofs.view_laws.ends_of_views_are_bounds.Goals as goal
use Rattle.world_laws.proofs.Ends.{ends_of_window}

pub returns-clause-windows : goal.returns-clause-windows
returns-clause-windows c = ends_of_window
