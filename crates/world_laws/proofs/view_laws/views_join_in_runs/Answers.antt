use Rattle.world_laws.proofs.view_laws.views_join_in_runs.Goals as goal
use Rattle.world_laws.proofs.NodeTypes.{types_in_run}
use Rattle.world_laws.proofs.Runs.{run_with_window, run_with_test}

pub returns-clause-windows : goal.returns-clause-windows
returns-clause-windows c = run_with_window

pub returns-clause-tests : goal.returns-clause-tests
returns-clause-tests c = run_with_test

pub returns-clause-types : goal.returns-clause-types
returns-clause-types c = types_in_run
