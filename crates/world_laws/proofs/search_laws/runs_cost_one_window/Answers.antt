use Rattle.world_laws.proofs.search_laws.runs_cost_one_window.Goals as goal
use Rattle.world_laws.proofs.Fused.{nothing_added, one_window_added, run_ends, run_ends_at_nodes}

pub returns-clause-without : goal.returns-clause-without
returns-clause-without c = nothing_added

pub returns-clause-windows : goal.returns-clause-windows
returns-clause-windows c = one_window_added

pub returns-clause-node_filter : goal.returns-clause-node_filter
returns-clause-node_filter c = run_ends_at_nodes

pub returns-clause-other_filter : goal.returns-clause-other_filter
returns-clause-other_filter c = run_ends
