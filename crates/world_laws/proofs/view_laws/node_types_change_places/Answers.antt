use Rattle.world_laws.proofs.view_laws.node_types_change_places.Goals as goal
use Rattle.world_laws.proofs.NodeTypes.{types_and_window, types_and_test, types_joined}

pub returns-clause-window : goal.returns-clause-window
returns-clause-window c = types_and_window

pub returns-clause-places : goal.returns-clause-places
returns-clause-places c = types_and_test

pub returns-clause-merged : goal.returns-clause-merged
returns-clause-merged c = types_joined
