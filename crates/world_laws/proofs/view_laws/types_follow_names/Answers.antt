use Rattle.world_laws.proofs.view_laws.types_follow_names.Goals as goal
use Rattle.std.proofs.Common.{refl}
use Rattle.graph_model.specs.Interval.{cut}
use Rattle.graph_model.specs.Entity.{entity_of}
use Rattle.world_laws.proofs.Named.{names_node-window_list, names_node-filter, among_types_same}

pub returns-clause-window : goal.returns-clause-window
returns-clause-window c = λ w a b. refl

pub returns-clause-keep : goal.returns-clause-keep
returns-clause-keep c = λ w p. refl

pub returns-clause-window_names : goal.returns-clause-window_names
returns-clause-window_names c = λ w a b node. names_node-window_list w.model (cut w.bounds a b) w.events node

pub returns-clause-keep_names : goal.returns-clause-keep_names
returns-clause-keep_names c = λ w p node. names_node-filter (λ x. p (entity_of x)) w.events node

pub returns-clause-same : goal.returns-clause-same
returns-clause-same c = among_types_same
