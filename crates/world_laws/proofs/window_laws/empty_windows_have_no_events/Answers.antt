use Rattle.world_laws.proofs.window_laws.empty_windows_have_no_events.Goals as goal
use Rattle.graph_model.specs.Interval.{cut}
use Rattle.world_laws.proofs.Windows.{empty_window_list}

pub returns : goal.returns
returns c = λ w a b h. empty_window_list w.model (cut w.bounds a b) w.events h
