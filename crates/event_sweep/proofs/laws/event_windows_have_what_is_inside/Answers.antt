use Rattle.event_sweep.proofs.Told.{events_inside}
use Rattle.event_sweep.proofs.laws.event_windows_have_what_is_inside.Goals as goal

pub returns : goal.returns
returns c = λ w a b lawful e. events_inside w lawful a b e
