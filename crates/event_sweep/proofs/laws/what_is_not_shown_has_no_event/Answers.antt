use Rattle.event_sweep.proofs.Told.{not_shown}
use Rattle.event_sweep.proofs.laws.what_is_not_shown_has_no_event.Goals as goal

pub returns : goal.returns
returns c = λ w a b held n x lawful same h. not_shown w lawful a b held n x same h
