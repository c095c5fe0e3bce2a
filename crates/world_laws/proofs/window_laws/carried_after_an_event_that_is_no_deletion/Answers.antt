use Rattle.world_laws.proofs.window_laws.carried_after_an_event_that_is_no_deletion.Goals as goal
use Rattle.std.proofs.Common.{ap, refl, []}
use Rattle.graph_model.specs.Window.{carried_events}
use Rattle.world_laws.proofs.Live.{live_after, carried_after}

pub returns-clause-deleted : goal.returns-clause-deleted
returns-clause-deleted c = λ lo xs x h. ap (carried_events lo) (live_after xs x [] h refl)

pub returns-clause-carried : goal.returns-clause-carried
returns-clause-carried c = carried_after
