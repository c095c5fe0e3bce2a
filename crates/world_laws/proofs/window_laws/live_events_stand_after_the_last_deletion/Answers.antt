use Rattle.world_laws.proofs.window_laws.live_events_stand_after_the_last_deletion.Goals as goal
use Rattle.world_laws.proofs.Live.{live_after, live_all}

pub returns-clause-after : goal.returns-clause-after
returns-clause-after c = live_after

pub returns-clause-all : goal.returns-clause-all
returns-clause-all c = live_all
