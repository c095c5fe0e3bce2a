use Rattle.world_laws.proofs.arrangement_laws.late_event_goes_into_its_history.Goals as goal
use Rattle.world_laws.proofs.Arrivals.{about-push}

pub returns : goal.returns
returns c = about-push
