use Rattle.world_laws.proofs.arrangement_laws.arrangement_has_the_same_events.Goals as goal
use Rattle.graph_model.specs.World.{event_cmp}
use Rattle.world_laws.proofs.Arranged.{in_order_permutes}

pub returns : goal.returns
returns c = in_order_permutes event_cmp
