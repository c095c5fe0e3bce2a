use Rattle.world_laws.proofs.arrangement_laws.equal_events_stand_as_they_arrived.Goals as goal
use Rattle.graph_model.specs.World.{event_cmp}
use Rattle.world_laws.proofs.Order.{event_total}
use Rattle.world_laws.proofs.Arranged.{in_order_stable}

pub returns : goal.returns
returns c = in_order_stable event_cmp event_total
