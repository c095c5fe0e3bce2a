use Rattle.world_laws.proofs.arrangement_laws.arrangement_is_in_order.Goals as goal
use Rattle.graph_model.specs.World.{event_cmp}
use Rattle.world_laws.proofs.Order.{event_total}
use Rattle.world_laws.proofs.InOrder.{IsInOrder-in_order}

pub returns : goal.returns
returns c = IsInOrder-in_order event_cmp event_total
