use Rattle.world_laws.proofs.arrangement_laws.late_event_goes_after_its_equals.Goals as goal
use Rattle.graph_model.specs.World.{event_cmp}
use Rattle.world_laws.proofs.Arrivals.{in_order-push}
use Rattle.world_laws.proofs.Order.{event_total}

pub returns : goal.returns
returns c = λ xs x. in_order-push event_cmp event_total x xs
