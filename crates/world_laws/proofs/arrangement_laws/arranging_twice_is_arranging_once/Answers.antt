use Rattle.world_laws.proofs.arrangement_laws.arranging_twice_is_arranging_once.Goals as goal
use Rattle.graph_model.specs.World.{event_cmp, arrange}
use Rattle.world_laws.proofs.Order.{event_total}
use Rattle.world_laws.proofs.InOrder.{in_order_already, IsInOrder-in_order}

pub returns-clause-again : goal.returns-clause-again
returns-clause-again c = λ xs. in_order_already event_cmp (arrange xs) (IsInOrder-in_order event_cmp event_total xs)

pub returns-clause-kept : goal.returns-clause-kept
returns-clause-kept c = in_order_already event_cmp
