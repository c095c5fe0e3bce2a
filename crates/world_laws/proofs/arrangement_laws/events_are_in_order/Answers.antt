use Rattle.world_laws.proofs.arrangement_laws.events_are_in_order.Goals as goal
use Rattle.std.proofs.Common.{ap, ◌∙◌}
use Rattle.std.specs.Ordering.{ordering_then, nat_cmp, int_cmp}
use Rattle.graph_model.specs.Entity.{entity_of, entity_cmp}
use Rattle.world_laws.proofs.Order.{event_total, then_first}
use Rattle.world_laws.proofs.Clipped.{earlier_first}

pub returns-clause-total : goal.returns-clause-total
returns-clause-total c = event_total

pub returns-clause-time_first : goal.returns-clause-time_first
returns-clause-time_first c = λ x y h. then_first (int_cmp x.time y.time) _ h

pub returns-clause-entity_next : goal.returns-clause-entity_next
returns-clause-entity_next c = λ x y e h. ap (λ o. ordering_then o (ordering_then (entity_cmp (entity_of x) (entity_of y)) (nat_cmp x.order y.order))) e ∙ then_first (entity_cmp (entity_of x) (entity_of y)) _ h

pub returns-clause-carried_first : goal.returns-clause-carried_first
returns-clause-carried_first c = earlier_first
