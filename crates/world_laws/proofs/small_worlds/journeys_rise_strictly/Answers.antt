use Rattle.world_laws.proofs.small_worlds.journeys_rise_strictly.Goals as goal
use Rattle.std.proofs.Common.{refl, pos, [], ◌∷◌, arith}
use Rattle.std.proofs.lemmas.Int.{ints}
use Rattle.graph_model.specs.declared.events.Model.{Model}
use Rattle.graph_model.specs.declared.events.Model.TheVariants.{Event as Instants, Persistent}
use Rattle.graph_model.specs.Journey.{IsArrival}
use Rattle.world_laws.specs.Examples.{a, b, edge_in_l, chain}
use Rattle.world_laws.proofs.Earliest.{reached_later_than_start}
use Rattle.world_laws.proofs.Journeys.{arrival_b, c_is_not_reached, arrival_c}

pub returns-clause-first : goal.returns-clause-first
returns-clause-first c = arrival_b

pub returns-clause-instants : goal.returns-clause-instants
returns-clause-instants c = c_is_not_reached

pub returns-clause-persistent : goal.returns-clause-persistent
returns-clause-persistent c = arrival_c

arrival_at_start : (model : Model) → IsArrival (chain model) (a ∷ []) (pos 1) b (pos 1)
arrival_at_start Instants = (
  (a, refl, ((edge_in_l a b, pos 1) ∷ [], (record { leaves = refl; contact = refl; in_time = omega (arith, ints) }, (refl, refl)))),
  λ other r. reached_later_than_start (chain Instants) (a ∷ []) (pos 1) b other r,
)
arrival_at_start Persistent = (
  (a, refl, ((edge_in_l a b, pos 1) ∷ [], (record { leaves = refl; contact = refl; in_time = omega (arith, ints) }, (refl, refl)))),
  λ other r. reached_later_than_start (chain Persistent) (a ∷ []) (pos 1) b other r,
)

pub returns-clause-at_start : goal.returns-clause-at_start
returns-clause-at_start c = arrival_at_start
