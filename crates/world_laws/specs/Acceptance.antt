-- Events as they arrive.
use Rattle.std.specs.Prelude.{ℕ, ℤ, List, ◌≡◌, IsTrue, int_le}
use Rattle.std.specs.List.{filter, list_all, AllByRecursion}
use Rattle.graph_model.specs.declared.events.Entity.{Entity}
use Rattle.graph_model.specs.declared.events.Event.{Event}
use Rattle.graph_model.specs.declared.events.Model.{Model}
use Rattle.graph_model.specs.Props.{KeysRise}
use Rattle.graph_model.specs.Rising.{Rises}
use Rattle.graph_model.specs.Interval.{Interval, is_inside}
use Rattle.graph_model.specs.Entity.{is_at, props_of}
use Rattle.graph_model.specs.World.{type_cmp, allows, all_typed}

-- two lists have the same events of each entity at each moment and of each order, in one succession
abbrev pub ArriveAlike : List Event → List Event → Type 0
ArriveAlike xs ys = (k : Entity × ℤ × ℕ) → filter (is_at k) xs ≡ filter (is_at k) ys

-- events and types that a graph of a model takes, in the order of their arrival
pub record AreAccepted (model : Model) (bounds : Interval) (types : List (List ℕ × List ℕ)) (xs : List Event) : Type 0 where
  -- the bounds are in order
  pub in_order : IsTrue (int_le bounds.lo bounds.hi)
  -- each time is inside the bounds
  pub inside : IsTrue (list_all (λ x. is_inside bounds x.time) xs)
  -- the event model has no deletion
  pub allowed : IsTrue (list_all (allows model) xs)
  -- the properties of each event rise by key
  pub rising : AllByRecursion (λ x. KeysRise (props_of x)) xs
  -- each key has values of one type among node events, and among edge events
  pub typed : IsTrue (all_typed xs)
  -- types rise strictly by node
  pub types_rise : Rises type_cmp types
