-- What is true of the events that a store has accepted.
use Rattle.std.specs.Prelude.{ℕ, List, true, ◌≡◌, Some}
use Rattle.std.specs.List.{AllByRecursion}
use Rattle.graph_model.specs.declared.properties.Value.{Value}
use Rattle.graph_model.specs.declared.events.Event.{Event}
use Rattle.graph_model.specs.declared.events.Model.{Model}
use Rattle.graph_model.specs.Interval.{Interval, is_inside}
use Rattle.graph_model.specs.Props.{KeysRise}
use Rattle.graph_model.specs.ValueKind.{value_type}
use Rattle.graph_model.specs.Entity.{props_of}
use Rattle.graph_model.specs.World.{allows}
use Rattle.graph_model.specs.Accepting.{alike, kept_type}

-- each value that an event sets has the type that events keep for its key
abbrev pub KeepsTypes : List Event → Event → Type 0
KeepsTypes xs x = AllByRecursion (λ (p : List ℕ × Value). kept_type (alike x xs) p.0 ≡ Some (value_type p.1)) (props_of x)

-- events that a model allows, inside bounds, whose properties rise by key and keep their types
pub record AreJudged (model : Model) (bounds : Interval) (xs : List Event) : Type 0 where
  pub inside : AllByRecursion (λ (x : Event). is_inside bounds x.time ≡ true) xs
  pub allowed : AllByRecursion (λ (x : Event). allows model x ≡ true) xs
  pub rising : AllByRecursion (λ (x : Event). KeysRise (props_of x)) xs
  pub typed : AllByRecursion (KeepsTypes xs) xs
