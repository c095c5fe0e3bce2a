-- Events files that differ in the order of arrival alone.
use Rattle.std.specs.Prelude.{◌≡◌, ℕ, List, []}
use Rattle.graph_model.specs.declared.events.Model.{Model}
use Rattle.graph_model.specs.Reading.{Reading, reading}
use Rattle.world_laws.specs.Acceptance.{ArriveAlike}

-- two readings have the same but for the order of arrival, and nothing is refused in either
pub record ReadAlike (one other : Reading) : Type 0 where
  -- the bounds are equal
  pub bounds : one.bounds ≡ other.bounds
  -- so are the types of nodes
  pub types : one.types ≡ other.types
  -- no record of the one is refused
  pub unrefused : one.refused ≡ []
  -- nor of the other
  pub other_unrefused : other.refused ≡ []
  -- of each entity, time and order the same events are accepted, in one succession
  pub arrive : ArriveAlike one.accepted other.accepted

-- two events files say the same under a model, but for the order of arrival
abbrev pub SayAlike : Model → List ℕ → List ℕ → Type 0
SayAlike model one other = ReadAlike (reading model one) (reading model other)
