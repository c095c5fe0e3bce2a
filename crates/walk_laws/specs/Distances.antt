-- Distances from a node, by numbers.
use Rattle.std.specs.Prelude.{ℕ, List, length}
use Rattle.std.specs.List.{All, Contains}
use Rattle.graph_model.specs.declared.queries.Direction.{Direction}
use Rattle.graph_model.specs.World.{World}
use Rattle.graph_model.specs.Walk.{Reaches, IsDistance}
use Rattle.graph_model.specs.Answer.{Row, NumberRow}
use Rattle.node_visits.specs.declared.visited.Visit.{Visit}
use Rattle.node_visits.specs.Visits.{AreVisits}
use Rattle.walk_laws.specs.Numbers.{name_of, names_of}

-- a visit marked with the distance of its node
abbrev pub HasDistance : World → List (List ℕ) → Direction → ℕ → Visit → Type 0
HasDistance w nodes d start v = IsDistance w d (name_of nodes start) (name_of nodes v.node) v.mark

-- one visit of each node to which a walk leads, marked with its distance
pub record AreDistances
    (w : World) (nodes : List (List ℕ)) (d : Direction) (start : ℕ) (visits : List Visit) : Type 0 where
  pub different : AreVisits (length nodes) visits
  pub least : All (HasDistance w nodes d start) visits
  pub all : (name : List ℕ)
      → Reaches w d (name_of nodes start) name
      → Contains (names_of nodes visits) name

-- the row of the name of a visited node, with its mark
abbrev pub number_row : List (List ℕ) → Visit → Row
number_row nodes v = NumberRow (name_of nodes v.node) v.mark
