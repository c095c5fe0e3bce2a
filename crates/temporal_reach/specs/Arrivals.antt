-- What is answered of nodes, and by which edges journeys arrive.
use Rattle.std.specs.Prelude.{ℕ, ℤ, List, Bool, Option, None, Some, ◌≡◌, ◌⊎◌, ◌<◌, ◌<ℤ◌, ◌≤ℤ◌}
use Rattle.std.specs.Prelude.{⊤, IsTrue, is_some, length, if◌then◌else◌}
use Rattle.graph_model.specs.declared.events.EdgeName.{EdgeName}
use Rattle.graph_model.specs.World.{World}
use Rattle.graph_model.specs.Presence.{IsContact, node_present}
use Rattle.graph_model.specs.Keep.{is_named}
use Rattle.graph_model.specs.Journey.{IsArrival}
use Rattle.graph_model.specs.Answer.{Row, SeedRow, ArrivalRow}
use Rattle.graph_store.specs.Contents.{Contents, name_at}
use Rattle.view_trait.specs.Drawn.{Selects}
use Rattle.view_trait.specs.Meaning.{edge_named}
use Rattle.view_trait.specs.Numbered.{is_listed}
use Rattle.temporal_reach.specs.declared.arrivals.Arrival.{Arrival}
use Rattle.temporal_reach.specs.declared.arrivals.NamedArrival.{NamedArrival}
use Rattle.temporal_reach.specs.declared.reach_table.Reached.{Reached}
use Rattle.temporal_reach.specs.declared.reach_table.Reached.TheVariants.{Start, Moment}
use Rattle.temporal_reach.specs.Reaching.{reached_at}

-- names of which a store has those of the nodes with some numbers
abbrev pub AreSeeds : Contents → List ℕ → List (List ℕ) → Type 0
AreSeeds c seeds names = Selects c.nodes names (is_listed seeds)

-- the row of a node that is reached: a seed, or the moment of its arrival
abbrev pub reached_row : List ℕ → Reached → Row
reached_row name Start = SeedRow name
reached_row name (Moment moment by) = ArrivalRow name moment

-- the row of a node by its number
abbrev pub arrival_row : Contents → Arrival → Row
arrival_row c a = reached_row (name_at c.nodes a.node.0) a.reached

-- an edge by which a journey arrives at a node at a moment, at the earliest: it leads there, has a
-- contact then, not before the start, and leaves a seed, or a node with an earlier arrival
pub record ArrivesBy (w : World) (seeds : List (List ℕ)) (start : ℤ) (edge : EdgeName)
    (node : List ℕ) (moment : ℤ) : Type 0 where
  pub leads : edge.dst ≡ node
  pub contact : IsContact w edge moment
  pub in_time : start ≤ℤ moment
  pub leaves : IsTrue (is_named seeds edge.src)
      ⊎ ((earlier : ℤ) × IsArrival w seeds start edge.src earlier × (earlier <ℤ moment))

-- a node that is no seed is reached by the edge of a store's number
abbrev pub IsReachedBy : Contents → World → List (List ℕ) → ℤ → List ℕ → Reached → Type 0
IsReachedBy c w seeds start node Start = ⊤
IsReachedBy c w seeds start node (Moment moment by) =
    (by.0 < length c.edges) × ArrivesBy w seeds start (edge_named c by.0) node moment

-- the edge that an arrival names
abbrev pub NamesEdge : Contents → World → List (List ℕ) → ℤ → Arrival → Type 0
NamesEdge c w seeds start a = IsReachedBy c w seeds start (name_at c.nodes a.node.0) a.reached

-- of reached nodes those are answered where a journey arrives, and of the seeds the present ones
abbrev pub shown_reached : Bool → Option Reached → Option Reached
shown_reached present None = None
shown_reached present (Some Start) = if present then Some Start else None
shown_reached present (Some (Moment moment by)) = Some (Moment moment by)

-- what is answered of the node of a number, if it is
abbrev pub answer_of : Contents → World → List (ℕ × Reached) → ℕ → Option Reached
answer_of c w table n = shown_reached (node_present w (name_at c.nodes n)) (reached_at table n)

-- whether it is
abbrev pub is_answered : Contents → World → List (ℕ × Reached) → ℕ → Bool
is_answered c w table n = is_some (answer_of c w table n)

-- an arrival that is answered, with its node's name
pub record IsNamedArrival (c : Contents) (w : World) (table : List (ℕ × Reached))
    (x : NamedArrival) : Type 0 where
  pub within : x.arrival.node.0 < length c.nodes
  pub name : name_at c.nodes x.arrival.node.0 ≡ x.name.now
  pub answer : answer_of c w table x.arrival.node.0 ≡ Some x.arrival.reached
