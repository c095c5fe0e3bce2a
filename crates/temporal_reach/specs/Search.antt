-- A search for the earliest arrivals: which nodes are settled, and which edges may be taken next.
use Rattle.std.specs.Prelude.{ℕ, ℤ, List, None, Some, true, length}
use Rattle.std.specs.Prelude.{◌≡◌, ◌⊎◌, ◌<◌, ◌<ℤ◌, ◌≤ℤ◌}
use Rattle.std.specs.List.{Contains}
use Rattle.graph_model.specs.World.{World}
use Rattle.graph_model.specs.Presence.{IsContact}
use Rattle.graph_model.specs.Journey.{IsReached}
use Rattle.graph_model.specs.Keep.{is_named}
use Rattle.graph_store.specs.declared.walks.EdgeId.{EdgeId}
use Rattle.graph_store.specs.EdgeParts.{parts_at}
use Rattle.graph_store.specs.Contents.{Contents, name_at}
use Rattle.view_trait.specs.Meaning.{edge_named}
use Rattle.view_trait.specs.Numbered.{is_listed}
use Rattle.temporal_reach.specs.declared.reach_table.Reached.{Reached}
use Rattle.temporal_reach.specs.declared.reach_table.Reached.TheVariants.{Start, Moment}
use Rattle.temporal_reach.specs.Reaching.{reached_at}
use Rattle.temporal_reach.specs.Offers.{IsOffered}

-- a node may be left at a moment: it is a seed, and the start is not later, or a journey arrives
-- there earlier
abbrev pub MayLeave : List (ℕ × Reached) → ℤ → ℕ → ℤ → Type 0
MayLeave table start n t =
    ((reached_at table n ≡ Some Start) × (start ≤ℤ t))
    ⊎ ((m : ℤ) × ((by : EdgeId) × (reached_at table n ≡ Some (Moment m by)) × (m <ℤ t)))

-- an edge may be taken at a moment
pub record IsStep (c : Contents) (w : World) (table : List (ℕ × Reached)) (start : ℤ) (e : ℕ)
    (t : ℤ) : Type 0 where
  pub exists : e < length c.edges
  pub contact : IsContact w (edge_named c e) t
  pub from : MayLeave table start (parts_at c.edges e).src t

-- a node is settled no later than a moment
abbrev pub IsSettledBy : List (ℕ × Reached) → ℕ → ℤ → Type 0
IsSettledBy table n t =
    (reached_at table n ≡ Some Start)
    ⊎ ((m : ℤ) × ((by : EdgeId) × (reached_at table n ≡ Some (Moment m by)) × (m ≤ℤ t)))

-- what is known and what is offered, while nodes are settled by rising moments, where journeys start
-- at the nodes of some names
pub record IsSearch (c : Contents) (w : World) (names : List (List ℕ)) (start : ℤ)
    (table : List (ℕ × Reached)) (offers : List (ℤ × ℕ)) : Type 0 where
  -- only nodes of the store are reached
  pub within : (n : ℕ) (r : Reached) → reached_at table n ≡ Some r → n < length c.nodes
  -- the seeds, and no other node, are reached at the start
  pub seeded : (n : ℕ) → reached_at table n ≡ Some Start → is_named names (name_at c.nodes n) ≡ true
  pub started : (n : ℕ) → n < length c.nodes → is_named names (name_at c.nodes n) ≡ true
      → reached_at table n ≡ Some Start
  -- a settled node is reached at its moment, by its edge
  pub certified : (n : ℕ) (m : ℤ) (by : EdgeId) → reached_at table n ≡ Some (Moment m by)
      → IsStep c w table start by.0 m × ((parts_at c.edges by.0).dst ≡ n)
  pub reached : (n : ℕ) (m : ℤ) (by : EdgeId) → reached_at table n ≡ Some (Moment m by)
      → IsReached w names start (name_at c.nodes n) m
  -- what is offered may be taken, and not before the moment of a settled node
  pub offered : (x : ℤ × ℕ) → Contains offers x → IsStep c w table start x.1 x.0
  pub rising : (n : ℕ) (m : ℤ) (by : EdgeId) (x : ℤ × ℕ) → reached_at table n ≡ Some (Moment m by)
      → Contains offers x → m ≤ℤ x.0
  -- each step that may be taken leads to a node that is settled no later, or is offered no later
  pub followed : (e : ℕ) (t : ℤ) → IsStep c w table start e t
      → IsSettledBy table (parts_at c.edges e).dst t ⊎ IsOffered offers e t

-- what is known and what is offered while nothing is known but the seeds
pub record IsBegun (c : Contents) (w : World) (seeds : List ℕ) (start : ℤ)
    (table : List (ℕ × Reached)) (offers : List (ℤ × ℕ)) : Type 0 where
  -- only nodes of the store are reached
  pub within : (n : ℕ) (r : Reached) → reached_at table n ≡ Some r → n < length c.nodes
  pub fresh : (n : ℕ) (m : ℤ) (by : EdgeId) → reached_at table n ≡ Some (Moment m by) → ⊥
  pub seeded : (n : ℕ) → reached_at table n ≡ Some Start → is_listed seeds n ≡ true
  pub started : (n : ℕ) → n < length c.nodes → is_listed seeds n ≡ true
      → reached_at table n ≡ Some Start
  pub offered : (x : ℤ × ℕ) → Contains offers x → IsStep c w table start x.1 x.0
  pub followed : (e : ℕ) (t : ℤ) → IsStep c w table start e t
      → IsSettledBy table (parts_at c.edges e).dst t ⊎ IsOffered offers e t

-- an offer that leads to a node that is not reached yet, of least moment among those that do and
-- are left
pub record IsFirstNew (c : Contents) (table : List (ℕ × Reached)) (old new : List (ℤ × ℕ)) (m : ℤ)
    (e n : ℕ) : Type 0 where
  pub among : Contains old (m, e)
  pub node : (parts_at c.edges e).dst ≡ n
  pub unreached : reached_at table n ≡ None
  pub kept : (y : ℤ × ℕ) → Contains new y → Contains old y × (m ≤ℤ y.0)
  -- the others are left, or lead to a node that is reached
  pub rest : (y : ℤ × ℕ) → Contains old y
      → (Contains new y ⊎ (y ≡ (m, e))) ⊎ (reached_at table (parts_at c.edges y.1).dst ≡ None → ⊥)

-- each offer leads to a node that is reached
abbrev pub AreKnown : Contents → List (ℕ × Reached) → List (ℤ × ℕ) → Type 0
AreKnown c table offers =
    (y : ℤ × ℕ) → Contains offers y → reached_at table (parts_at c.edges y.1).dst ≡ None → ⊥
