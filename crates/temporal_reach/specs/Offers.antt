-- Edges that may be taken, each at a moment.
use Rattle.std.specs.Prelude.{ℕ, ℤ, List, None, ◌≡◌, ◌⊎◌, ◌<◌, ◌<ℤ◌, ◌≤ℤ◌, length}
use Rattle.std.specs.List.{Contains}
use Rattle.graph_model.specs.World.{World}
use Rattle.graph_model.specs.Presence.{IsContact}
use Rattle.graph_store.specs.EdgeParts.{parts_at}
use Rattle.graph_store.specs.Contents.{Contents}
use Rattle.view_trait.specs.Meaning.{edge_named}
use Rattle.temporal_reach.specs.declared.reach_table.Reached.{Reached}
use Rattle.temporal_reach.specs.Reaching.{reached_at}

-- an edge that begins at a node
abbrev pub Leaves : Contents → ℕ → ℕ → Type 0
Leaves c n e = (e < length c.edges) × ((parts_at c.edges e).src ≡ n)

-- an edge that leads to a node of which nothing is known
abbrev pub LeadsAnew : Contents → List (ℕ × Reached) → ℕ → Type 0
LeadsAnew c table e = reached_at table (parts_at c.edges e).dst ≡ None

-- an edge from a node to one of which nothing is known
abbrev pub LeavesAnew : Contents → List (ℕ × Reached) → ℕ → ℕ → Type 0
LeavesAnew c table n e = Leaves c n e × LeadsAnew c table e

-- an edge, with a contact later than a moment
pub record IsOffer (c : Contents) (w : World) (after : ℤ) (x : ℤ × ℕ) : Type 0 where
  pub contact : IsContact w (edge_named c x.1) x.0
  pub later : after <ℤ x.0

-- an edge is offered at a contact that is not later than a moment
abbrev pub IsOffered : List (ℤ × ℕ) → ℕ → ℤ → Type 0
IsOffered offers e t = (m : ℤ) × Contains offers (m, e) × (m ≤ℤ t)

-- to what was offered, edges were added at contacts later than a moment, each at its least one if
-- it has one; some may be left
pub record AreOffered (c : Contents) (w : World) (after : ℤ) (all left : ℕ → Type 0)
    (old new : List (ℤ × ℕ)) : Type 0 where
  pub kept : (x : ℤ × ℕ) → Contains old x → Contains new x
  pub added : (x : ℤ × ℕ) → Contains new x → Contains old x ⊎ (all x.1 × IsOffer c w after x)
  pub each : (e : ℕ) (t : ℤ) → all e → after <ℤ t → IsContact w (edge_named c e) t
      → left e ⊎ IsOffered new e t
