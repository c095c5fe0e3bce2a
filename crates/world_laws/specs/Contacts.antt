-- Ends of edges, and edges that are alive at some moment.
use Rattle.std.specs.Prelude.{ℕ, ℤ, List, ◌≡◌, ◌⊎◌}
use Rattle.graph_model.specs.declared.events.EdgeName.{EdgeName}
use Rattle.graph_model.specs.World.{World}
use Rattle.graph_model.specs.Presence.{IsContact}

-- an edge has a contact
abbrev pub HasContact : World → EdgeName → Type 0
HasContact w edge = (m : ℤ) × IsContact w edge m

-- a node is the source or the destination of an edge
abbrev pub IsEnd : List ℕ → EdgeName → Type 0
IsEnd node edge = (edge.src ≡ node) ⊎ (edge.dst ≡ node)
