-- The contacts of an edge, one after another.
use Rattle.std.specs.Prelude.{ℤ, ◌<ℤ◌, ◌≤ℤ◌, Option, None, Some}
use Rattle.graph_model.specs.declared.events.EdgeName.{EdgeName}
use Rattle.graph_model.specs.World.{World}
use Rattle.graph_model.specs.Presence.{IsContact}

-- the least contact of an edge in a world that is later than a moment, or nothing where none is
abbrev pub IsContactAfter : World → EdgeName → ℤ → Option ℤ → Type 0
IsContactAfter w edge after None = (t : ℤ) → after <ℤ t → IsContact w edge t → ⊥
IsContactAfter w edge after (Some m) =
    (after <ℤ m) × IsContact w edge m
    × ((t : ℤ) → after <ℤ t → IsContact w edge t → m ≤ℤ t)
