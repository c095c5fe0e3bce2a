-- Worlds within the limits.
use Rattle.std.specs.Prelude.{ℕ, List, ◌≤◌}
use Rattle.graph_model.specs.declared.events.Event.{Event}
use Rattle.graph_model.specs.Accepting.{Quantity, count_of, limit_of}
use Rattle.graph_model.specs.World.{World, IsLawful}

-- events and types of which there is no more of anything than a graph may have
abbrev pub AreWithinLimits : List Event → List (List ℕ × List ℕ) → Type 0
AreWithinLimits xs types = (counted : Quantity) → count_of counted xs types ≤ limit_of counted

-- a lawful world that a graph has room for
pub record IsStorable (w : World) : Type 0 where
  pub lawful : IsLawful w
  pub limits : AreWithinLimits w.events w.types
