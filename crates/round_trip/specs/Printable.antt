-- Worlds that are printed as rows and read again.
use Rattle.std.specs.Prelude.{ℕ, List, IsTrue}
use Rattle.std.specs.List.{AllByRecursion}
use Rattle.graph_model.specs.World.{World}
use Rattle.graph_model.specs.declared.events.Model.{Model}
use Rattle.graph_model.specs.declared.queries.Query.{Query}
use Rattle.graph_model.specs.Reading.{base_world}
use Rattle.graph_model.specs.Stack.{apply}
use Rattle.graph_model.specs.Windows.{windows}
use Rattle.world_laws.specs.Storable.{IsStorable}
use Rattle.event_rows.specs.Sayable.{IsSayable, IsSayableType, are_bounds}

-- a world that can be printed: one that is read again from its rows
pub record IsPrintable (w : World) : Type 0 where
  -- it is lawful, and there is no more of anything than an events file may have
  pub storable : IsStorable w
  -- the bounds are in range
  pub bounds : IsTrue (are_bounds w.bounds)
  -- rows can say its types and its events
  pub types : AllByRecursion IsSayableType w.types
  pub events : AllByRecursion (IsSayable w.bounds) w.events

-- the worlds that a query leaves of an events file: what its views show of the base world, or the
-- windows of that
abbrev pub worlds_left : Model → List ℕ → Query → List World
worlds_left model bytes query = windows (apply query.views (base_world model bytes)) query.each
