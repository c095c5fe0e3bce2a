-- A sweep over a world, and what it lists of a window.
use Rattle.std.specs.Prelude.{ℕ, ℤ, ◌<◌, ◌≡◌, List, [], Option, false, length}
use Rattle.graph_model.specs.World.{World, events_of}
use Rattle.graph_store.specs.Contents.{Contents}
use Rattle.view_trait.specs.Extent.{time_of_first, time_of_last}
use Rattle.view_trait.specs.Meaning.{node_at, edge_at}
use Rattle.view_trait.specs.Numbered.{is_listed}
use Rattle.event_sweep.specs.Held.{additions_last}
use Rattle.event_sweep.specs.Swept.{Swept}
use Rattle.window_sweep.specs.Filling.{AreFilled}

-- events of nodes and of edges, the numbers of the nodes and edges that are listed, and the first and
-- the last time
pub record WindowSwept : Type 0 where
  pub nodes : Swept
  pub edges : Swept
  pub node_list : List ℕ
  pub edge_list : List ℕ
  pub first : Option ℤ
  pub last : Option ℤ

-- a sweep holds the events of a world with its first and last time, and carries what lasts under its
-- model
pub record IsOver (c : Contents) (w : World) (s : WindowSwept) : Type 0 where
  pub node_model : s.nodes.carries ≡ additions_last w.model
  pub edge_model : s.edges.carries ≡ additions_last w.model
  pub filled : AreFilled c w s.nodes.held s.edges.held
  pub first : s.first ≡ time_of_first w.events
  pub last : s.last ≡ time_of_last w.events

-- each node and each edge that has an event in a world is listed
pub record AreOn (c : Contents) (w : World) (s : WindowSwept) : Type 0 where
  pub nodes : (n : ℕ) → n < length c.nodes → is_listed s.node_list n ≡ false
      → events_of w (node_at c n) ≡ []
  pub edges : (e : ℕ) → e < length c.edges → is_listed s.edge_list e ≡ false
      → events_of w (edge_at c e) ≡ []
