-- The events of a world, held by the numbers of their nodes and edges.
use Rattle.std.specs.Prelude.{ℕ, ℤ, ◌<◌, ◌≡◌, ◌+◌, ◌-◌, List, Bool, length, map, Option, slice_get}
use Rattle.std.specs.Option.{option_map}
use Rattle.std.specs.List.{filter, flat_map}
use Rattle.std.specs.declared.cmp.Ordering.{Ordering}
use Rattle.std.specs.Ordering.{int_cmp}
use Rattle.graph_model.specs.declared.events.Event.{Event}
use Rattle.graph_model.specs.Entity.{is_deletion}
use Rattle.graph_model.specs.World.{World, events_of}
use Rattle.time_history.specs.Kinds.{is_delete}
use Rattle.graph_store.specs.Contents.{Contents}
use Rattle.view_trait.specs.Extent.{events_of_edge, events_of_node}
use Rattle.view_trait.specs.Meaning.{node_at, edge_at}
use Rattle.view_lists.specs.declared.moments.Moment.{Moment}
use Rattle.event_sweep.specs.Held.{AreHeld}
use Rattle.event_sweep.specs.Swept.{TimesRise}
use Rattle.event_sweep.specs.declared.held_events.HeldEvent.{HeldEvent}

-- what is held of a time and a kind under a number
abbrev pub held_at : ℕ → Moment → HeldEvent
held_at n m = record { time = m.time; number = n; deletes = is_delete m.kind }

-- what is held of an event under a number, and of events
abbrev pub held_of : ℕ → Event → HeldEvent
held_of n x = record { time = x.time; number = n; deletes = is_deletion x }

abbrev pub held_under : ℕ → List Event → List HeldEvent
held_under n xs = map (held_of n) xs

-- what is held of the events of nodes, one node after another, and of edges
abbrev pub nodes_held : Contents → World → List ℕ → List HeldEvent
nodes_held c w ns = flat_map (λ n. held_under n (events_of_node c w n)) ns

abbrev pub edges_held : Contents → World → List ℕ → List HeldEvent
edges_held c w es = flat_map (λ e. held_under e (events_of_edge c w e)) es

-- held events compare by their times
abbrev pub time_cmp : HeldEvent → HeldEvent → Ordering
time_cmp x y = int_cmp x.time y.time

-- the time of the first held event, and of the last
abbrev pub first_held : List HeldEvent → Option ℤ
first_held xs = option_map (λ (x : HeldEvent). x.time) (slice_get xs 0)

abbrev pub last_held : List HeldEvent → Option ℤ
last_held xs = option_map (λ (x : HeldEvent). x.time) (slice_get xs (length xs - 1))

-- the events of each node and each edge are held under its number, in the order of time, and no others
pub record AreFilled (c : Contents) (w : World) (of_nodes of_edges : List HeldEvent) : Type 0 where
  pub node_times : TimesRise of_nodes
  pub edge_times : TimesRise of_edges
  pub nodes : (n : ℕ) → n < length c.nodes → AreHeld of_nodes n (events_of w (node_at c n))
  pub edges : (e : ℕ) → e < length c.edges → AreHeld of_edges e (events_of w (edge_at c e))
  pub as_many : (test : ℤ → Bool)
      → length (filter (λ (x : HeldEvent). test x.time) of_nodes)
      + length (filter (λ (x : HeldEvent). test x.time) of_edges)
      ≡ length (filter (λ (y : Event). test y.time) w.events)
