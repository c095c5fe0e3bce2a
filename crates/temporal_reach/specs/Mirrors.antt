-- Timelines that hold the events of a store: a row for each event.
use Rattle.std.specs.Prelude.{ℕ, ℤ, List, map, length, nat_lt, ◌==◌, ◌≡◌, ◌<◌, ◌⊎◌}
use Rattle.std.specs.List.{All, filter}
use Rattle.std.specs.Ordering.{int_cmp}
use Rattle.graph_model.specs.declared.events.Entity.{Entity}
use Rattle.graph_model.specs.declared.events.Event.{Event}
use Rattle.graph_model.specs.Rising.{in_order}
use Rattle.graph_model.specs.World.{events_of}
use Rattle.graph_store.specs.Contents.{Contents, base_of}
use Rattle.graph_store.specs.EdgeParts.{parts_at}
use Rattle.view_trait.specs.Meaning.{node_at, edge_at}
use Rattle.lane_scan.specs.declared.hits.Hit.{Hit}

-- a row of an update of a node of a store, or of an edge of it in the edge's layer
abbrev pub IsRowOf : Contents → Hit → Type 0
IsRowOf c row =
    ((row.code ≡ 64) × (row.number < length c.nodes))
    ⊎ ((row.number < length c.edges) × (row.code ≡ (parts_at c.edges row.number).layer))

-- the rows of updates of nodes, and the rows of edges
abbrev pub node_rows : List Hit → List Hit
node_rows rows = filter (λ row. row.code == 64) rows

abbrev pub edge_rows : List Hit → List Hit
edge_rows rows = filter (λ row. nat_lt row.code 64) rows

-- the numbers of the nodes that have rows, and of the edges
abbrev pub node_numbers : List Hit → List ℕ
node_numbers rows = map (λ row. row.number) (node_rows rows)

abbrev pub edge_numbers : List Hit → List ℕ
edge_numbers rows = map (λ row. row.number) (edge_rows rows)

-- the times of the rows with a number, in their order
abbrev pub times_of : List Hit → ℕ → List ℤ
times_of rows n = map (λ row. row.time) (filter (λ row. row.number == n) rows)

-- the times of an entity's history, rising
abbrev pub history_times : Contents → Entity → List ℤ
history_times c e = map (λ (x : Event). x.time) (events_of (base_of c) e)

-- each row is of a node or an edge of a store, and the times of each node's rows, and of each edge's,
-- arranged to rise, are those of its history
pub record Mirrors (timeline : List Hit) (c : Contents) : Type 0 where
  pub rows : All (IsRowOf c) timeline
  pub nodes : (n : ℕ) → n < length c.nodes
      → in_order int_cmp (times_of (node_rows timeline) n) ≡ history_times c (node_at c n)
  pub edges : (e : ℕ) → e < length c.edges
      → in_order int_cmp (times_of (edge_rows timeline) e) ≡ history_times c (edge_at c e)
