-- Rosters, and the worlds that they cover.
use Rattle.std.specs.Prelude.{ℕ, ◌<◌, ◌≡◌, ◌++◌, List, [], false, length, map, nat_lt}
use Rattle.std.specs.List.{filter, range_with_len}
use Rattle.graph_model.specs.declared.events.Entity.{Entity}
use Rattle.graph_model.specs.World.{World, events_of}
use Rattle.graph_store.specs.Contents.{Contents}
use Rattle.view_trait.specs.Meaning.{node_at, edge_at}
use Rattle.view_trait.specs.Numbered.{is_listed}
use Rattle.view_trait.specs.declared.rosters.Roster.{Roster}
use Rattle.view_trait.specs.declared.rosters.Roster.TheVariants.{All as Whole, Some as Only}

-- the numbers of the nodes that are on a roster, and of the edges
abbrev pub nodes_on : Contents → Roster → List ℕ
nodes_on c Whole = range_with_len 0 (length c.nodes)
nodes_on c (Only nodes edges) = nodes.now

abbrev pub edges_on : Contents → Roster → List ℕ
edges_on c Whole = range_with_len 0 (length c.edges)
edges_on c (Only nodes edges) = edges.now

-- how many nodes are on a roster, and how many edges
abbrev pub node_count_on : Contents → Roster → ℕ
node_count_on c Whole = length c.nodes
node_count_on c (Only nodes edges) = length nodes.now

abbrev pub edge_count_on : Contents → Roster → ℕ
edge_count_on c Whole = length c.edges
edge_count_on c (Only nodes edges) = length edges.now

-- the nodes of some numbers that a store has, and the edges
abbrev pub nodes_among : Contents → List ℕ → List Entity
nodes_among c numbers = map (node_at c) (filter (λ n. nat_lt n (length c.nodes)) numbers)

abbrev pub edges_among : Contents → List ℕ → List Entity
edges_among c numbers = map (edge_at c) (filter (λ e. nat_lt e (length c.edges)) numbers)

-- the nodes and edges on a roster that a store has, nodes first
abbrev pub entities_on : Contents → Roster → List Entity
entities_on c r = nodes_among c (nodes_on c r) ++ edges_among c (edges_on c r)

-- each node and each edge that has an event in a world is on a roster
pub record Covers (c : Contents) (w : World) (r : Roster) : Type 0 where
  pub nodes : (n : ℕ) → n < length c.nodes → is_listed (nodes_on c r) n ≡ false
      → events_of w (node_at c n) ≡ []
  pub edges : (e : ℕ) → e < length c.edges → is_listed (edges_on c r) e ≡ false
      → events_of w (edge_at c e) ≡ []
