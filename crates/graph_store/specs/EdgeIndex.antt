-- Edges and pairs of numbered nodes, and the lists that they stand in.
use Rattle.std.specs.Prelude.{ℕ, List, [], ◌∷◌, ◌≡◌, ◌<◌, ◌≤◌, ◌^◌, length}
use Rattle.std.specs.List.{AllByRecursion, IsDistinct, list_any}
use Rattle.graph_store.specs.declared.pairs.Ends.{Ends}
use Rattle.graph_store.specs.declared.edges.EdgeParts.{EdgeParts}
use Rattle.graph_store.specs.Places.{places}
use Rattle.graph_store.specs.Ends.{same_ends, ends_at}
use Rattle.graph_store.specs.EdgeParts.{same_parts, ends_of, parts_at, parts_in_layer}
use Rattle.graph_store.specs.PairIndex.{PairIndex}
use Rattle.link_chain.specs.NumberLists.{numbers_at}

-- how many nodes there are, the edges and the pairs in the order of their numbers, and how many more nodes and edges need no memory
pub record EdgeIndex : Type 0 where
  pub nodes : ℕ
  pub edges : List EdgeParts
  pub pairs : List Ends
  pub spare_nodes : ℕ
  pub spare_edges : ℕ

-- the numbers of the edges with these ends
abbrev pub edges_between : List EdgeParts → Ends → List ℕ
edges_between edges ends = places (λ (e : EdgeParts). same_ends ends (ends_of e)) edges

-- the edges are distinct, their ends are the pairs, and one list for each pair has its edges, of which some stand with links
pub record IsEdgeIndex (edges : List EdgeParts) (paired : PairIndex) (lists : List (List ℕ)) (linked : ℕ) : Type 0 where
  pub few : length edges < 2 ^ 32
  pub once : IsDistinct same_parts edges
  pub few_pairs : length paired.pairs ≤ length edges
  pub own : length lists ≡ length paired.pairs
  pub few_links : linked ≤ length edges
  pub known : (ends : Ends) → list_any (same_ends ends) paired.pairs ≡ list_any (λ (e : EdgeParts). same_ends ends (ends_of e)) edges
  pub between : (pair : ℕ) → pair < length paired.pairs → numbers_at lists pair ≡ edges_between edges (ends_at paired.pairs pair)
  pub within : (e : ℕ) → e < length edges → ((parts_at edges e).src < paired.nodes) × ((parts_at edges e).dst < paired.nodes)

-- the edges, by the numbers of their pairs and their layers
abbrev pub edges_from : List Ends → List ℕ → List ℕ → List EdgeParts
edges_from pairs [] layers = []
edges_from pairs (p ∷ ps) [] = []
edges_from pairs (p ∷ ps) (l ∷ ls) = parts_in_layer (ends_at pairs p) l ∷ edges_from pairs ps ls

-- each edge has a pair and a layer
pub record HavePairs (pairs : List Ends) (pair_of layer_of : List ℕ) : Type 0 where
  pub lengths : length layer_of ≡ length pair_of
  pub within : AllByRecursion (λ (p : ℕ). p < length pairs) pair_of
