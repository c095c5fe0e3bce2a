-- Pairs of numbered nodes, and the lists that they stand in.
use Rattle.std.specs.Prelude.{ℕ, List, ◌≡◌, ◌<◌, ◌^◌, ◌==◌, length}
use Rattle.graph_store.specs.declared.pairs.Ends.{Ends}
use Rattle.graph_store.specs.Places.{places}
use Rattle.link_chain.specs.Chains.{items_at, link_count}

-- how many nodes there are, the pairs in the order of their numbers, and how many more of each need no memory
pub record PairIndex : Type 0 where
  pub nodes : ℕ
  pub pairs : List Ends
  pub spare_nodes : ℕ
  pub spare_pairs : ℕ

-- the numbers of the pairs that begin at a node, and of those that end there
abbrev pub pairs_from : List Ends → ℕ → List ℕ
pairs_from pairs node = places (λ (p : Ends). p.src == node) pairs

abbrev pub pairs_to : List Ends → ℕ → List ℕ
pairs_to pairs node = places (λ (p : Ends). p.dst == node) pairs

-- one chain for each node has the pairs that begin there, and another those that end there
pub record IsPairIndex (pairs : List Ends) (outward inward : List (List (ℕ × ℕ))) : Type 0 where
  pub few : length pairs < 2 ^ 32
  pub few_nodes : length outward < 2 ^ 32
  pub nodes : length inward ≡ length outward
  pub out_links : link_count outward ≡ length pairs
  pub in_links : link_count inward ≡ length pairs
  pub begin : (node : ℕ) → items_at outward node ≡ pairs_from pairs node
  pub end : (node : ℕ) → items_at inward node ≡ pairs_to pairs node
