-- Pairs and neighbours, by their numbers.
use Rattle.std.specs.Prelude.{ℕ, List, [], ◌∷◌, ◌++◌, Bool, not, ◌&&◌, ◌≡◌, ◌<◌, ◌==◌, ◌+◌}
use Rattle.std.specs.Prelude.{length, map, Option, MatchOption}
use Rattle.std.specs.Option.{option_map_or, ForSome}
use Rattle.std.specs.List.{list_any, filter, sum_by, IsDistinct, AllByRecursion}
use Rattle.graph_model.specs.declared.queries.Direction.{Direction}
use Rattle.graph_model.specs.declared.queries.Direction.TheVariants.{Outward}
use Rattle.graph_model.specs.Names.{same_name}
use Rattle.graph_model.specs.World.{World}
use Rattle.graph_model.specs.Neighbours.{leads}
use Rattle.graph_store.specs.declared.walks.NodeId.{NodeId}
use Rattle.graph_store.specs.Ends.{ends_at}
use Rattle.graph_store.specs.EdgeIndex.{edges_between}
use Rattle.graph_store.specs.PairIndex.{pairs_from, pairs_to}
use Rattle.graph_store.specs.Contents.{Contents, name_at}

-- whether a present edge leads from the source of a pair to its destination
abbrev pub pair_leads : Contents → World → ℕ → Bool
pair_leads c w p =
    leads w Outward (name_at c.nodes (ends_at c.pairs p).src)
    (name_at c.nodes (ends_at c.pairs p).dst)

-- whether one of some pairs is present
abbrev pub any_pair_leads : Contents → World → List ℕ → Bool
any_pair_leads c w pairs = list_any (pair_leads c w) pairs

-- distinct numbers of nodes, whose names are the neighbours of a node
pub record AreNeighbours (c : Contents) (w : World) (d : Direction) (n : ℕ) (numbers : List ℕ)
    : Type 0 where
  pub apart : IsDistinct (λ (i j : ℕ). i == j) numbers
  pub within : AllByRecursion (λ i. i < length c.nodes) numbers
  pub exactly : (name : List ℕ) → list_any (same_name name) (map (name_at c.nodes) numbers)
      ≡ leads w d (name_at c.nodes n) name

-- the destinations of the present pairs among some
abbrev pub ends_left : Contents → World → List ℕ → List ℕ
ends_left c w pairs = map (λ p. (ends_at c.pairs p).dst) (filter (pair_leads c w) pairs)

-- whether a pair is present, and, where both directions are asked, no present edge leads from a
-- node to its source
abbrev pub is_new_start : Contents → World → ℕ → Bool → ℕ → Bool
is_new_start c w n both p =
    pair_leads c w p
    && not (both && leads w Outward (name_at c.nodes n) (name_at c.nodes (ends_at c.pairs p).src))

-- the sources of the new pairs among some
abbrev pub starts_left : Contents → World → ℕ → Bool → List ℕ → List ℕ
starts_left c w n both pairs =
    map (λ p. (ends_at c.pairs p).src) (filter (is_new_start c w n both) pairs)

-- what a walk has left of the destinations of some pairs, and of the sources of others, where they
-- are asked
abbrev pub out_left : Contents → World → Option (List ℕ) → List ℕ
out_left c w out = option_map_or (ends_left c w) out []

abbrev pub into_left : Contents → World → ℕ → Bool → Option (List ℕ) → List ℕ
into_left c w n both into = option_map_or (starts_left c w n both) into []

-- what a walk along two chains of pairs has left
abbrev pub numbers_left : Contents → World → ℕ → Bool → Option (List ℕ) → Option (List ℕ) → List ℕ
numbers_left c w n both out into = out_left c w out ++ into_left c w n both into

-- how many edges a pair has, and how many some pairs have together
abbrev pub edge_count : Contents → ℕ → ℕ
edge_count c p = length (edges_between c.edges (ends_at c.pairs p))

abbrev pub edge_count_of : Contents → List ℕ → ℕ
edge_count_of c pairs = sum_by (edge_count c) pairs

-- how many edges begin or end at a node, where a loop does both
abbrev pub edge_count_at : Contents → ℕ → ℕ
edge_count_at c n = edge_count_of c (pairs_from c.pairs n) + edge_count_of c (pairs_to c.pairs n)

-- numbers of pairs of a store
abbrev pub ArePairs : Contents → Option (List ℕ) → Type 0
ArePairs c pairs = ForSome pairs (AllByRecursion (λ p. p < length c.pairs))

-- what walks along chains of pairs for the neighbours of a node of a store
pub record IsNeighbourWalk (c : Contents) (n : ℕ) (begun ended : Option (List ℕ)) : Type 0 where
  pub node : n < length c.nodes
  pub out : ArePairs c begun
  pub into : ArePairs c ended

-- the first of what was left, or nothing where nothing was
abbrev pub IsNextNeighbour : List ℕ → List ℕ → Option NodeId → Type 0
IsNextNeighbour before after next =
    MatchOption next ((before ≡ []) × (after ≡ [])) (λ n. before ≡ n.0 ∷ after)
