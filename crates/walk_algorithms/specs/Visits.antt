-- Visits of a store's nodes.
use Rattle.std.specs.Prelude.{ℕ, List, ◌≡◌, ◌≢◌, ◌<◌, length}
use Rattle.std.specs.List.{All, Contains}
use Rattle.graph_model.specs.declared.queries.Direction.{Direction}
use Rattle.graph_model.specs.World.{World}
use Rattle.graph_store.specs.Contents.{Contents, name_at}
use Rattle.present_links.specs.Adjacent.{AreAdjacent}
use Rattle.present_links.specs.Links.{rising_links}
use Rattle.node_visits.specs.declared.visited.Visit.{Visit}
use Rattle.node_visits.specs.Visits.{all_visited}
use Rattle.walk_laws.specs.Steps.{Next}
use Rattle.walk_algorithms.specs.declared.by_name.NamedVisit.{NamedVisit}
use Rattle.walk_algorithms.specs.declared.hop_rows.Hop.{Hop}
use Rattle.walk_algorithms.specs.declared.source.Source.{Source}
use Rattle.walk_algorithms.specs.declared.source.Source.TheVariants.{Asked, Listed}

-- the visit of a visit with a name, and its node with its mark as the number of steps that lead there
abbrev pub visit_of : NamedVisit → Visit
visit_of x = x.visit

abbrev pub hop_of : NamedVisit → Hop
hop_of x = record { node = record { 0 = x.visit.node }; hops = x.visit.mark }

-- a visit of a node that has this name among those of the contents
pub record IsNamed (c : Contents) (x : NamedVisit) : Type 0 where
  pub within : x.visit.node < length c.nodes
  pub name : name_at c.nodes x.visit.node ≡ x.name.now

-- numbers of nodes to which a node leads, of all of them but perhaps the node itself
pub record AreLed (c : Contents) (w : World) (d : Direction) (n : ℕ) (numbers : List ℕ)
    : Type 0 where
  pub each : All (Next w c.nodes d n) numbers
  pub others : (m : ℕ) → Next w c.nodes d n m → m ≢ n → Contains numbers m

-- the visits before and after the neighbours of a node are visited with one mark, those that were not
-- visited
abbrev pub VisitsNeighbours : Contents → World → Direction → ℕ → ℕ → List Visit → List Visit → Type 0
VisitsNeighbours c w direction node mark before after =
    (numbers : List ℕ)
    × AreLed c w direction node numbers
    × (after ≡ all_visited mark numbers before)

-- where a walk in a direction finds neighbours: lists, if there are some, are those of the links
abbrev pub IsSource : Contents → World → Direction → Source → Type 0
IsSource c w direction Asked = Unit {0}
IsSource c w direction (Listed lists) = AreAdjacent (rising_links c w) direction lists
