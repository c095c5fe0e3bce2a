-- How many links begin and end at nodes.
use Rattle.std.specs.Prelude.{ℕ, List, Bool, not, ◌&&◌, ◌+◌, ◌^◌, ◌<◌, ◌≡◌, ◌==◌, Some, unwrap_or, nat_eq, false, length, if◌then◌else◌}
use Rattle.std.specs.Map.{lookup}
use Rattle.graph_store.specs.declared.pairs.Ends.{Ends}
use Rattle.walk_algorithms.specs.declared.ways.Ways.{Ways}
use Rattle.present_links.specs.Links.{links_from, links_to, alone_among}

-- the ways of a node by some of all links: how many end there, how many begin there, and how many of
-- those that end there have no link back
pub record AreWays (all some : List Ends) (n : ℕ) (ways : Ways) : Type 0 where
  pub ins : ways.ins ≡ length (links_to some n)
  pub outs : ways.outs ≡ length (links_from some n)
  pub alone : ways.alone ≡ length (alone_among all some n)

-- the ways by the links between a node and another, or itself: whether one leads there, and whether
-- one leads back
abbrev pub between : Bool → Bool → Ways
between there back = record {
  ins = if back then 1 else 0;
  outs = if there then 1 else 0;
  alone = if (not there && back) then 1 else 0;
}

-- the ways of both
abbrev pub plus : Ways → Ways → Ways
plus w more = record { ins = w.ins + more.ins; outs = w.outs + more.outs; alone = w.alone + more.alone }

-- ways that can be counted
abbrev pub AreFew : Ways → Type 0
AreFew w = (w.ins < 2 ^ 32) × (w.outs < 2 ^ 32) × (w.alone < 2 ^ 32)

-- no link
abbrev pub no_ways : Ways
no_ways = between false false

-- the ways that a table has for a node, and none where it has no entry
abbrev pub ways_of : List (ℕ × Ways) → ℕ → Ways
ways_of table n = unwrap_or (lookup (nat_eq n) table) no_ways

-- a table after a node was given ways
abbrev pub Puts : List (ℕ × Ways) → ℕ → Ways → List (ℕ × Ways) → Type 0
Puts before n ways after =
    (k : ℕ) → lookup (nat_eq k) after ≡ (if n == k then Some ways else lookup (nat_eq k) before)

-- the ways of a node after the links between two nodes are counted at both
abbrev pub ways_after : ℕ → ℕ → Bool → Bool → ℕ → Ways → Ways
ways_after src dst there back n w =
    if src == n then plus w (between there back) else (if dst == n then plus w (between back there) else w)

-- a table after the links between two nodes are counted at both
abbrev pub IsJoined : ℕ → ℕ → Bool → Bool → List (ℕ × Ways) → List (ℕ × Ways) → Type 0
IsJoined src dst there back before after =
    (n : ℕ) → ways_of after n ≡ ways_after src dst there back n (ways_of before n)

-- a table of the ways of nodes by some of all links
abbrev pub CountsWays : List Ends → List Ends → List (ℕ × Ways) → Type 0
CountsWays all some table = (n : ℕ) → AreWays all some n (ways_of table n)
