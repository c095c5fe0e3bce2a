-- Walks breadth first: the nodes are visited level by level.
use Rattle.std.specs.Prelude.{ℕ, List, ◌+◌, ◌<◌, ◌≤◌, ◌≡◌, length}
use Rattle.node_visits.specs.declared.visited.Visit.{Visit}
use Rattle.node_visits.specs.Visits.{node_in, mark_in}

-- a node was visited with a mark of at most k
pub record Within (visits : List Visit) (n k : ℕ) : Type 0 where
  pub place : ℕ
  pub below : place < length visits
  pub is : node_in visits place ≡ n
  pub near : mark_in visits place ≤ k

-- where `next` says which nodes lead to which, and `far k n` that k steps lead to a node: each of the
-- first so many visited nodes leads only to nodes that were visited with a mark of at most one step
-- more, and the others are of one level or the next
pub record IsWalking
    (next : ℕ → ℕ → Type 0) (far : ℕ → ℕ → Type 0)
    (start : ℕ) (visits : List Visit) (settled : ℕ) : Type 0 where
  pub within : settled ≤ length visits
  pub begun : Within visits start 0
  pub sound : (i : ℕ) → i < length visits → far (mark_in visits i) (node_in visits i)
  pub rise : (i j : ℕ) → i < j → j < length visits → mark_in visits i ≤ mark_in visits j
  pub near : (i j : ℕ) → settled ≤ i → i < length visits → j < length visits
      → mark_in visits j ≤ mark_in visits i + 1
  pub few : (i : ℕ) → i < length visits → mark_in visits i ≤ i
  pub closed : (i : ℕ) → i < settled → (b : ℕ) → next (node_in visits i) b
      → Within visits b (mark_in visits i + 1)
