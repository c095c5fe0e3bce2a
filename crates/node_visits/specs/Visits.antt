-- Nodes that are visited one after another, each once.
use Rattle.std.specs.Prelude.{ℕ, List, [], ◌∷◌, ◌++◌, Bool, false, ◌≡◌, ◌<◌, nat_eq, length, map, slice_index_or, if◌then◌else◌}
use Rattle.std.specs.List.{list_any, All, IsDistinct}
use Rattle.node_visits.specs.declared.visited.Visit.{Visit}

-- how many nodes there are, and the visits in their order
pub record Visited : Type 0 where
  pub limit : ℕ
  pub visits : List Visit

-- the visit in a place, its node and its mark
abbrev pub visit_at : List Visit → ℕ → Visit
visit_at visits i = slice_index_or visits i (record { node = 0; mark = 0 })

abbrev pub node_in : List Visit → ℕ → ℕ
node_in visits i = (visit_at visits i).node

abbrev pub mark_in : List Visit → ℕ → ℕ
mark_in visits i = (visit_at visits i).mark

-- the nodes that were visited
abbrev pub nodes_of : List Visit → List ℕ
nodes_of visits = map (λ (v : Visit). v.node) visits

-- whether a node was visited
abbrev pub was_visited : List Visit → ℕ → Bool
was_visited visits n = list_any (nat_eq n) (nodes_of visits)

-- the visits with one of a node, if it was not visited
abbrev pub visited_too : List Visit → ℕ → ℕ → List Visit
visited_too visits n mark =
    if was_visited visits n then visits else (visits ++ (record { node = n; mark = mark }) ∷ [])

-- the visits with one of each of some nodes that was not visited, all with one mark
abbrev pub all_visited : ℕ → List ℕ → List Visit → List Visit
all_visited mark [] visits = visits
all_visited mark (n ∷ numbers) visits = all_visited mark numbers (visited_too visits n mark)

-- visits of different nodes below a limit
pub record AreVisits (limit : ℕ) (visits : List Visit) : Type 0 where
  pub within : All (λ n. n < limit) (nodes_of visits)
  pub once : IsDistinct nat_eq (nodes_of visits)

-- visits, where a flag says of each node whether it was visited
pub record AreFlagged (flags : List Bool) (visits : List Visit) : Type 0 where
  pub different : AreVisits (length flags) visits
  pub flagged : (n : ℕ) → n < length flags → slice_index_or flags n false ≡ was_visited visits n
