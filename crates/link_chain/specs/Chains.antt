-- Chains as a contract sees them: lists of pairs of a link and an item.
use Rattle.std.specs.Prelude.{ℕ, List, [], ◌∷◌, ◌++◌, ◌+◌, ◌<◌, ◌≤◌, Option, None, Some, cond, nat_eq, length, map, slice_index_or, slice_set}
use Rattle.std.specs.List.{sum_by}

-- the lists, by their heads, and how many heads and how many links more need no memory
pub record ChainLists : Type 0 where
  pub lists : List (List (ℕ × ℕ))
  pub spare_heads : ℕ
  pub spare_links : ℕ

-- the list of a head
abbrev pub list_at : List (List (ℕ × ℕ)) → ℕ → List (ℕ × ℕ)
list_at lists head = slice_index_or lists head []

-- the items of a head's list, in order
abbrev pub items_at : List (List (ℕ × ℕ)) → ℕ → List ℕ
items_at lists head = map (λ p. p.1) (list_at lists head)

-- how many links there are
abbrev pub link_count : List (List (ℕ × ℕ)) → ℕ
link_count lists = sum_by length lists

-- the lists with an item, under the next link, at the end of one of them
abbrev pub put_last : ℕ → ℕ → List (List (ℕ × ℕ)) → List (List (ℕ × ℕ))
put_last head item lists = slice_set lists head (list_at lists head ++ (link_count lists, item) ∷ [])

-- how often a link stands in a list
abbrev pub times : ℕ → List (ℕ × ℕ) → ℕ
times link [] = 0
times link (p ∷ ps) = cond (nat_eq p.0 link) 1 0 + times link ps

-- no link stands twice, in one list or in two
abbrev pub IsLinkedOnce : List (List (ℕ × ℕ)) → Type 0
IsLinkedOnce lists = (link : ℕ) → sum_by (times link) lists ≤ 1

-- the link of a list's first pair
abbrev pub first_link : List (ℕ × ℕ) → Option ℕ
first_link [] = None
first_link (p ∷ ps) = Some p.0

-- a list from a link on, or nothing where the link is not in it
abbrev pub rest : ℕ → List (ℕ × ℕ) → List (ℕ × ℕ)
rest link [] = []
rest link (p ∷ ps) = cond (nat_eq p.0 link) (p ∷ ps) (rest link ps)

-- the list that a link stands in, from the link on
abbrev pub from_link : ℕ → List (List (ℕ × ℕ)) → List (ℕ × ℕ)
from_link link [] = []
from_link link (xs ∷ xss) = rest link xs ++ from_link link xss

-- a link that exists: it stands in a list
abbrev pub IsLink : List (List (ℕ × ℕ)) → ℕ → Type 0
IsLink lists link = 0 < length (from_link link lists)

-- what a walk that has come to a link has yet to pass, and nothing where it has come to the end
abbrev pub walk_left : List (List (ℕ × ℕ)) → Option ℕ → List (ℕ × ℕ)
walk_left lists None = []
walk_left lists (Some link) = from_link link lists
