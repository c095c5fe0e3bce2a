-- Disjoint sets of numbers, by their least numbers.
use Rattle.std.specs.Prelude.{ℕ, zero, suc, List, ◌<◌, ◌≤◌, ◌==◌, nat_lt, length, map, slice_index_or, if◌then◌else◌}
use Rattle.std.specs.List.{range_with_len}

-- a parent of each number, which is not greater
abbrev pub AreParents : List ℕ → Type 0
AreParents parents = (i : ℕ) → i < length parents → slice_index_or parents i 0 ≤ i

-- the number so many parents above one
abbrev pub above : List ℕ → ℕ → ℕ → ℕ
above parents zero i = i
above parents (suc n) i = above parents n (slice_index_or parents i 0)

-- the least number of the set of each: as parents are not greater, no more of them than the number
-- itself lead there
abbrev pub least_numbers : List ℕ → List ℕ
least_numbers parents = map (λ i. above parents i i) (range_with_len 0 (length parents))

-- the least number of a set, once the sets with two least numbers are joined
abbrev pub least_joined : ℕ → ℕ → ℕ → ℕ
least_joined a b n =
    if nat_lt a b then (if n == b then a else n) else (if n == a then b else n)

-- the least numbers of the sets of all numbers, once the sets with two least numbers are joined
abbrev pub joined : ℕ → ℕ → List ℕ → List ℕ
joined a b least = map (least_joined a b) least
