-- Buckets as a contract sees them: a list of items for each bucket.
use Rattle.std.specs.Prelude.{ℕ, List, [], ◌∷◌, ◌+◌, cond, nat_eq, slice_index_or, slice_set}
use Rattle.std.specs.List.{sum_by}

-- how many items there may be, the items being the numbers below it, and the items of each bucket
pub record BucketLists : Type 0 where
  pub items : ℕ
  pub lists : List (List ℕ)

-- the items of a bucket
abbrev pub bucket_at : List (List ℕ) → ℕ → List ℕ
bucket_at lists bucket = slice_index_or lists bucket []

-- how often an item stands in a bucket
abbrev pub count_of : ℕ → List ℕ → ℕ
count_of item [] = 0
count_of item (x ∷ xs) = cond (nat_eq x item) 1 0 + count_of item xs

-- how often an item stands in all the buckets
abbrev pub how_often : ℕ → List (List ℕ) → ℕ
how_often item lists = sum_by (count_of item) lists

-- a bucket without an item
abbrev pub take_out : ℕ → List ℕ → List ℕ
take_out item [] = []
take_out item (x ∷ xs) = cond (nat_eq x item) (take_out item xs) (x ∷ take_out item xs)

-- the buckets with an item first in one of them
abbrev pub put_first : ℕ → ℕ → List (List ℕ) → List (List ℕ)
put_first item bucket lists = slice_set lists bucket (item ∷ bucket_at lists bucket)
