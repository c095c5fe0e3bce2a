-- Buckets as they lie in memory: the first item of each bucket, and the place of each item.
use Rattle.std.specs.Prelude.{ℕ, List, [], ◌∷◌, ◌≡◌, ◌≢◌, ◌<◌, ◌≤◌, zero, suc, cond, nat_eq, nat_lt, length, map, slice_index_or, slice_set}
use Rattle.link_chain.specs.Indexes.{nowhere}
use Rattle.link_chain.specs.declared.item_buckets.Place.{Place}
use Rattle.link_chain.specs.Buckets.{bucket_at, count_of}

-- the first item of a bucket, and none past the last bucket
abbrev pub first_at : List ℕ → ℕ → ℕ
first_at firsts b = slice_index_or firsts b nowhere

-- the place of an item
abbrev pub place_at : List Place → ℕ → Place
place_at places i = slice_index_or places i (record { before = nowhere; after = nowhere; bucket = 0 })

-- the items from one on, at most so many
abbrev pub run : List Place → ℕ → ℕ → List ℕ
run places zero l = []
run places (suc n) l = cond (nat_lt l (length places)) (l ∷ run places n (place_at places l).after) []

-- the buckets that the first items and the places make
abbrev pub buckets_of : List ℕ → List Place → List (List ℕ)
buckets_of firsts places = map (run places (length places)) firsts

-- an item stands in a bucket, behind another
pub record IsSpot (place : Place) (count b before l x : ℕ) : Type 0 where
  pub here : x ≡ l
  pub within : l < count
  pub back : place.before ≡ before
  pub bucket : place.bucket ≡ b

-- the items from one on, in a bucket, where another stands before it
abbrev pub IsRun : List Place → ℕ → ℕ → ℕ → List ℕ → Type 0
IsRun places b before l [] = l ≡ nowhere
IsRun places b before l (x ∷ xs) = IsSpot (place_at places l) (length places) b before l x × IsRun places b l (place_at places l).after xs

-- first items and places that hold these buckets
pub record AreBuckets (firsts : List ℕ) (places : List Place) (lists : List (List ℕ)) : Type 0 where
  pub few : length places ≤ nowhere
  pub same : length lists ≡ length firsts
  pub once : (b z : ℕ) → count_of z (bucket_at lists b) ≤ 1
  pub runs : (b : ℕ) → b < length firsts → IsRun places b nowhere (first_at firsts b) (bucket_at lists b)

-- the lowest bucket that is not empty, or how many there are
pub record IsLeast (firsts : List ℕ) (low : ℕ) : Type 0 where
  pub within : low ≤ length firsts
  pub below : (b : ℕ) → b < low → first_at firsts b ≡ nowhere
  pub some : low < length firsts → first_at firsts low ≢ nowhere

-- what the fields of buckets keep
pub record AreKept (firsts : List ℕ) (places : List Place) (low : ℕ) : Type 0 where
  pub buckets : AreBuckets firsts places (buckets_of firsts places)
  pub least : IsLeast firsts low
  pub few : length firsts ≤ nowhere

-- the places where another item stands before one; past the end nothing changes
abbrev pub with_before : List Place → ℕ → ℕ → List Place
with_before places at before = slice_set places at (record { before = before; after = (place_at places at).after; bucket = (place_at places at).bucket })

-- the places where another item stands after one; past the end nothing changes
abbrev pub with_after : List Place → ℕ → ℕ → List Place
with_after places at after = slice_set places at (record { before = (place_at places at).before; after = after; bucket = (place_at places at).bucket })

-- the places where the neighbours of an item are neighbours of each other
abbrev pub unlinked_places : List Place → ℕ → List Place
unlinked_places places i = with_before (with_after places (place_at places i).before (place_at places i).after) (place_at places i).after (place_at places i).before

-- the first items where one item is out of its bucket
abbrev pub unlinked_firsts : List ℕ → List Place → ℕ → List ℕ
unlinked_firsts firsts places i = cond (nat_eq (place_at places i).before nowhere) (slice_set firsts (place_at places i).bucket (place_at places i).after) firsts

-- the first items where one item stands first in a bucket
abbrev pub linked_firsts : List ℕ → ℕ → ℕ → List ℕ
linked_firsts firsts i b = slice_set firsts b i

-- the places where an item stands before the one that was first in a bucket
abbrev pub linked_places : List ℕ → List Place → ℕ → ℕ → List Place
linked_places firsts places i b = with_before (slice_set places i (record { before = nowhere; after = first_at firsts b; bucket = b })) (first_at firsts b) i
