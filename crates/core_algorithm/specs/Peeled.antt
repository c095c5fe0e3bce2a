-- Sets of nodes with enough neighbours in the set, by rows of neighbours; the state of a peeling.
use Rattle.link_chain.specs.Buckets.{BucketLists, bucket_at, count_of}
use Rattle.std.specs.Prelude.{ℕ, List, [], ◌∷◌, ◌+◌, ◌^◌, ◌≡◌, ◌<◌, ◌≤◌, Bool, true, false, cond, nat_eq, length, slice_index_or}
use Rattle.core_algorithm.specs.declared.peeling.Peeling.{Peeling}
use Rattle.present_links.specs.Adjacent.{row_at}

-- how many items pass a test
abbrev pub how_many : (ℕ → Bool) → List ℕ → ℕ
how_many test [] = 0
how_many test (x ∷ xs) = cond (test x) 1 0 + how_many test xs

-- each node of a set has at least k neighbours in the set
abbrev pub IsKSet : List (List ℕ) → ℕ → (ℕ → Bool) → Type 0
IsKSet rows k set = (v : ℕ) → set v ≡ true → (v < length rows) × (k ≤ how_many set (row_at rows v))

-- a node of some such set
abbrev pub IsInSet : List (List ℕ) → ℕ → ℕ → Type 0
IsInSet rows k v = (set : ℕ → Bool) × IsKSet rows k set × (set v ≡ true)

-- the greatest k for which some such set has the node
abbrev pub IsGreatest : List (List ℕ) → ℕ → ℕ → Type 0
IsGreatest rows v k = IsInSet rows k v × ((j : ℕ) → IsInSet rows j v → j ≤ k)

-- whether a node is left
abbrev pub is_left : List Bool → ℕ → Bool
is_left left v = slice_index_or left v false

-- nodes were peeled up to a level: some set has enough neighbours for the level and has all that is
-- left; every set with more is among what is left; the others have their core numbers
pub record IsPeeled (rows : List (List ℕ)) (left : List Bool) (level : ℕ) (numbers : List ℕ)
    : Type 0 where
  pub lefts : length left ≡ length rows
  pub count : length numbers ≡ length rows
  pub wide : ℕ → Bool
  pub is_set : IsKSet rows level wide
  pub has_left : (v : ℕ) → is_left left v ≡ true → wide v ≡ true
  pub above : (set : ℕ → Bool) (j : ℕ) → IsKSet rows j set → level < j
      → (v : ℕ) → set v ≡ true → is_left left v ≡ true
  pub done : (v : ℕ) → v < length rows → is_left left v ≡ false
      → IsGreatest rows v (slice_index_or numbers v 0)

-- how many neighbours of a node are left, as it is kept
abbrev pub degree_of : List ℕ → ℕ → ℕ
degree_of degrees v = slice_index_or degrees v 0

-- how often a node stands in a bucket
abbrev pub shelf_count : List Bool → List ℕ → ℕ → ℕ → ℕ
shelf_count left degrees v b = cond (is_left left v) (cond (nat_eq (degree_of degrees v) b) 1 0) 0

-- each node that is left stands once in the bucket of its degree, and no other node stands anywhere
pub record AreShelved (buckets : BucketLists) (left : List Bool) (degrees : List ℕ) : Type 0 where
  pub items : buckets.items ≡ length left
  pub shelves : length buckets.lists ≡ length left
  pub lengths : length degrees ≡ length left
  pub small : (v : ℕ) → is_left left v ≡ true → degree_of degrees v < length left
  pub count : (v b : ℕ) → count_of v (bucket_at buckets.lists b) ≡ shelf_count left degrees v b

-- of each node its neighbours both ways, in fewer places than there are nodes
pub record IsGraph (rows : List (List ℕ)) : Type 0 where
  pub few : length rows < 2 ^ 32
  pub short : (v : ℕ) → v < length rows → length (row_at rows v) < length rows
  pub within : (v k : ℕ) → v < length rows → k < length (row_at rows v)
      → slice_index_or (row_at rows v) k 0 < length rows
  pub both_ways : (u v : ℕ) → count_of u (row_at rows v) ≡ count_of v (row_at rows u)

-- the state of a peeling
pub record IsState (rows : List (List ℕ)) (buckets : BucketLists) (left : List Bool)
    (degrees : List ℕ) (level : ℕ) (numbers : List ℕ) : Type 0 where
  pub shelved : AreShelved buckets left degrees
  pub peeled : IsPeeled rows left level numbers
  pub kept : (v : ℕ) → is_left left v ≡ true
      → degree_of degrees v ≡ how_many (is_left left) (row_at rows v)

-- the state of a peeling, as it is kept
abbrev pub IsPeeling : List (List ℕ) → Peeling → Type 0
IsPeeling rows p = IsState rows p.buckets p.left.items p.degrees.items p.level p.numbers.items
