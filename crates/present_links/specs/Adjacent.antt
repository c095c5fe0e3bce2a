-- The neighbours of nodes, side by side in one list.
use Rattle.std.specs.Prelude.{ℕ, List, [], ◌∷◌, ◌+◌, ◌≡◌, ◌<◌, ◌≤◌, ◌==◌, ◌&&◌, ◌||◌, Bool, not, nat_lt, length, slice_index_or, slice_range, if◌then◌else◌}
use Rattle.std.specs.List.{AllByRecursion, flat_map, list_any, prefix_len}
use Rattle.std.specs.Ordering.{nat_cmp}
use Rattle.graph_model.specs.declared.queries.Direction.{Direction}
use Rattle.graph_model.specs.declared.queries.Direction.TheVariants.{Both, Inward, Outward}
use Rattle.graph_model.specs.Rising.{Rises}
use Rattle.graph_store.specs.declared.pairs.Ends.{Ends}
use Rattle.view_trait.specs.Numbered.{is_listed}
use Rattle.present_links.specs.Links.{is_end}

-- nodes by their numbers, and of each the places of its neighbours among the nodes
pub record AdjacentNodes : Type 0 where
  pub nodes : List ℕ
  pub rows : List (List ℕ)

-- the number of the node in a place
abbrev pub number_at : List ℕ → ℕ → ℕ
number_at nodes v = slice_index_or nodes v 0

-- the places of the neighbours of the node in a place
abbrev pub row_at : List (List ℕ) → ℕ → List ℕ
row_at rows v = slice_index_or rows v []

-- whether a link leads from one node to another
abbrev pub is_link : List Ends → ℕ → ℕ → Bool
is_link links a b = list_any (λ (p : Ends). (p.src == a) && (p.dst == b)) links

-- whether a link leads from one node to another in a direction; both ways not to the node itself
abbrev pub is_linked : List Ends → Direction → ℕ → ℕ → Bool
is_linked links Outward a b = is_link links a b
is_linked links Inward a b = is_link links b a
is_linked links Both a b = not (a == b) && (is_link links a b || is_link links b a)

-- the nodes where a link begins or ends, rising, and of each its neighbours in a direction: the
-- places, rising, of the nodes to which it is linked
pub record AreAdjacent (links : List Ends) (direction : Direction) (adjacent : AdjacentNodes)
    : Type 0 where
  pub rise : Rises nat_cmp adjacent.nodes
  pub nodes : (n : ℕ) → is_listed adjacent.nodes n ≡ is_end links n
  pub count : length adjacent.rows ≡ length adjacent.nodes
  pub rows_rise : (v : ℕ) → Rises nat_cmp (row_at adjacent.rows v)
  pub within : (v : ℕ) → AllByRecursion (λ u. u < length adjacent.nodes) (row_at adjacent.rows v)
  pub exactly : (v u : ℕ) → v < length adjacent.nodes → u < length adjacent.nodes
      → is_listed (row_at adjacent.rows v) u
      ≡ is_linked links direction (number_at adjacent.nodes v) (number_at adjacent.nodes u)

-- ---- how they are kept

-- the part of a list from one offset up to the next, for each offset
abbrev pub parts_from : List ℕ → ℕ → List ℕ → List (List ℕ)
parts_from xs from [] = []
parts_from xs from (to ∷ offsets) = slice_range xs from to ∷ parts_from xs to offsets

abbrev pub parts_between : List ℕ → List ℕ → List (List ℕ)
parts_between xs [] = []
parts_between xs (from ∷ offsets) = parts_from xs from offsets

-- offsets into a list, one more than there are nodes, of which none is less than the one before
pub record AreOffsets (nodes starts others : List ℕ) : Type 0 where
  pub rise : Rises nat_cmp nodes
  pub count : length starts ≡ length nodes + 1
  pub upward : (v : ℕ) → v < length nodes
      → slice_index_or starts v 0 ≤ slice_index_or starts (v + 1) 0
  pub inside : (v : ℕ) → v < length starts → slice_index_or starts v 0 ≤ length others

-- ---- how they are made

-- how many of some numbers that rise are less than one: its place, where it is among them
abbrev pub place_among : List ℕ → ℕ → ℕ
place_among numbers n = prefix_len (λ m. nat_lt m n) numbers

-- a link by the places of its ends
abbrev pub placed : List ℕ → Ends → Ends
placed nodes p = record { src = place_among nodes p.src; dst = place_among nodes p.dst }

-- the ways that a link leads in a direction, each from its beginning to its end
abbrev pub ways_along : Direction → Ends → List Ends
ways_along Outward p = p ∷ []
ways_along Inward p = record { src = p.dst; dst = p.src } ∷ []
ways_along Both p = if (p.src == p.dst) then [] else (p ∷ record { src = p.dst; dst = p.src } ∷ [])

-- the ways that links lead, by places
abbrev pub ways_of : List ℕ → Direction → List Ends → List Ends
ways_of nodes direction links = flat_map (λ p. ways_along direction (placed nodes p)) links

-- how many ways begin before a place, where they rise
abbrev pub ways_before : List Ends → ℕ → ℕ
ways_before ways v = prefix_len (λ (p : Ends). nat_lt p.src v) ways
