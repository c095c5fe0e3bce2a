-- Lists of numbers as a contract sees them.
use Rattle.std.specs.Prelude.{ℕ, List, [], ◌∷◌, ◌++◌, slice_index_or, slice_set}

-- the lists in the order of their own numbers, how many numbers stand in chains, and how many lists and how many numbers more need no memory
pub record ListsOfNumbers : Type 0 where
  pub lists : List (List ℕ)
  pub links : ℕ
  pub spare_lists : ℕ
  pub spare_links : ℕ

-- the numbers of a list, in order
abbrev pub numbers_at : List (List ℕ) → ℕ → List ℕ
numbers_at lists list = slice_index_or lists list []

-- the lists with a number at the end of one of them
abbrev pub with_last : ℕ → ℕ → List (List ℕ) → List (List ℕ)
with_last list number lists = slice_set lists list (numbers_at lists list ++ number ∷ [])
