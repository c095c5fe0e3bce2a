-- Lists of numbers as they lie in memory: the first numbers of each, and a chain of the others.
use Rattle.std.specs.Prelude.{ℕ, List, [], ◌∷◌, ◌++◌, ◌≡◌, ◌<◌, cond, nat_eq, length, map, slice_index_or}
use Rattle.link_chain.specs.Indexes.{nowhere}
use Rattle.link_chain.specs.declared.number_lists.Firsts.{Firsts}
use Rattle.link_chain.specs.Chains.{list_at}

-- a number that is there before the others, and nothing where it is not there
abbrev pub before : ℕ → List ℕ → List ℕ
before number others = cond (nat_eq number nowhere) [] (number ∷ others)

-- the first numbers of a list, in order
abbrev pub firsts_of : Firsts → List ℕ
firsts_of f = before f.first (before f.second (before f.third []))

-- the first numbers of the list at an index, and none past the end
abbrev pub firsts_at : List Firsts → ℕ → Firsts
firsts_at firsts list = slice_index_or firsts list (record { first = nowhere; second = nowhere; third = nowhere })

-- each list: its first numbers, and then those of its chain
abbrev pub numbers_from : List Firsts → List (List (ℕ × ℕ)) → List (List ℕ)
numbers_from [] chains = []
numbers_from (f ∷ fs) [] = []
numbers_from (f ∷ fs) (c ∷ cs) = (firsts_of f ++ map (λ p. p.1) c) ∷ numbers_from fs cs

-- each list has a chain, in which nothing stands before there are three first numbers
pub record AreNumbers (firsts : List Firsts) (chains : List (List (ℕ × ℕ))) : Type 0 where
  pub same : length chains ≡ length firsts
  pub full : (list : ℕ) → length (firsts_of (firsts_at firsts list)) < 3 → list_at chains list ≡ []
