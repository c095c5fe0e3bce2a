-- Laws on lists of numbers, for callers.
use Rattle.std.proofs.Common.{◌≡◌, ◌≢◌, ℕ, zero, suc, ◌<◌, List, [], ◌∷◌, ◌++◌, length, refl}
use Rattle.std.proofs.lemmas.List.{length-set, get_or-set_same, get_or-set_other}
use Rattle.link_chain.specs.NumberLists.{numbers_at, with_last}

-- a new empty list is the last one, and leaves every list as it was
pub numbers_at-add_list : (lists : List (List ℕ)) (list : ℕ) → numbers_at (lists ++ [] ∷ []) list ≡ numbers_at lists list
numbers_at-add_list [] zero = refl
numbers_at-add_list [] (suc list) = refl
numbers_at-add_list (xs ∷ xss) zero = refl
numbers_at-add_list (xs ∷ xss) (suc list) = numbers_at-add_list xss list

-- a number that is put last stands last in its list, and leaves the other lists as they were
pub numbers_at-with_last : (list number : ℕ) (lists : List (List ℕ)) → list < length lists → numbers_at (with_last list number lists) list ≡ numbers_at lists list ++ number ∷ []
numbers_at-with_last list number lists lt = get_or-set_same lists list (numbers_at lists list ++ number ∷ []) [] lt

pub numbers_at-with_last_other : (list number other : ℕ) (lists : List (List ℕ)) → other ≢ list → numbers_at (with_last list number lists) other ≡ numbers_at lists other
numbers_at-with_last_other list number other lists ne = get_or-set_other lists list other (numbers_at lists list ++ number ∷ []) [] ne

pub length-with_last : (list number : ℕ) (lists : List (List ℕ)) → length (with_last list number lists) ≡ length lists
length-with_last list number lists = length-set lists list (numbers_at lists list ++ number ∷ [])
