-- Laws on the lists of chains, for callers.
use Rattle.std.proofs.Common.{◌≡◌, ◌≢◌, ℕ, zero, suc, ◌+◌, ◌<◌, List, [], ◌∷◌, ◌++◌, Option, Some, length, drop, map, refl, sym, ap, ◌∙◌, arith}
use Rattle.std.proofs.lemmas.List.{map-append, length_push, get_or-set_same, get_or-set_other}
use Rattle.std.proofs.lemmas.List.Sums.{sum_by-set, sum_by_push}
use Rattle.link_chain.specs.Chains.{list_at, items_at, link_count, put_last, from_link, walk_left}

-- a new empty list is the last one, and leaves every list as it was
pub list_at-add_head : (lists : List (List (ℕ × ℕ))) (head : ℕ) → list_at (lists ++ [] ∷ []) head ≡ list_at lists head
list_at-add_head [] zero = refl
list_at-add_head [] (suc head) = refl
list_at-add_head (xs ∷ xss) zero = refl
list_at-add_head (xs ∷ xss) (suc head) = list_at-add_head xss head

pub items_at-add_head : (lists : List (List (ℕ × ℕ))) (head : ℕ) → items_at (lists ++ [] ∷ []) head ≡ items_at lists head
items_at-add_head lists head = ap (map (λ p. p.1)) (list_at-add_head lists head)

pub link_count-add_head : (lists : List (List (ℕ × ℕ))) → link_count (lists ++ [] ∷ []) ≡ link_count lists
link_count-add_head lists = omega (arith, sum_by_push length lists [])

-- an item that is put last stands last in its list, and leaves the other lists as they were
pub items_at-put_last : (head item : ℕ) (lists : List (List (ℕ × ℕ))) → head < length lists → items_at (put_last head item lists) head ≡ items_at lists head ++ item ∷ []
items_at-put_last head item lists lt =
    ap (map (λ p. p.1)) (get_or-set_same lists head (list_at lists head ++ (link_count lists, item) ∷ []) [] lt)
    ∙ map-append (λ p. p.1) (list_at lists head) ((link_count lists, item) ∷ [])

pub items_at-put_last_other : (head item other : ℕ) (lists : List (List (ℕ × ℕ))) → other ≢ head → items_at (put_last head item lists) other ≡ items_at lists other
items_at-put_last_other head item other lists ne =
    ap (map (λ p. p.1)) (get_or-set_other lists head other (list_at lists head ++ (link_count lists, item) ∷ []) [] ne)

pub link_count-put_last : (head item : ℕ) (lists : List (List (ℕ × ℕ))) → head < length lists → link_count (put_last head item lists) ≡ link_count lists + 1
link_count-put_last head item lists lt =
    omega (
      arith,
      sum_by-set length lists head (list_at lists head ++ (link_count lists, item) ∷ []) [] lt,
      length_push (list_at lists head) (link_count lists, item),
    )

-- a step of a walk, from what `item` and `next` ensure: the link's item comes first, and then what a walk from the next link passes
pub walk_left-step : (lists : List (List (ℕ × ℕ))) (link item : ℕ) (next : Option ℕ) → from_link link lists ≡ (link, item) ∷ drop 1 (from_link link lists)
    → walk_left lists next ≡ drop 1 (from_link link lists) → walk_left lists (Some link) ≡ (link, item) ∷ walk_left lists next
walk_left-step lists link item next here after = here ∙ ap (λ xs. (link, item) ∷ xs) (sym after)
