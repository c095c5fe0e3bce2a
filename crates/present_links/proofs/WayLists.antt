-- Lists of offsets and of ways that grow.
use Rattle.std.proofs.Common.{◌≡◌, ℕ, ◌+◌, ◌<◌, ◌≤◌, false, List, [], ◌∷◌, ◌++◌, length, take, get_or, refl, sym, ◌∙◌, ap, inl, inr, arith}
use Rattle.std.specs.Prelude.{nat_lt, slice_get, Some}
use Rattle.std.specs.List.{flat_map}
use Rattle.std.proofs.lemmas.Bool.{cases_lt, ltb-true, false_from_ne_true}
use Rattle.std.proofs.lemmas.List.{get_or_append_left, get_or_push, take_more}
use Rattle.std.proofs.lemmas.List.Concat.{flat_map-append}
use Rattle.std.proofs.lemmas.Option.{get_or_from_slice_get}
use Rattle.graph_model.specs.declared.queries.Direction.{Direction}
use Rattle.graph_store.specs.declared.pairs.Ends.{Ends}
use Rattle.present_links.specs.Adjacent.{placed, ways_along, ways_before, ways_of}

-- no way begins before the first place
none_first : (ways : List Ends) → ways_before ways 0 ≡ 0
none_first [] = refl
none_first (p ∷ ways) = let e : nat_lt p.src 0 ≡ false = false_from_ne_true (nat_lt p.src 0) (λ k. (let lt = ltb-true p.src 0 k in absurd (omega (arith, lt)))) in rw e refl

-- the first offset
pub first_start : (ways : List Ends) (xs : List ℕ) → xs ≡ 0 ∷ [] → (v : ℕ) → v ≤ 0 → get_or xs v 0 ≡ ways_before ways v
first_start ways xs is v le = let e : v ≡ 0 = omega (arith, le) in (λ i. get_or (is i) (e i) 0) ∙ (sym (none_first ways) ∙ ap (ways_before ways) (sym e))

-- and one more
pub next_start : (ways : List Ends) (xs ys : List ℕ) (k p : ℕ) → length xs ≡ k + 1 → ((v : ℕ) → v ≤ k → get_or xs v 0 ≡ ways_before ways v) → ys ≡ xs ++ p ∷ [] → p ≡ ways_before ways (k + 1)
    → (v : ℕ) → v ≤ k + 1 → get_or ys v 0 ≡ ways_before ways v
next_start ways xs ys k p long so is new v le = ap (λ zs. get_or zs v 0) is ∙ elim (cases_lt v (k + 1)) [
  | inl lt ↦ get_or_append_left xs (p ∷ []) 0 v (omega (arith, lt, long)) ∙ so v (omega (arith, lt))
  | inr ge ↦ let e : v ≡ k + 1 = omega (arith, le, ge) in get_or_push xs p 0 v (long ∙ sym e) ∙ (new ∙ ap (ways_before ways) (sym e))
]

-- the ways of one link more
pub ways_more : (nodes : List ℕ) (d : Direction) (links : List Ends) (i : ℕ) (p : Ends) → i < length links → slice_get links i ≡ Some p → (before after : List Ends) → before ≡ ways_of nodes d (take i links)
    → after ≡ before ++ ways_along d (placed nodes p) → after ≡ ways_of nodes d (take (i + 1) links)
ways_more nodes d links i p below here before after is more =
    more
    ∙ (ap (λ l. l ++ ways_along d (placed nodes p)) is
    ∙ (ap (λ l. ways_of nodes d (take i links) ++ l) (one (ways_along d (placed nodes p)))
    ∙ (ap (λ q. ways_of nodes d (take i links) ++ (ways_along d (placed nodes q) ++ [])) (sym (get_or_from_slice_get links i p p here))
    ∙ (sym (flat_map-append (λ q. ways_along d (placed nodes q)) (take i links) (get_or links i p ∷ []))
    ∙ ap (flat_map (λ q. ways_along d (placed nodes q))) (sym (take_more links i p below))))))
  where
    one : (xs : List Ends) → xs ≡ xs ++ []
    one [] = refl
    one (x ∷ xs) = ap (λ ys. x ∷ ys) (one xs)
