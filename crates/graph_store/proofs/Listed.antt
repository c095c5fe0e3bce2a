-- Lists without repeats, and places in lists.
use Rattle.std.proofs.Common.{◌≡◌, ℕ, zero, suc, ◌<◌, List, [], ◌∷◌, Bool, true, false, length, get_or, refl, sym, ap, ◌∙◌, arith, ⊎_elim}
use Rattle.std.specs.List.{list_any, IsDistinct}
use Rattle.std.proofs.lemmas.Bool.{cases_order, true≢false, or_parts, or_left, or_right}
use Rattle.std.proofs.lemmas.Map.Keys.{apart_from_distinct}
use Rattle.graph_store.specs.Places.{places_from}

-- items that are equal stand at one place of a list without repeats
pub one_place : {K : Type 0} (eq : K → K → Bool) → ((x : K) → eq x x ≡ true) → (xs : List K) (i j : ℕ) (d : K) → IsDistinct eq xs → i < length xs → j < length xs → get_or xs i d ≡ get_or xs j d → i ≡ j
one_place eq own xs i j d once lt_i lt_j e =
    ⊎_elim (λ (same : i ≡ j). same)
    (λ either. ⊎_elim
    (λ (less : i < j). absurd (true≢false (sym (own (get_or xs j d)) ∙ (ap (λ x. eq x (get_or xs j d)) (sym e) ∙ apart_from_distinct eq xs i j d once less lt_j))))
    (λ (less : j < i). absurd (true≢false (sym (own (get_or xs j d)) ∙ (ap (λ x. eq (get_or xs j d) x) (sym e) ∙ apart_from_distinct eq xs j i d once less lt_i))))
    either)
    (cases_order i j)

-- where no item passes, there is no place
pub places_from-none : {X : Type 0} (test : X → Bool) (i : ℕ) (xs : List X) → list_any test xs ≡ false → places_from i test xs ≡ []
places_from-none test i [] e = refl
places_from-none test i (x ∷ xs) e =
    let h = or_parts (test x) (list_any test xs) e in
    rw h.0 (places_from-none test (suc i) xs h.1)

-- an item at a place passes what no item passes: this cannot be
pub list_any-place : {X : Type 0} (test : X → Bool) (xs : List X) (i : ℕ) (d : X) → i < length xs → test (get_or xs i d) ≡ true → list_any test xs ≡ true
list_any-place test [] i d lt e = absurd (omega arith)
list_any-place test (x ∷ xs) zero d lt e = or_left (test x) (list_any test xs) e
list_any-place test (x ∷ xs) (suc i) d lt e = or_right (test x) (list_any test xs) (list_any-place test xs i d (omega arith) e)
