-- Numbers, and the places at which they stand.
use Rattle.std.proofs.Common.{◌≡◌, inl, inr, ℕ, suc, ◌+◌, ◌-◌, ◌<◌, ◌≤◌, Bool, true, false, not, ◌&&◌, ◌||◌, List, [], ◌∷◌, length, refl, sym, ◌∙◌, ap, subst, arith}
use Rattle.std.specs.Prelude.{◌==◌, slice_index, slice_index_or}
use Rattle.std.specs.List.{swap_remove}
use Rattle.std.proofs.lemmas.Bool.Decides.{nat_tests}
use Rattle.std.proofs.lemmas.Bool.{cases_eq}
use Rattle.std.proofs.lemmas.Grind.{get_or_default_zero}
use Rattle.std.proofs.lemmas.List.Sorted.{IsPermutation-swap_remove, list_any-IsPermutation}
use Rattle.event_sweep.specs.Numbers.{is_listed, ArePlaced}

-- a number that stands at no place is not there
pub missing : (ns : List ℕ) (n : ℕ) → ((i : ℕ) → i < length ns → slice_index ns i ≡ n → ⊥) → is_listed ns n ≡ false
missing [] n h = refl
missing (x ∷ xs) n h = first ∙ missing xs n (λ i lt is. h (suc i) (omega (arith, lt)) is)
  where
    by : (t : Bool) → (x == n) ≡ t → (x == n) ≡ false
    by true e = absurd (h 0 (omega arith) (let is : x ≡ n = grind (arith, nat_tests) in is))
    by false e = e

    first : is_listed (x ∷ xs) n ≡ is_listed xs n
    first = ap (λ t. t || is_listed xs n) (by (x == n) refl)

-- a number past all places is not there
pub missing_past : (ns ps : List ℕ) (n : ℕ) → ArePlaced ns ps → length ps ≤ n → is_listed ns n ≡ false
missing_past ns ps n h past = missing ns n (λ i lt is.
    let low = subst (λ m. m < length ps) is (h.within i lt) in omega (arith, low, past))

-- nor is one at whose place stands nothing, or another
pub missing_there : (ns ps : List ℕ) (n p : ℕ) → ArePlaced ns ps → p ≡ slice_index ps n → (p < length ns → slice_index ns p ≡ n → ⊥) → is_listed ns n ≡ false
missing_there ns ps n p h read other = missing ns n (λ i lt is.
    let at : p ≡ i = read ∙ (ap (slice_index ps) (sym is) ∙ h.at i lt) in
    other (subst (λ m. m < length ns) (sym at) lt) (ap (slice_index ns) at ∙ is))

-- no number stands at two places
pub one_place : (ns ps : List ℕ) (i j : ℕ) → ArePlaced ns ps → i < length ns → j < length ns → slice_index ns i ≡ slice_index ns j → i ≡ j
one_place ns ps i j h a b is = sym (h.at i a) ∙ (ap (slice_index ps) is ∙ h.at j b)

-- the last number takes the place of one that goes
pub record Moved (ns zs : List ℕ) (place : ℕ) : Type 0 where
  pub long : length zs + 1 ≡ length ns
  pub there : place + 1 < length ns → slice_index zs place ≡ slice_index ns (length ns - 1)
  pub others : (k : ℕ) → (k ≡ place → ⊥) → k + 1 < length ns → slice_index zs k ≡ slice_index ns k

-- the number that went is not there any more
gone : (ns ps zs : List ℕ) (place : ℕ) → ArePlaced ns ps → place < length ns → Moved ns zs place → is_listed zs (slice_index ns place) ≡ false
gone ns ps zs place h below moved = missing zs (slice_index ns place) (λ k lt at. elim (cases_eq k place) [
  | inl same ↦
      let long = moved.long in
      let end : place ≡ length ns - 1 = one_place ns ps place (length ns - 1) h below (omega (arith, below)) (sym at ∙ (ap (slice_index zs) same ∙ moved.there (omega (arith, lt, long, same)))) in
      omega (arith, end, lt, long, same)
  | inr other ↦
      let long = moved.long in
      other (one_place ns ps k place h (omega (arith, lt, long)) below (sym (moved.others k other (omega (arith, lt, long))) ∙ at))
])

-- the others are
pub others_left : (ns ps zs : List ℕ) (place x : ℕ) → ArePlaced ns ps → place < length ns
    → x ≡ slice_index_or ns place x → zs ≡ swap_remove ns place x → Moved ns zs place
    → (m : ℕ) → is_listed zs m ≡ (is_listed ns m && not (slice_index ns place == m))
others_left ns ps zs place x h below is left moved m = by (slice_index ns place == m) refl
  where
    same : x ≡ slice_index ns place
    same = is ∙ get_or_default_zero ns place x below

    all : is_listed ns m ≡ ((slice_index ns place == m) || is_listed zs m)
    all =
        list_any-IsPermutation (λ n. n == m) ns (x ∷ swap_remove ns place x) (IsPermutation-swap_remove ns place x below is)
        ∙ (λ i. (same i == m) || is_listed (sym left i) m)

    by : (t : Bool) → (slice_index ns place == m) ≡ t → is_listed zs m ≡ (is_listed ns m && not (slice_index ns place == m))
    by true e =
        let one : slice_index ns place ≡ m = grind (arith, nat_tests) in
        ap (is_listed zs) (sym one) ∙ (gone ns ps zs place h below moved ∙ sym (ap (λ t. is_listed ns m && not t) e ∙ and_false (is_listed ns m)))
      where
        and_false : (b : Bool) → (b && false) ≡ false
        and_false true = refl
        and_false false = refl
    by false e =
        sym (ap (λ t. is_listed ns m && not t) e ∙ (and_true (is_listed ns m) ∙ (all ∙ ap (λ t. t || is_listed zs m) e)))
      where
        and_true : (b : Bool) → (b && true) ≡ b
        and_true true = refl
        and_true false = refl
