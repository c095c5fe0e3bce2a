-- The numbers that are found for names, one name after another.
use Rattle.std.proofs.Common.{◌≡◌, ℕ, ◌+◌, ◌*◌, ◌^◌, ◌%◌, ◌<◌, Bool, true, false, ◌&&◌, ◌||◌, List, [], ◌∷◌, ◌++◌, length, take, get_or, Some, None, nat_lt, refl, sym, ◌∙◌, ap, subst, arith, inl, inr, eqb}
use Rattle.std.specs.Prelude.{position, slice_get, bit_or}
use Rattle.std.specs.Int.{w64}
use Rattle.std.specs.List.{IsDistinct}
use Rattle.std.proofs.lemmas.Bool.{cases_Bool, true≢false, eqb-true, eqb-false}
use Rattle.std.proofs.lemmas.Bool.Decides.{nat_tests}
use Rattle.std.proofs.lemmas.List.{take_more}
use Rattle.std.proofs.lemmas.List.Folds.{list_any-append}
use Rattle.std.proofs.lemmas.List.Quantifiers.{position-Some}
use Rattle.std.proofs.lemmas.Option.{get_or_from_slice_get}
use Rattle.std.proofs.lemmas.Nat.Bits.{bit_at-zero, bit_at_set_same, bit_at_set_other}
use Rattle.std.proofs.Math.Bool.{or-false}
use Rattle.graph_model.specs.Names.{same_name}
use Rattle.graph_model.specs.Keep.{is_named}
use Rattle.world_laws.proofs.Members.{both_true}
use Rattle.world_laws.proofs.Order.{same_name-exact, same_name-refl}
use Rattle.graph_store.specs.Contents.{name_at}
use Rattle.graph_store.proofs.Listed.{one_place, list_any-place}
use Rattle.graph_store.proofs.Readers.{none_found}
use Rattle.view_trait.specs.Drawn.{Selects}
use Rattle.view_trait.specs.Numbered.{has_bit, is_listed}

is_named-push : (names : List (List ℕ)) (x name : List ℕ) → is_named (names ++ x ∷ []) name ≡ (is_named names name || same_name name x)
is_named-push names x name = list_any-append (same_name name) names (x ∷ []) ∙ ap (λ b. is_named names name || b) (or-false (same_name name x))

pub take_push : {X : Type 0} (xs : List X) (i : ℕ) (x : X) → i < length xs → slice_get xs i ≡ Some x → take (i + 1) xs ≡ take i xs ++ x ∷ []
take_push xs i x lt is = take_more xs i x lt ∙ ap (λ y. take i xs ++ y ∷ []) (get_or_from_slice_get xs i x x is)

-- no name selects no number
pub selects_none : (table : List (List ℕ)) (test : ℕ → Bool) → ((n : ℕ) → test n ≡ false) → Selects table [] test
selects_none table test h n lt = h n

-- the number of a name
number_is : (table : List (List ℕ)) (x : List ℕ) (p n : ℕ) → IsDistinct same_name table → position (same_name x) table ≡ Some p → n < length table → eqb p n ≡ same_name (name_at table n) x
number_is table x p n once is lt =
    let r = position-Some (same_name x) table p [] is in
    let named : x ≡ name_at table p = same_name-exact x (get_or table p []) r.1 in
    both_true (eqb p n) (same_name (name_at table n) x)
    (λ e. subst (λ y. same_name (name_at table n) y ≡ true) (sym (named ∙ ap (name_at table) (eqb-true p n e))) (same_name-refl (name_at table n)))
    (λ e. let q : p ≡ n = one_place same_name same_name-refl table p n [] once r.0 lt (sym named ∙ sym (same_name-exact (name_at table n) x e)) in let t : eqb p n ≡ true = grind (arith, nat_tests, q) in t)

-- a name that a number has
pub selects_more : (table names : List (List ℕ)) (i : ℕ) (x : List ℕ) (p : ℕ) (test more : ℕ → Bool) → IsDistinct same_name table → i < length names → slice_get names i ≡ Some x → position (same_name x) table ≡ Some p
    → Selects table (take i names) test → ((n : ℕ) → n < length table → more n ≡ (test n || eqb p n)) → Selects table (take (i + 1) names) more
selects_more table names i x p test more once lt_i at is h k n lt =
    k n lt
    ∙ (ap (λ b. b || eqb p n) (h n lt)
    ∙ (ap (λ b. is_named (take i names) (name_at table n) || b) (number_is table x p n once is lt)
    ∙ (sym (is_named-push (take i names) x (name_at table n)) ∙ ap (λ ys. is_named ys (name_at table n)) (sym (take_push names i x lt_i at)))))

-- and one that none has
other_name : (table : List (List ℕ)) (x : List ℕ) (n : ℕ) → position (same_name x) table ≡ None → n < length table → same_name (name_at table n) x ≡ false
other_name table x n none lt = elim (cases_Bool (same_name (name_at table n) x)) [
  | inl e ↦ absurd (
      let is = same_name-exact (name_at table n) x e in
      let own : same_name x (get_or table n []) ≡ true = subst (λ y. same_name y (name_at table n) ≡ true) is (same_name-refl (name_at table n)) in
      true≢false (sym (list_any-place (same_name x) table n [] lt own) ∙ none_found (same_name x) table none))
  | inr e ↦ e
]

pub selects_same : (table names : List (List ℕ)) (i : ℕ) (x : List ℕ) (test : ℕ → Bool) → i < length names → slice_get names i ≡ Some x → position (same_name x) table ≡ None → Selects table (take i names) test → Selects table (take (i + 1) names) test
selects_same table names i x test lt_i at none h n lt =
    h n lt
    ∙ (sym (or-false (is_named (take i names) (name_at table n)))
    ∙ (ap (λ b. is_named (take i names) (name_at table n) || b) (sym (other_name table x n none lt))
    ∙ (sym (is_named-push (take i names) x (name_at table n)) ∙ ap (λ ys. is_named ys (name_at table n)) (sym (take_push names i x lt_i at)))))

-- ---- tests of numbers, with one number more

pub no_bit : (n : ℕ) → has_bit 0 n ≡ false
no_bit n = let e = bit_at-zero n in ap (λ b. eqb b 1) e

pub bit_set : (bits p n : ℕ) → p < 64 → has_bit (bit_or bits (1 * 2 ^ p % 2 ^ 64)) n ≡ (has_bit bits n || eqb p n)
bit_set bits p n within = elim (cases_Bool (eqb p n)) [
  | inl e ↦ ap (has_bit (bit_or bits (1 * 2 ^ p % 2 ^ 64))) (sym (eqb-true p n e)) ∙ (ap (λ b. eqb b 1) (bit_at_set_same w64 bits p within) ∙ sym (ap (λ b. has_bit bits n || b) e ∙ or_any (has_bit bits n)))
  | inr e ↦ ap (λ b. eqb b 1) (bit_at_set_other w64 bits p within n (λ same. eqb-false p n e (sym same))) ∙ sym (ap (λ b. has_bit bits n || b) e ∙ or-false (has_bit bits n))
]
  where
    or_any : (b : Bool) → (b || true) ≡ true
    or_any true = refl
    or_any false = refl

pub listed_push : (xs : List ℕ) (p n : ℕ) → is_listed (xs ++ p ∷ []) n ≡ (is_listed xs n || eqb p n)
listed_push xs p n = list_any-append (λ m. eqb m n) xs (p ∷ []) ∙ ap (λ b. is_listed xs n || b) (or-false (eqb p n))

-- ---- numbers below a bound that pass a test

pub below_none : (P : ℕ → Bool) (n : ℕ) → false ≡ (nat_lt n 0 && P n)
below_none P n = let e : nat_lt n 0 ≡ false = grind (arith, nat_tests) in sym (ap (λ b. b && P n) e)

below_is : (i n : ℕ) → nat_lt n (i + 1) ≡ (nat_lt n i || eqb i n)
below_is i n = grind (arith, nat_tests)

-- one more that passes, and one that does not
pub below_more : (P : ℕ → Bool) (i n : ℕ) → P i ≡ true → ((nat_lt n i && P n) || eqb i n) ≡ (nat_lt n (i + 1) && P n)
below_more P i n h = elim (cases_Bool (eqb i n)) [
  | inl e ↦ let same = eqb-true i n e in let own : P n ≡ true = ap P (sym same) ∙ h in sym (ap (λ b. b && P n) (below_is i n) ∙ go (nat_lt n i) (P n) (eqb i n) own e)
  | inr e ↦ sym (ap (λ b. b && P n) (below_is i n) ∙ other (nat_lt n i) (P n) (eqb i n) e)
]
  where
    go : (a b d : Bool) → b ≡ true → d ≡ true → ((a || d) && b) ≡ ((a && b) || d)
    go true b d h k = ap (λ t. t) h ∙ sym (ap (λ t. t || d) h)
    go false b d h k = ap (λ t. t && b) k ∙ (h ∙ sym k)

    other : (a b d : Bool) → d ≡ false → ((a || d) && b) ≡ ((a && b) || d)
    other true b d k = sym (ap (λ t. b || t) k ∙ or-false b)
    other false b d k = ap (λ t. t && b) k ∙ sym k

pub below_same : (P : ℕ → Bool) (i n : ℕ) → P i ≡ false → (nat_lt n i && P n) ≡ (nat_lt n (i + 1) && P n)
below_same P i n h = elim (cases_Bool (eqb i n)) [
  | inl e ↦ let own : P n ≡ false = ap P (sym (eqb-true i n e)) ∙ h in neither (nat_lt n i) (nat_lt n (i + 1)) (P n) own
  | inr e ↦ sym (ap (λ b. b && P n) (below_is i n ∙ (ap (λ b. nat_lt n i || b) e ∙ or-false (nat_lt n i))))
]
  where
    neither : (a b d : Bool) → d ≡ false → (a && d) ≡ (b && d)
    neither true true d k = refl
    neither true false d k = k
    neither false true d k = sym k
    neither false false d k = refl
