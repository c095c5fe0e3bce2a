-- Moments and edges that come out of a heap.
use Rattle.std.proofs.Common.{◌≡◌, ℕ, ℤ, ◌≤ℤ◌, ◌<ℤ◌, true, false, List, [], ◌∷◌, map, cond, length, refl, sym, ◌∙◌, ap, arith}
use Rattle.std.specs.List.{AllByRecursion}
use Rattle.std.specs.declared.cmp.Ordering.TheVariants.{Less, Equal, Greater}
use Rattle.std.specs.declared.cmp.Reverse.{Reverse}
use Rattle.std.specs.Ordering.{is_lt, ordering_then, int_cmp, nat_cmp}
use Rattle.std.specs.Prelude.{int_lt}
use Rattle.std.proofs.lemmas.Bool.{true≢false}
use Rattle.std.proofs.lemmas.Int.{by_lt_z}
use Rattle.world_laws.proofs.Times.{lt_test}

-- what a heap holds, as moments with edges
abbrev pub offer : Reverse (ℤ × ℕ) → ℤ × ℕ
offer x = (x.0.0, x.0.1)

-- the greatest of a heap that turns the order round has the least moment
least_one : (x y : Reverse (ℤ × ℕ)) → is_lt (ordering_then (int_cmp y.0.0 x.0.0) (nat_cmp y.0.1 x.0.1)) ≡ false → x.0.0 ≤ℤ y.0.0
least_one x y h = by_lt_z y.0.0 x.0.0 (λ less. absurd (true≢false (sym (first less) ∙ h))) (λ le. le)
  where
    first : y.0.0 <ℤ x.0.0 → is_lt (ordering_then (int_cmp y.0.0 x.0.0) (nat_cmp y.0.1 x.0.1)) ≡ true
    first less = ap (λ b. is_lt (ordering_then (cond b Less (cond (int_lt x.0.0 y.0.0) Greater Equal)) (nat_cmp y.0.1 x.0.1))) (lt_test y.0.0 x.0.0 less)

pub least_all : (x : Reverse (ℤ × ℕ)) (ys : List (Reverse (ℤ × ℕ))) → AllByRecursion (λ y. is_lt (ordering_then (int_cmp y.0.0 x.0.0) (nat_cmp y.0.1 x.0.1)) ≡ false) ys → AllByRecursion (λ (y : ℤ × ℕ). x.0.0 ≤ℤ y.0) (map offer ys)
least_all x [] h = tt
least_all x (y ∷ ys) h = (least_one x y h.0, least_all x ys h.1)

pub no_items : (xs : List (Reverse (ℤ × ℕ))) → length xs ≡ 0 → map offer xs ≡ []
no_items [] h = refl
no_items (x ∷ xs) h = absurd (omega (arith, h))
