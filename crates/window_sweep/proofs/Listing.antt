-- Numbers that are listed rising, each once.
use Rattle.std.proofs.Common.{◌≡◌, ℕ, ◌+◌, ◌≤◌, List, [], ◌∷◌, cond, length, sym, ◌∙◌, ap, arith}
use Rattle.std.specs.Prelude.{◌==◌}
use Rattle.std.specs.Cmp.{unsigned_tied}
use Rattle.std.specs.declared.cmp.Ordering.TheVariants.{Equal}
use Rattle.std.specs.Ordering.{is_eq, is_gt, is_lt, nat_cmp}
use Rattle.std.proofs.lemmas.Bool.{cond_both, eqb-true}
use Rattle.graph_model.specs.Rising.{put_rising, rising}
use Rattle.world_laws.proofs.RisingItems.{any_rising}
use Rattle.view_trait.specs.Numbered.{is_listed}

pub listed_rising : (xs : List ℕ) (n : ℕ) → is_listed (rising nat_cmp xs) n ≡ is_listed xs n
listed_rising xs n = any_rising nat_cmp (λ m. m == n) (λ x y e. ap (λ m. m == n) (same x y e)) xs
  where
    same : (x y : ℕ) → nat_cmp x y ≡ Equal → x ≡ y
    same x y e = eqb-true x y (sym (unsigned_tied x y) ∙ ap is_eq e)

length_put : (x : ℕ) (ys : List ℕ) → length (put_rising nat_cmp x ys) ≤ length ys + 1
length_put x [] = omega arith
length_put x (y ∷ ys) =
    let rest = length_put x ys in
    cond_both (is_lt (nat_cmp x y)) (x ∷ y ∷ ys) (cond (is_gt (nat_cmp x y)) (y ∷ put_rising nat_cmp x ys) (y ∷ ys)) (λ l. length l ≤ length (y ∷ ys) + 1)
    (λ e. omega arith)
    (λ e. cond_both (is_gt (nat_cmp x y)) (y ∷ put_rising nat_cmp x ys) (y ∷ ys) (λ l. length l ≤ length (y ∷ ys) + 1) (λ f. omega (arith, rest)) (λ f. omega arith))

pub length_rising : (xs : List ℕ) → length (rising nat_cmp xs) ≤ length xs
length_rising [] = omega arith
length_rising (x ∷ xs) = let rest = length_rising xs in let one = length_put x (rising nat_cmp xs) in omega (arith, rest, one)
