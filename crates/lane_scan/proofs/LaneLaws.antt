-- Marks of rows, lane by lane.
use Rattle.std.proofs.Common.{rules, bit_and as and_bits, zero, ◌++◌, slice_index, ◌≡◌, ◌<◌, ◌+◌, ℕ, ℤ, List, [], ◌∷◌, Bool, true, false, cond, length, map, take, drop, get_or, replicate, suc, refl, ◌∙◌, ap, ap₂, to_z, of_z, w8, w64, ◌&&◌, arith}
use mir.Val.{SFits}
use mir.Syntax.{signed, lt, le, mask, cast, bit_and}
use borrow.Table.Row.{s_int}
use borrow.Rule.Simd.Lanes.{act1, act2, Asks1}
use lib.Signed.{le_z, lt_z}
use lib.Lanes.{zip2, sel_l, top, Each1}
use Rattle.std.proofs.lemmas.Int.{to_z-of_z}
use Rattle.std.proofs.lemmas.Simd.{Each1-zip2, Each2-all}
use Rattle.lane_scan.specs.Marks.{time_mark, code_mark, marks}
use Rattle.view_trait.specs.Numbered.{has_bit}
use Rattle.std.proofs.lemmas.List.{take_more, get_or-drop, length-drop}

-- all ones where a lane is at most another, or less, and 0 where not
abbrev pub at_most : ℕ → ℕ → ℕ
at_most = act2 (mask (le signed)) (s_int w64) (s_int w64) (s_int w64)

abbrev pub less : ℕ → ℕ → ℕ
less = act2 (mask (lt signed)) (s_int w64) (s_int w64) (s_int w64)

-- the bits of two lanes
abbrev pub both : ℕ → ℕ → ℕ
both = act2 bit_and (s_int w64) (s_int w64) (s_int w64)

-- a lane of a mask, made narrow
abbrev pub narrow : ℕ → ℕ
narrow = act1 (cast signed signed w8) (s_int w64) (s_int w8)

-- a lane of a mask can be made narrow
pub masks_fit : (xs ys : List ℕ) → Each1 (Asks1 (cast signed signed w8) (s_int w64)) (zip2 less xs ys)
masks_fit xs ys = Each1-zip2 less (Asks1 (cast signed signed w8) (s_int w64)) xs ys (Each2-all (λ x y. Asks1 (cast signed signed w8) (s_int w64) (less x y)) fits xs ys)
  where
    is : (b : Bool) → SFits w8 (to_z w64 (cond b 18446744073709551615 0))
    is true = search rules
    is false = search rules

    fits : (x y : ℕ) → Asks1 (cast signed signed w8) (s_int w64) (less x y)
    fits x y = is (lt_z (to_z w64 x) (to_z w64 y))

-- two lanes of masks that meet
meet : (p q : Bool) → ◌≡◌ {A = ℕ} (cond (top 7 (narrow (less (both (cond p 18446744073709551615 0) (cond q 18446744073709551615 0)) 0))) 1 0) (cond (p && q) 1 0)
meet true true = refl
meet true false = refl
meet false true = refl
meet false false = refl

-- the marks of times, lane by lane
pub times_marked : (lo hi : ℤ) (n : ℕ) (ts : List ℤ) → length ts ≡ n → SFits w64 lo → SFits w64 hi → Each1 (SFits w64) ts
    → sel_l (map (top 7) (map narrow (zip2 less (zip2 both (zip2 at_most (replicate n (of_z w64 lo)) (map (of_z w64) ts)) (zip2 less (map (of_z w64) ts) (replicate n (of_z w64 hi)))) (replicate n 0)))) (replicate n 1) (replicate n 0)
    ≡ map (time_mark lo hi) ts
times_marked lo hi zero [] long l h fit = refl
times_marked lo hi zero (t ∷ ts) long l h fit = cc
times_marked lo hi (suc n) [] long l h fit = cc
times_marked lo hi (suc n) (t ∷ ts) long l h fit =
    let from = ap₂ le_z (to_z-of_z w64 lo l) (to_z-of_z w64 t fit.0) in
    let to = ap₂ lt_z (to_z-of_z w64 t fit.0) (to_z-of_z w64 hi h) in
    ap₂ {A = ℕ} (λ m ms. m ∷ ms) (meet (le_z (to_z w64 (of_z w64 lo)) (to_z w64 (of_z w64 t))) (lt_z (to_z w64 (of_z w64 t)) (to_z w64 (of_z w64 hi))) ∙ ap₂ (λ p q. cond (p && q) 1 0) from to)
    (times_marked lo hi n ts (omega arith) l h fit.1)

-- a row is marked where its time is, and its code
joined : (p q : Bool) → ◌≡◌ {A = ℕ} (and_bits (cond p 1 0) (cond q 1 0)) (cond (p && q) 1 0)
joined true true = refl
joined true false = refl
joined false true = refl
joined false false = refl

-- the marks of rows are those of their times that meet those of their codes, which stand in a table
pub lanes_marked : (lo hi : ℤ) (bits : ℕ) (table : List ℕ) (ts : List ℤ) (cs : List ℕ) → length cs ≡ length ts → Each1 (λ c. slice_index table c ≡ code_mark bits c) cs
    → zip2 and_bits (map (time_mark lo hi) ts) (map (slice_index table) cs) ≡ marks lo hi bits ts cs
lanes_marked lo hi bits table [] [] same by = refl
lanes_marked lo hi bits table [] (c ∷ cs) same by = cc
lanes_marked lo hi bits table (t ∷ ts) [] same by = cc
lanes_marked lo hi bits table (t ∷ ts) (c ∷ cs) same by =
    ap₂ {A = ℕ} (λ m ms. m ∷ ms) (ap (and_bits (time_mark lo hi t)) by.0 ∙ joined (le_z lo t && lt_z t hi) (has_bit bits c))
    (lanes_marked lo hi bits table ts cs (omega arith) by.1)

-- one more of a list of which each is so
pub Each1-more : {X : Type 0} (P : X → Type 0) (xs : List X) (x : X) → Each1 P xs → P x → Each1 P (xs ++ x ∷ [])
Each1-more P [] x all is = (is, tt)
Each1-more P (y ∷ ys) x all is = (all.0, Each1-more P ys x all.1 is)

-- one more of what stands from a place on
pub take_more_drop : {X : Type 0} (xs : List X) (at i : ℕ) (d : X) → at + i < length xs → take (i + 1) (drop at xs) ≡ take i (drop at xs) ++ get_or xs (at + i) d ∷ []
take_more_drop xs at i d room =
    let within : i < length (drop at xs) = omega (arith, length-drop at xs) in
    take_more (drop at xs) i d within ∙ ap (λ x. take i (drop at xs) ++ x ∷ []) (get_or-drop at xs i d)
