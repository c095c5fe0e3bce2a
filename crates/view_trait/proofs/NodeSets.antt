-- Numbers taken from two lists.
use Rattle.std.proofs.Common.{◌≡◌, ℕ, ◌+◌, ◌<◌, Bool, true, false, ◌&&◌, ◌||◌, List, length, take, Some, eqb, refl, sym, ◌∙◌, ap}
use Rattle.std.specs.Prelude.{slice_get}
use Rattle.std.proofs.lemmas.Bool.{eqb-true}
use Rattle.std.proofs.Math.Bool.{or-false}
use Rattle.std.specs.Ordering.{nat_cmp}
use Rattle.graph_model.specs.Rising.{put_rising}
use Rattle.view_trait.specs.Numbered.{is_listed}
use Rattle.view_trait.proofs.Rising.{listed_put}
use Rattle.view_trait.proofs.Selected.{listed_push, take_push}

taken_more : (xs : List ℕ) (i p n : ℕ) → i < length xs → slice_get xs i ≡ Some p → is_listed (take (i + 1) xs) n ≡ (is_listed (take i xs) n || eqb p n)
taken_more xs i p n lt is = ap (λ ys. is_listed ys n) (take_push xs i p lt is) ∙ listed_push (take i xs) p n

-- one number more of the first list, and of the second
first_last : (a b e : Bool) → ((a || b) || e) ≡ ((a || e) || b)
first_last true b e = refl
first_last false true true = refl
first_last false true false = refl
first_last false false true = refl
first_last false false false = refl

second_last : (a b e : Bool) → ((a || b) || e) ≡ (a || (b || e))
second_last true b e = refl
second_last false b e = refl

pub first_more : (xs ys zs : List ℕ) (i j p n : ℕ) → i < length xs → slice_get xs i ≡ Some p → is_listed zs n ≡ (is_listed (take i xs) n || is_listed (take j ys) n) → is_listed (put_rising nat_cmp p zs) n ≡ (is_listed (take (i + 1) xs) n || is_listed (take j ys) n)
first_more xs ys zs i j p n lt is h =
    listed_put p zs n
    ∙ (ap (λ b. b || eqb p n) h
    ∙ (first_last (is_listed (take i xs) n) (is_listed (take j ys) n) (eqb p n)
    ∙ ap (λ b. b || is_listed (take j ys) n) (sym (taken_more xs i p n lt is))))

pub second_more : (xs ys zs : List ℕ) (i j p n : ℕ) → j < length ys → slice_get ys j ≡ Some p → is_listed zs n ≡ (is_listed (take i xs) n || is_listed (take j ys) n) → is_listed (put_rising nat_cmp p zs) n ≡ (is_listed (take i xs) n || is_listed (take (j + 1) ys) n)
second_more xs ys zs i j p n lt is h =
    listed_put p zs n
    ∙ (ap (λ b. b || eqb p n) h
    ∙ (second_last (is_listed (take i xs) n) (is_listed (take j ys) n) (eqb p n)
    ∙ ap (λ b. is_listed (take i xs) n || b) (sym (taken_more ys j p n lt is))))

-- a number that a second list has, and one that it has not
common_last : (a b e : Bool) → (e ≡ true → b ≡ true) → ((a && b) || e) ≡ ((a || e) && b)
common_last a b true h = common_true a b (h refl)
  where
    common_true : (a b : Bool) → b ≡ true → ((a && b) || true) ≡ ((a || true) && b)
    common_true true true k = refl
    common_true true false k = cc
    common_true false true k = refl
    common_true false false k = cc
common_last a b false h = or-false (a && b) ∙ ap (λ t. t && b) (sym (or-false a))

other_last : (a b e : Bool) → (e ≡ true → b ≡ false) → (a && b) ≡ ((a || e) && b)
other_last a b true h = other_true a b (h refl)
  where
    other_true : (a b : Bool) → b ≡ false → (a && b) ≡ ((a || true) && b)
    other_true true b k = refl
    other_true false true k = cc
    other_true false false k = refl
other_last a b false h = ap (λ t. t && b) (sym (or-false a))

pub common_more : (xs ys zs : List ℕ) (i p n : ℕ) → i < length xs → slice_get xs i ≡ Some p → is_listed ys p ≡ true → is_listed zs n ≡ (is_listed (take i xs) n && is_listed ys n) → is_listed (put_rising nat_cmp p zs) n ≡ (is_listed (take (i + 1) xs) n && is_listed ys n)
common_more xs ys zs i p n lt is own h =
    listed_put p zs n
    ∙ (ap (λ b. b || eqb p n) h
    ∙ (common_last (is_listed (take i xs) n) (is_listed ys n) (eqb p n) (λ e. ap (is_listed ys) (sym (eqb-true p n e)) ∙ own)
    ∙ ap (λ b. b && is_listed ys n) (sym (taken_more xs i p n lt is))))

pub common_same : (xs ys zs : List ℕ) (i p n : ℕ) → i < length xs → slice_get xs i ≡ Some p → is_listed ys p ≡ false → is_listed zs n ≡ (is_listed (take i xs) n && is_listed ys n) → is_listed zs n ≡ (is_listed (take (i + 1) xs) n && is_listed ys n)
common_same xs ys zs i p n lt is other h =
    h
    ∙ (other_last (is_listed (take i xs) n) (is_listed ys n) (eqb p n) (λ e. ap (is_listed ys) (sym (eqb-true p n e)) ∙ other)
    ∙ ap (λ b. b && is_listed ys n) (sym (taken_more xs i p n lt is)))
