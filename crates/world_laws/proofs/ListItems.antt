-- What holds of the items of a list: at a place, in its front and its rest, among images; and what tests find among them.
use Rattle.std.proofs.Common.{◌≡◌, ℕ, zero, suc, ◌<◌, Bool, true, ◌||◌, List, [], ◌∷◌, ◌++◌, Option, Some, None, length, map, take, drop, get_or, refl, sym, ap, arith, inl, inr}
use Rattle.std.specs.Prelude.{is_some}
use Rattle.std.specs.List.{filter_map, list_all, list_any, last_or, AllByRecursion}
use Rattle.std.proofs.lemmas.Bool.{and_from, and_parts, or_cases, true≢false}

-- ---- places

-- what holds of each item holds of the one at a place
pub each_at : {X : Type 0} (P : X → Type 0) (xs : List X) (i : ℕ) (d : X) → AllByRecursion P xs → i < length xs → P (get_or xs i d)
each_at P [] i d h lt = absurd (omega arith)
each_at P (x ∷ xs) zero d h lt = h.0
each_at P (x ∷ xs) (suc i) d h lt = each_at P xs i d h.1 (omega arith)

-- what holds at each place holds of each item
pub each_from : {X : Type 0} (P : X → Type 0) (xs : List X) (d : X) → ((i : ℕ) → i < length xs → P (get_or xs i d)) → AllByRecursion P xs
each_from P [] d h = tt
each_from P (x ∷ xs) d h = (h 0 (omega arith), each_from P xs d (λ i lt. h (suc i) (omega arith)))

-- ---- parts

-- what holds of each item holds of the first ones
pub each_take : {X : Type 0} (P : X → Type 0) (n : ℕ) (xs : List X) → AllByRecursion P xs → AllByRecursion P (take n xs)
each_take P zero xs h = tt
each_take P (suc n) [] h = tt
each_take P (suc n) (x ∷ xs) h = (h.0, each_take P n xs h.1)

-- and of those behind them
pub each_drop : {X : Type 0} (P : X → Type 0) (n : ℕ) (xs : List X) → AllByRecursion P xs → AllByRecursion P (drop n xs)
each_drop P zero xs h = h
each_drop P (suc n) [] h = tt
each_drop P (suc n) (x ∷ xs) h = each_drop P n xs h.1

-- ---- images

-- what holds of the image of each item holds of each image
pub each_map : {X Y : Type 0} (P : Y → Type 0) (f : X → Y) (xs : List X) → AllByRecursion (λ x. P (f x)) xs → AllByRecursion P (map f xs)
each_map P f [] h = tt
each_map P f (x ∷ xs) h = (h.0, each_map P f xs h.1)

-- some image passes a test where some item's image does
pub any_map : {X Y : Type 0} (p : Y → Bool) (f : X → Y) (xs : List X) → list_any p (map f xs) ≡ list_any (λ x. p (f x)) xs
any_map p f [] = refl
any_map p f (x ∷ xs) = ap (λ t. p (f x) || t) (any_map p f xs)

-- where no item has an image there is none
pub no_images : {X Y : Type 0} (f : X → Option Y) (xs : List X) → AllByRecursion (λ x. f x ≡ None) xs → filter_map f xs ≡ []
no_images f [] h = refl
no_images f (x ∷ xs) h = rw h.0 (no_images f xs h.1)

-- ---- tests

-- what follows from each item that passes a test follows where some item passes
pub any_one : {X : Type 0} (p : X → Bool) (C : Type 0) (xs : List X) → AllByRecursion (λ x. p x ≡ true → C) xs → list_any p xs ≡ true → C
any_one p C [] k h = absurd (true≢false (sym h))
any_one p C (x ∷ xs) k h = elim (or_cases (p x) (list_any p xs) h) [ inl e ↦ k.0 e | inr e ↦ any_one p C xs k.1 e ]

-- where all items pass a test, and one more does, all do
pub all_push : {X : Type 0} (p : X → Bool) (xs : List X) (x : X) → list_all p xs ≡ true → p x ≡ true → list_all p (xs ++ x ∷ []) ≡ true
all_push p [] x h k = and_from (p x) true k refl
all_push p (y ∷ ys) x h k = let m = and_parts (p y) (list_all p ys) h in and_from (p y) (list_all p (ys ++ x ∷ [])) m.0 (all_push p ys x m.1 k)

-- ---- the last item

-- items behind one have a last one with it
pub some_last : {X : Type 0} (x : X) (xs : List X) → is_some (last_or (Some x) xs) ≡ true
some_last x [] = refl
some_last x (y ∷ ys) = some_last y ys
