-- What holds of each item of a list, of its parts, and of what is looked for in it.
use Rattle.std.proofs.Common.{◌≡◌, ℕ, zero, suc, take, drop, Bool, true, false, List, [], ◌∷◌, ◌++◌, cond, None, Some, refl, sym, ◌∙◌}
use Rattle.std.specs.List.{AllByRecursion, filter, find}
use Rattle.std.proofs.lemmas.Bool.{true≢false}

pub each_front : {X : Type 0} (P : X → Type 0) (us vs : List X) → AllByRecursion P (us ++ vs) → AllByRecursion P us
each_front P [] vs h = tt
each_front P (u ∷ us) vs h = (h.0, each_front P us vs h.1)

pub each_rest : {X : Type 0} (P : X → Type 0) (us vs : List X) → AllByRecursion P (us ++ vs) → AllByRecursion P vs
each_rest P [] vs h = h
each_rest P (u ∷ us) vs h = each_rest P us vs h.1

pub each_middle : {X : Type 0} (P : X → Type 0) (us : List X) (v : X) (vs : List X) → AllByRecursion P (us ++ v ∷ vs) → P v
each_middle P us v vs h = (each_rest P us (v ∷ vs) h).0

pub each_take : {X : Type 0} (P : X → Type 0) (n : ℕ) (xs : List X) → AllByRecursion P xs → AllByRecursion P (take n xs)
each_take P zero xs h = tt
each_take P (suc n) [] h = tt
each_take P (suc n) (x ∷ xs) h = (h.0, each_take P n xs h.1)

pub each_drop : {X : Type 0} (P : X → Type 0) (n : ℕ) (xs : List X) → AllByRecursion P xs → AllByRecursion P (drop n xs)
each_drop P zero xs h = h
each_drop P (suc n) [] h = tt
each_drop P (suc n) (x ∷ xs) h = each_drop P n xs h.1

-- what holds of the items that a filter keeps
pub each_where : {X : Type 0} (P : X → Type 0) (t : X → Bool) (xs : List X) → AllByRecursion P (filter t xs) → AllByRecursion (λ x. t x ≡ true → P x) xs
each_where P t [] h = tt
each_where P t (x ∷ xs) h = by (t x) refl h (λ k. each_where P t xs k)
  where
    by : (b : Bool) → t x ≡ b → AllByRecursion P (cond b (x ∷ filter t xs) (filter t xs)) → (AllByRecursion P (filter t xs) → AllByRecursion (λ y. t y ≡ true → P y) xs) → AllByRecursion (λ y. t y ≡ true → P y) (x ∷ xs)
    by true e k rest = (λ i. k.0, rest k.1)
    by false e k rest = (λ i. absurd (true≢false (sym i ∙ e)), rest k)

-- where nothing is found, nothing passes
pub none_found : {X : Type 0} (p : X → Bool) (xs : List X) → find p xs ≡ None → AllByRecursion (λ x. p x ≡ false) xs
none_found p [] e = tt
none_found p (x ∷ xs) e = by (p x) refl e (λ k. none_found p xs k)
  where
    by : (t : Bool) → p x ≡ t → cond t (Some x) (find p xs) ≡ None → (find p xs ≡ None → AllByRecursion (λ y. p y ≡ false) xs) → AllByRecursion (λ y. p y ≡ false) (x ∷ xs)
    by true h k rest = cc
    by false h k rest = (h, rest k)

pub found_none : {X : Type 0} (p : X → Bool) (xs : List X) → AllByRecursion (λ x. p x ≡ false) xs → find p xs ≡ None
found_none p [] h = refl
found_none p (x ∷ xs) h = rw (h.0, found_none p xs h.1) refl
