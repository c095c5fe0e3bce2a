-- What is read of a line or of a part of it: a value, or the refusal that comes first over the whole
-- of it.
use Rattle.std.specs.Prelude.{ℕ, nat_le, List, [], ◌∷◌, ◌++◌, fold, Result, Ok, Err, if◌then◌else◌}
use Rattle.graph_model.specs.Script.{QueryRefusal, Json, Shape, Number, Depth, Windows}

-- the place of a cause in the order in which a query is judged
abbrev pub judged_as : QueryRefusal → ℕ
judged_as Json = 0
judged_as Shape = 1
judged_as Number = 2
judged_as Depth = 3
judged_as Windows = 4

-- of two refusals the one that is judged first
abbrev pub first_refusal : QueryRefusal → QueryRefusal → QueryRefusal
first_refusal refusal other =
    if nat_le (judged_as refusal) (judged_as other) then refusal else other

-- two values, or the refusal that comes first
abbrev pub both : {A B : Type 0} → Result A QueryRefusal → Result B QueryRefusal
    → Result (A × B) QueryRefusal
both (Ok a) (Ok b) = Ok (a, b)
both (Ok a) (Err refusal) = Err refusal
both (Err refusal) (Ok b) = Err refusal
both (Err refusal) (Err other) = Err (first_refusal refusal other)

-- what is made of a value, or its refusal
abbrev pub map_outcome : {A B : Type 0} → (A → B) → Result A QueryRefusal → Result B QueryRefusal
map_outcome make (Ok a) = Ok (make a)
map_outcome make (Err refusal) = Err refusal

-- a list with one value more at its end
abbrev pub put_last : {A : Type 0} → List A × A → List A
put_last p = p.0 ++ p.1 ∷ []

abbrev pub with_last : {A : Type 0} → Result (List A) QueryRefusal → Result A QueryRefusal
    → Result (List A) QueryRefusal
with_last values value = map_outcome put_last (both values value)

-- what is read of each item, in order
abbrev pub all_of : {A X : Type 0} → (X → Result A QueryRefusal) → List X
    → Result (List A) QueryRefusal
all_of f xs = fold (λ values x. with_last values (f x)) (Ok []) xs
