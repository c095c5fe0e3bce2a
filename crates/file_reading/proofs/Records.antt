-- Records that are read one after another.
use Rattle.std.proofs.Common.{◌≡◌, ◌≤◌, ◌+◌, ◌∷◌, ◌==◌, ℕ, List, [], length, refl, arith}
use Rattle.std.proofs.lemmas.List.{length-append}
use Rattle.graph_model.specs.declared.events.Model.{Model}
use Rattle.graph_model.specs.Reading.{Happens, Judged, GivesType, Reading, Refused, Spans, judge, read_on, with_record}

-- accepted events stay
with_record-grows : (r : Reading) (number : ℕ) (judged : Judged) → length r.accepted ≤ length (with_record r number judged).accepted
with_record-grows r number (Spans bounds) = omega arith
with_record-grows r number (GivesType node name) = omega arith
with_record-grows r number (Happens event) = let size = length-append r.accepted (event ∷ []) in omega arith
with_record-grows r number (Refused refusal) = omega arith

pub read_on-grows : (model : Model) (r : Reading) (number : ℕ) (records : List (List (List ℕ))) → length r.accepted ≤ length (read_on model r number records).accepted
read_on-grows model r number [] = omega arith
read_on-grows model r number (fields ∷ more) =
    let next = with_record r number (judge model r (number == 1) fields) in
    let first = with_record-grows r number (judge model r (number == 1) fields) in
    let rest = read_on-grows model next (number + 1) more in
    omega arith

-- one record more
pub read_on-next : (model m2 : Model) (r r2 : Reading) (number : ℕ) (left more : List (List (List ℕ))) (fields : List (List ℕ)) → left ≡ fields ∷ more → m2 ≡ model
    → r2 ≡ with_record r number (judge m2 r (number == 1) fields) → read_on model r2 (number + 1) more ≡ read_on model r number left
read_on-next model m2 r r2 number left more fields is same with = rw (is, with, same) refl
