-- A value is refused for a cause, or for one that is judged before it, exactly where one of its parts is.
use Rattle.std.proofs.Common.{◌≡◌, ◌≤◌, ◌<◌, ℕ, List, [], ◌∷◌, Bool, true, false, ◌||◌, Option, Some, None, Result, Ok, Err, refl, ap, sym, ◌∙◌, cond, codes, arith}
use Rattle.std.proofs.lemmas.Bool.{le-leb, leb-true, leb-false}
use Rattle.std.specs.List.{list_any, fold}
use Rattle.std.specs.Prelude.{nat_le}
use Rattle.serde_json.specs.Data.{Data}
use Rattle.serde_json.specs.Find.{as_object, get}
use Rattle.graph_model.specs.QueryForms.{view_said}
use Rattle.graph_model.specs.QueryLine.{ask_in, depth_of, each_in, has_query_keys, parts_said, query_from, value_said, views_in, views_listed}
use Rattle.graph_model.specs.QueryOutcome.{both, judged_as, map_outcome, with_last}
use Rattle.graph_model.specs.QueryPlaces.{as_list}
use Rattle.graph_model.specs.Script.{QueryRefusal, Shape}
use Rattle.query_script.specs.Order.{are_refused_by, is_refused_by, parts_refused_by, value_refused_by, views_refused_by}

or_false : (t : Bool) → (t || false) ≡ t
or_false true = refl
or_false false = refl

or_assoc : (s t u : Bool) → ((s || t) || u) ≡ (s || (t || u))
or_assoc true t u = refl
or_assoc false t u = refl

or_absorbs : (s t : Bool) → (t ≡ true → s ≡ true) → s ≡ (s || t)
or_absorbs true t h = refl
or_absorbs false true h = h refl
or_absorbs false false h = refl

or_absorbed : (s t : Bool) → (s ≡ true → t ≡ true) → t ≡ (s || t)
or_absorbed true t h = h refl
or_absorbed false t h = refl

through : (m n w : ℕ) → m ≤ n → nat_le n w ≡ true → nat_le m w ≡ true
through m n w below test = let u : n ≤ w = leb-true n w test in le-leb m w (omega arith)

-- the first of two refusals comes at or before a cause exactly where one of the two does
first_by : (t : Bool) (e f : QueryRefusal) (w : ℕ) → nat_le (judged_as e) (judged_as f) ≡ t → nat_le (judged_as (cond t e f)) w ≡ (nat_le (judged_as e) w || nat_le (judged_as f) w)
first_by true e f w test = or_absorbs (nat_le (judged_as e) w) (nat_le (judged_as f) w) (through (judged_as e) (judged_as f) w (leb-true (judged_as e) (judged_as f) test))
first_by false e f w test =
    let after : judged_as f < judged_as e = leb-false (judged_as e) (judged_as f) test in
    or_absorbed (nat_le (judged_as e) w) (nat_le (judged_as f) w) (through (judged_as f) (judged_as e) w (omega arith))

pub of_both : {A B : Type 0} (why : QueryRefusal) (a : Result A QueryRefusal) (b : Result B QueryRefusal) → is_refused_by why (both a b) ≡ (is_refused_by why a || is_refused_by why b)
of_both why (Ok a) (Ok b) = refl
of_both why (Ok a) (Err f) = refl
of_both why (Err e) (Ok b) = sym (or_false (nat_le (judged_as e) (judged_as why)))
of_both why (Err e) (Err f) = first_by (nat_le (judged_as e) (judged_as f)) e f (judged_as why) refl

pub of_made : {A B : Type 0} (why : QueryRefusal) (make : A → B) (a : Result A QueryRefusal) → is_refused_by why (map_outcome make a) ≡ is_refused_by why a
of_made why make (Ok a) = refl
of_made why make (Err e) = refl

of_fold : {A X : Type 0} (why : QueryRefusal) (f : X → Result A QueryRefusal) (values : Result (List A) QueryRefusal) (xs : List X)
    → is_refused_by why (fold (λ so_far x. with_last so_far (f x)) values xs) ≡ (is_refused_by why values || list_any (λ x. is_refused_by why (f x)) xs)
of_fold why f values [] = sym (or_false (is_refused_by why values))
of_fold why f values (x ∷ xs) =
    of_fold why f (with_last values (f x)) xs
    ∙ ap (λ t. t || list_any (λ y. is_refused_by why (f y)) xs) (of_made why _ (both values (f x)) ∙ of_both why values (f x))
    ∙ or_assoc (is_refused_by why values) (is_refused_by why (f x)) (list_any (λ y. is_refused_by why (f y)) xs)

of_listed : (why : QueryRefusal) (o : Option (List Data)) → is_refused_by why (views_listed o) ≡ are_refused_by why o
of_listed why None = refl
of_listed why (Some ds) =
    of_made why _ (both (fold (λ so_far d. with_last so_far (view_said d)) (Ok []) ds) (depth_of ds))
    ∙ of_both why (fold (λ so_far d. with_last so_far (view_said d)) (Ok []) ds) (depth_of ds)
    ∙ ap (λ t. t || is_refused_by why (depth_of ds)) (of_fold why view_said (Ok []) ds)

of_views : (why : QueryRefusal) (o : Option Data) → is_refused_by why (views_in o) ≡ views_refused_by why o
of_views why None = refl
of_views why (Some d) = of_listed why (as_list d)

of_parts : (why : QueryRefusal) (d : Data) → is_refused_by why (parts_said d) ≡ parts_refused_by why d
of_parts why d =
    let ask = ask_in (get (codes "ask") d) in
    let views = views_in (get (codes "views") d) in
    let each = each_in (get (codes "each") d) in
    of_both why (both ask views) each
    ∙ ap (λ t. t || is_refused_by why each) (of_both why ask views ∙ ap (λ t. is_refused_by why ask || t) (of_views why (get (codes "views") d)))

of_keys : {A : Type 0} (why : QueryRefusal) (t : Bool) (r : Result A QueryRefusal) (s : Bool) → is_refused_by why r ≡ s
    → is_refused_by why (cond t r (Err Shape)) ≡ cond t s (nat_le (judged_as Shape) (judged_as why))
of_keys why true r s e = e
of_keys why false r s e = refl

pub value-refused : (why : QueryRefusal) (d : Data) → is_refused_by why (value_said d) ≡ value_refused_by why d
value-refused why d = of_keys why (has_query_keys (as_object d)) (map_outcome query_from (parts_said d)) (parts_refused_by why d) (of_made why query_from (parts_said d) ∙ of_parts why d)
