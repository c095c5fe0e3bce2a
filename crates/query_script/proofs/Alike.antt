-- With 1 in the place of each number a value is refused as shape in the same cases, and never as number.
use Rattle.std.proofs.Common.{◌≡◌, ℕ, ℤ, pos, List, [], ◌∷◌, map, length, Bool, true, false, ◌||◌, Option, Some, None, option_map, Result, Ok, Err, refl, ap, sym, subst, ◌∙◌, cond, codes}
use Rattle.std.proofs.lemmas.List.{length-map}
use Rattle.std.specs.List.{fold}
use Rattle.std.specs.Prelude.{nat_le, ◌==◌, ⊤}
use Rattle.std.specs.Str.{bytes_eq}
use Rattle.serde_json.specs.Data.{Data, null, boolean, number, string, array, object}
use Rattle.serde_json.specs.Find.{as_i64, as_u64, as_object, get}
use Rattle.graph_model.specs.declared.properties.Value.TheVariants.{Int}
use Rattle.graph_model.specs.declared.queries.Ask.TheVariants.{Nodes, Edges, Events, Degree, Weak, CoreNumbers, Materialise}
use Rattle.graph_model.specs.declared.queries.Op.TheVariants.{Valid}
use Rattle.graph_model.specs.QueryForms.{Forms, alone, ask_forms, by_forms, by_word, each_forms, each_said, four, hops, one, rolling, three, two, view_forms, view_said}
use Rattle.graph_model.specs.QueryLine.{ask_in, depth_of, each_in, has_query_keys, parts_said, query_from, value_said, views_in, views_listed}
use Rattle.graph_model.specs.QueryOutcome.{both, map_outcome, put_last, with_last}
use Rattle.graph_model.specs.QueryPlaces.{as_list, bound, comparison, comparisons, core_number, direction, directions, held, meaning, moment, name, names, names_in, place, ranged, step, text_of, value, word_of}
use Rattle.graph_model.specs.Range.{is_bound, is_core_number, is_moment, is_step}
use Rattle.graph_model.specs.Script.{QueryRefusal, Shape, Number, Depth}
use Rattle.graph_model.specs.TextForm.{is_name_long, is_text_long}
use Rattle.query_script.specs.WithOnes.{with_ones}
use Rattle.query_script.specs.Order.{is_refused_by}
use Rattle.query_script.proofs.Judged as judged
use Rattle.query_script.proofs.Ones.{as_list-ones, get-ones, has_keys-ones, place-ones, text-ones, word-ones}

-- what was read of a value, and what is read of it with ones
pub record IsAlike {A : Type 0} (x y : Result A QueryRefusal) : Type 0 where
  pub shape : is_refused_by Shape y ≡ is_refused_by Shape x
  pub number : is_refused_by Number y ≡ is_refused_by Shape x

fine : {A : Type 0} (a b : A) → IsAlike (Ok a) (Ok b)
fine a b = record { shape = refl; number = refl }

shapes : {A : Type 0} → IsAlike {A = A} (Err Shape) (Err Shape)
shapes = record { shape = refl; number = refl }

wrong : {A : Type 0} (b : A) → IsAlike (Err Number) (Ok b)
wrong b = record { shape = refl; number = refl }

choice : {A : Type 0} (t : Bool) (x y a b : Result A QueryRefusal) → IsAlike x a → IsAlike y b → IsAlike (cond t x y) (cond t a b)
choice true x y a b p q = p
choice false x y a b p q = q

either : (s t u v : Bool) → s ≡ t → u ≡ v → (s || u) ≡ (t || v)
either s t u v p q = ap (λ z. z || u) p ∙ ap (λ z. t || z) q

of_both : {A B : Type 0} (x a : Result A QueryRefusal) (y b : Result B QueryRefusal) → IsAlike x a → IsAlike y b → IsAlike (both x y) (both a b)
of_both x a y b p q = record {
  shape = judged.of_both Shape a b ∙ either _ _ _ _ p.shape q.shape ∙ sym (judged.of_both Shape x y);
  number = judged.of_both Number a b ∙ either _ _ _ _ p.number q.number ∙ sym (judged.of_both Shape x y);
}

of_made : {A B : Type 0} (make : A → B) (x a : Result A QueryRefusal) → IsAlike x a → IsAlike (map_outcome make x) (map_outcome make a)
of_made make x a p = record {
  shape = judged.of_made Shape make a ∙ p.shape ∙ sym (judged.of_made Shape make x);
  number = judged.of_made Number make a ∙ p.number ∙ sym (judged.of_made Shape make x);
}

of_fold : {A : Type 0} (f : Data → Result A QueryRefusal) → ((d : Data) → IsAlike (f d) (f (with_ones d))) → (x a : Result (List A) QueryRefusal) (ds : List Data) → IsAlike x a
    → IsAlike (fold (λ so_far d. with_last so_far (f d)) x ds) (fold (λ so_far d. with_last so_far (f d)) a (map with_ones ds))
of_fold f h x a [] p = p
of_fold f h x a (d ∷ ds) p =
    of_fold f h (with_last x (f d)) (with_last a (f (with_ones d))) ds (of_made put_last (both x (f d)) (both a (f (with_ones d))) (of_both x a (f d) (f (with_ones d)) p (h d)))

-- places

of_test : {A : Type 0} (t : Bool) (n b : A) → IsAlike (cond t (Ok n) (Err Number)) (Ok b)
of_test true n b = fine n b
of_test false n b = wrong b

of_ranged : {A : Type 0} (fits : A → Bool) (b : A) (o : Option A) → IsAlike (ranged fits (held o)) (Ok b)
of_ranged fits b None = wrong b
of_ranged fits b (Some n) = of_test (fits n) n b

of_bound : (d : Data) → IsAlike (bound d) (bound (with_ones d))
of_bound null = shapes
of_bound (boolean b) = shapes
of_bound (number n) = of_ranged is_bound (pos 1) (as_i64 n)
of_bound (string s) = shapes
of_bound (array ds) = shapes
of_bound (object ms) = shapes

of_moment : (d : Data) → IsAlike (moment d) (moment (with_ones d))
of_moment null = shapes
of_moment (boolean b) = shapes
of_moment (number n) = of_ranged is_moment (pos 1) (as_i64 n)
of_moment (string s) = shapes
of_moment (array ds) = shapes
of_moment (object ms) = shapes

of_step : (d : Data) → IsAlike (step d) (step (with_ones d))
of_step null = shapes
of_step (boolean b) = shapes
of_step (number n) = of_ranged is_step (pos 1) (as_i64 n)
of_step (string s) = shapes
of_step (array ds) = shapes
of_step (object ms) = shapes

of_core_number : (d : Data) → IsAlike (core_number d) (core_number (with_ones d))
of_core_number null = shapes
of_core_number (boolean b) = shapes
of_core_number (number n) = of_ranged is_core_number 1 (as_u64 n)
of_core_number (string s) = shapes
of_core_number (array ds) = shapes
of_core_number (object ms) = shapes

of_text : {A : Type 0} (t : Bool) (a : A) → IsAlike (cond t (Ok a) (Err Shape)) (cond t (Ok a) (Err Shape))
of_text true a = fine a a
of_text false a = shapes

of_name : (d : Data) → IsAlike (name d) (name (with_ones d))
of_name null = shapes
of_name (boolean b) = shapes
of_name (number n) = shapes
of_name (string s) = of_text (is_name_long s) s
of_name (array ds) = shapes
of_name (object ms) = shapes

of_names_in : (o : Option (List Data)) → IsAlike (names_in o) (names_in (option_map (map with_ones) o))
of_names_in None = shapes
of_names_in (Some ds) = of_fold name of_name (Ok []) (Ok []) ds (fine [] [])

of_names : (d : Data) → IsAlike (names d) (names (with_ones d))
of_names d = let P : Option (List Data) → Type 0 = λ o. IsAlike (names d) (names_in o) in subst P (sym (as_list-ones d)) (of_names_in (as_list d))

of_meaning : {A : Type 0} (entries : List (List ℕ × A)) (text : List ℕ) → IsAlike (meaning entries text) (meaning entries text)
of_meaning [] text = shapes
of_meaning (entry ∷ entries) text = choice (bytes_eq text entry.0) (Ok entry.1) (meaning entries text) (Ok entry.1) (meaning entries text) (fine entry.1 entry.1) (of_meaning entries text)

of_word_of : {A : Type 0} (entries : List (List ℕ × A)) (d : Data) → IsAlike (meaning entries (text_of d)) (meaning entries (text_of (with_ones d)))
of_word_of {A} entries d = let P : List ℕ → Type 0 = λ text. IsAlike (meaning entries (text_of d)) (meaning entries text) in subst P (sym (text-ones d)) (of_meaning entries (text_of d))

of_comparison : (d : Data) → IsAlike (comparison d) (comparison (with_ones d))
of_comparison d = of_word_of comparisons d

of_direction : (d : Data) → IsAlike (direction d) (direction (with_ones d))
of_direction d = of_word_of directions d

of_int : (o : Option ℤ) → IsAlike (map_outcome Int (held o)) (Ok (Int (pos 1)))
of_int None = wrong (Int (pos 1))
of_int (Some z) = fine (Int z) (Int (pos 1))

of_value : (d : Data) → IsAlike (value d) (value (with_ones d))
of_value null = shapes
of_value (boolean b) = fine _ _
of_value (number n) = of_int (as_i64 n)
of_value (string s) = of_text (is_text_long s) _
of_value (array ds) = shapes
of_value (object ms) = shapes

-- forms

at_place : {A : Type 0} (f : Data → Result A QueryRefusal) → ((d : Data) → IsAlike (f d) (f (with_ones d))) → (i : ℕ) (items : List Data) → IsAlike (f (place i items)) (f (place i (map with_ones items)))
at_place {A} f h i items = let P : Data → Type 0 = λ d. IsAlike (f (place i items)) (f d) in subst P (sym (place-ones i items)) (h (place i items))

counted : {A : Type 0} (n : ℕ) (items : List Data) (x y a b : Result A QueryRefusal) → IsAlike x a → IsAlike y b → IsAlike (cond (length items == n) x y) (cond (length (map with_ones items) == n) a b)
counted {A} n items x y a b p q =
    let P : ℕ → Type 0 = λ size. IsAlike (cond (length items == n) x y) (cond (size == n) a b) in
    subst P (sym (length-map items with_ones)) (choice (length items == n) x y a b p q)

IsForm : {A : Type 0} → (List Data → Result A QueryRefusal) → Type 0
IsForm form = (items : List Data) → IsAlike (form items) (form (map with_ones items))

makes : {A B : Type 0} (make : A → B) (form : List Data → Result A QueryRefusal) → IsForm form → IsForm (λ items. map_outcome make (form items))
unfolding IsForm
makes make form h items = of_made make (form items) (form (map with_ones items)) (h items)

of_alone : {A : Type 0} (a : A) → IsForm (λ items. alone a items)
unfolding IsForm
of_alone a items = counted 1 items (Ok a) (Err Shape) (Ok a) (Err Shape) (fine a a) shapes

of_one : {A : Type 0} (f : Data → Result A QueryRefusal) → ((d : Data) → IsAlike (f d) (f (with_ones d))) → IsForm (λ items. one f items)
unfolding IsForm
of_one f h items = counted 2 items (f (place 1 items)) (Err Shape) (f (place 1 (map with_ones items))) (Err Shape) (at_place f h 1 items) shapes

of_pair : {A B : Type 0} (f : Data → Result A QueryRefusal) (g : Data → Result B QueryRefusal) → ((d : Data) → IsAlike (f d) (f (with_ones d))) → ((d : Data) → IsAlike (g d) (g (with_ones d)))
    → (items : List Data) → IsAlike (both (f (place 1 items)) (g (place 2 items))) (both (f (place 1 (map with_ones items))) (g (place 2 (map with_ones items))))
of_pair f g h k items = of_both (f (place 1 items)) (f (place 1 (map with_ones items))) (g (place 2 items)) (g (place 2 (map with_ones items))) (at_place f h 1 items) (at_place g k 2 items)

of_two : {A B : Type 0} (f : Data → Result A QueryRefusal) (g : Data → Result B QueryRefusal) → ((d : Data) → IsAlike (f d) (f (with_ones d))) → ((d : Data) → IsAlike (g d) (g (with_ones d))) → IsForm (λ items. two f g items)
unfolding IsForm
of_two f g h k items = counted 3 items (both (f (place 1 items)) (g (place 2 items))) (Err Shape) (both (f (place 1 (map with_ones items))) (g (place 2 (map with_ones items)))) (Err Shape) (of_pair f g h k items) shapes

of_triple : {A B C : Type 0} (f : Data → Result A QueryRefusal) (g : Data → Result B QueryRefusal) (e : Data → Result C QueryRefusal)
    → ((d : Data) → IsAlike (f d) (f (with_ones d))) → ((d : Data) → IsAlike (g d) (g (with_ones d))) → ((d : Data) → IsAlike (e d) (e (with_ones d)))
    → (items : List Data) → IsAlike (both (both (f (place 1 items)) (g (place 2 items))) (e (place 3 items)))
    (both (both (f (place 1 (map with_ones items))) (g (place 2 (map with_ones items)))) (e (place 3 (map with_ones items))))
of_triple f g e h k l items =
    of_both (both (f (place 1 items)) (g (place 2 items))) (both (f (place 1 (map with_ones items))) (g (place 2 (map with_ones items)))) (e (place 3 items)) (e (place 3 (map with_ones items)))
    (of_pair f g h k items) (at_place e l 3 items)

of_three : {A B C : Type 0} (f : Data → Result A QueryRefusal) (g : Data → Result B QueryRefusal) (e : Data → Result C QueryRefusal)
    → ((d : Data) → IsAlike (f d) (f (with_ones d))) → ((d : Data) → IsAlike (g d) (g (with_ones d))) → ((d : Data) → IsAlike (e d) (e (with_ones d))) → IsForm (λ items. three f g e items)
unfolding IsForm
of_three f g e h k l items =
    counted 4 items (both (both (f (place 1 items)) (g (place 2 items))) (e (place 3 items))) (Err Shape)
    (both (both (f (place 1 (map with_ones items))) (g (place 2 (map with_ones items)))) (e (place 3 (map with_ones items)))) (Err Shape) (of_triple f g e h k l items) shapes

of_edge_and : {A : Type 0} (f : Data → Result A QueryRefusal) → ((d : Data) → IsAlike (f d) (f (with_ones d))) → IsForm (λ items. four name name name f items)
unfolding IsForm
of_edge_and f h items =
    let x = both (both (name (place 1 items)) (name (place 2 items))) (name (place 3 items)) in
    let a = both (both (name (place 1 (map with_ones items))) (name (place 2 (map with_ones items)))) (name (place 3 (map with_ones items))) in
    counted 5 items (both x (f (place 4 items))) (Err Shape) (both a (f (place 4 (map with_ones items)))) (Err Shape)
    (of_both x a (f (place 4 items)) (f (place 4 (map with_ones items))) (of_triple name name name of_name of_name of_name items) (at_place f h 4 items)) shapes

-- each row of a table
AllForms : {A : Type 0} → Forms A → Type 0
AllForms [] = Unit {0}
AllForms (form ∷ forms) = IsForm form.1 × AllForms forms

of_word : {A : Type 0} (forms : Forms A) → AllForms forms → (word : List ℕ) (items : List Data) → IsAlike (by_word forms word items) (by_word forms word (map with_ones items))
unfolding AllForms IsForm
of_word [] h word items = shapes
of_word (form ∷ forms) h word items =
    choice (bytes_eq word form.0) (form.1 items) (by_word forms word items) (form.1 (map with_ones items)) (by_word forms word (map with_ones items)) (h.0 items) (of_word forms h.1 word items)

of_list : {A : Type 0} (forms : Forms A) → AllForms forms → (o : Option (List Data)) → IsAlike (by_forms forms o) (by_forms forms (option_map (map with_ones) o))
of_list {A} forms h None = shapes
of_list {A} forms h (Some items) =
    let P : List ℕ → Type 0 = λ word. IsAlike (by_word forms (word_of items) items) (by_word forms word (map with_ones items)) in
    subst P (sym (word-ones items)) (of_word forms h (word_of items) items)

of_forms : {A : Type 0} (forms : Forms A) → AllForms forms → (d : Data) → IsAlike (by_forms forms (as_list d)) (by_forms forms (as_list (with_ones d)))
of_forms {A} forms h d = let P : Option (List Data) → Type 0 = λ o. IsAlike (by_forms forms (as_list d)) (by_forms forms o) in subst P (sym (as_list-ones d)) (of_list forms h (as_list d))

views_alike : AllForms view_forms
unfolding AllForms
views_alike = (
  makes _ _ (of_two bound bound of_bound of_bound),
  (
    makes _ _ (of_one moment of_moment),
    (
      makes _ _ (of_one bound of_bound),
      (
        makes _ _ (of_one moment of_moment),
        (
          makes _ _ (of_one names of_names),
          (
            makes _ _ (of_one names of_names),
            (
              makes _ _ (of_one names of_names),
              (
                makes _ _ (of_one names of_names),
                (
                  makes _ _ (of_one names of_names),
                  (
                    makes _ _ (of_three name comparison value of_name of_comparison of_value),
                    (
                      makes _ _ (of_three name comparison value of_name of_comparison of_value),
                      (
                        of_alone Valid,
                        tt,
                      ),
                    ),
                  ),
                ),
              ),
            ),
          ),
        ),
      ),
    ),
  ),
)

hops_alike : IsForm hops
unfolding IsForm
hops_alike items =
    counted 2 items _ _ _ _ (of_made _ (one name items) (one name (map with_ones items)) (of_one name of_name items))
    (of_made _ (two name direction items) (two name direction (map with_ones items)) (of_two name direction of_name of_direction items))

asks_alike : AllForms ask_forms
unfolding AllForms
asks_alike = (
  of_alone Nodes,
  (
    of_alone Edges,
    (
      of_alone Events,
      (
        of_alone Degree,
        (
          hops_alike,
          (
            of_alone Weak,
            (
              makes _ _ (of_one name of_name),
              (
                makes _ _ (of_one name of_name),
                (
                  makes _ _ (of_one core_number of_core_number),
                  (
                    of_alone CoreNumbers,
                    (
                      makes _ _ (of_two moment names of_moment of_names),
                      (
                        makes _ _ (of_one name of_name),
                        (
                          makes _ _ (of_three name name name of_name of_name of_name),
                          (
                            makes _ _ (of_two name name of_name of_name),
                            (
                              makes _ _ (of_edge_and name of_name),
                              (
                                makes _ _ (of_edge_and moment of_moment),
                                (
                                  of_alone Materialise,
                                  tt,
                                ),
                              ),
                            ),
                          ),
                        ),
                      ),
                    ),
                  ),
                ),
              ),
            ),
          ),
        ),
      ),
    ),
  ),
)

rolling_alike : IsForm rolling
unfolding IsForm
rolling_alike items =
    counted 2 items _ _ _ _ (of_made _ (one step items) (one step (map with_ones items)) (of_one step of_step items))
    (of_made _ (two step step items) (two step step (map with_ones items)) (of_two step step of_step of_step items))

eaches_alike : AllForms each_forms
unfolding AllForms
eaches_alike = (rolling_alike, (makes _ _ (of_one step of_step), tt))

-- lines

of_ask : (o : Option Data) → IsAlike (ask_in o) (ask_in (option_map with_ones o))
of_ask None = shapes
of_ask (Some d) = of_forms ask_forms asks_alike d

of_depth : {A : Type 0} (t : Bool) (a : A) → IsAlike (cond t (Ok a) (Err Depth)) (cond t (Ok a) (Err Depth))
of_depth true a = fine a a
of_depth false a = record { shape = refl; number = refl }

depth-ones : (ds : List Data) → IsAlike (depth_of ds) (depth_of (map with_ones ds))
depth-ones ds =
    let done : ⊤ = tt in
    let P : ℕ → Type 0 = λ size. IsAlike (depth_of ds) (cond (nat_le size 64) (Ok done) (Err Depth)) in
    subst P (sym (length-map ds with_ones)) (of_depth (nat_le (length ds) 64) done)

of_listed : (o : Option (List Data)) → IsAlike (views_listed o) (views_listed (option_map (map with_ones) o))
of_listed None = shapes
of_listed (Some ds) =
    let x = fold (λ so_far d. with_last so_far (view_said d)) (Ok []) ds in
    let a = fold (λ so_far d. with_last so_far (view_said d)) (Ok []) (map with_ones ds) in
    of_made (λ p. p.0) (both x (depth_of ds)) (both a (depth_of (map with_ones ds)))
    (of_both x a (depth_of ds) (depth_of (map with_ones ds)) (of_fold view_said (of_forms view_forms views_alike) (Ok []) (Ok []) ds (fine [] [])) (depth-ones ds))

of_views : (o : Option Data) → IsAlike (views_in o) (views_in (option_map with_ones o))
of_views None = fine [] []
of_views (Some d) = let P : Option (List Data) → Type 0 = λ o. IsAlike (views_listed (as_list d)) (views_listed o) in subst P (sym (as_list-ones d)) (of_listed (as_list d))

of_each : (o : Option Data) → IsAlike (each_in o) (each_in (option_map with_ones o))
of_each None = fine None None
of_each (Some d) = of_made Some (each_said d) (each_said (with_ones d)) (of_forms each_forms eaches_alike d)

member_alike : {A : Type 0} (f : Option Data → Result A QueryRefusal) → ((o : Option Data) → IsAlike (f o) (f (option_map with_ones o))) → (k : List ℕ) (d : Data) → IsAlike (f (get k d)) (f (get k (with_ones d)))
member_alike {A} f h k d = let P : Option Data → Type 0 = λ o. IsAlike (f (get k d)) (f o) in subst P (sym (get-ones k d)) (h (get k d))

of_parts : (d : Data) → IsAlike (parts_said d) (parts_said (with_ones d))
of_parts d =
    let e = with_ones d in
    of_both (both (ask_in (get (codes "ask") d)) (views_in (get (codes "views") d))) (both (ask_in (get (codes "ask") e)) (views_in (get (codes "views") e))) (each_in (get (codes "each") d)) (each_in (get (codes "each") e))
    (of_both (ask_in (get (codes "ask") d)) (ask_in (get (codes "ask") e)) (views_in (get (codes "views") d)) (views_in (get (codes "views") e))
    (member_alike ask_in of_ask (codes "ask") d) (member_alike views_in of_views (codes "views") d)) (member_alike each_in of_each (codes "each") d)

pub value-alike : (d : Data) → IsAlike (value_said d) (value_said (with_ones d))
value-alike d =
    let x = map_outcome query_from (parts_said d) in
    let a = map_outcome query_from (parts_said (with_ones d)) in
    let P : Bool → Type 0 = λ t. IsAlike (value_said d) (cond t a (Err Shape)) in
    subst P (sym (has_keys-ones d)) (choice (has_query_keys (as_object d)) x (Err Shape) a (Err Shape) (of_made query_from (parts_said d) (parts_said (with_ones d)) (of_parts d)) shapes)

pub value-shape : (d : Data) → is_refused_by Shape (value_said (with_ones d)) ≡ is_refused_by Shape (value_said d)
value-shape d = (value-alike d).shape

pub value-number : (d : Data) → is_refused_by Number (value_said (with_ones d)) ≡ is_refused_by Shape (value_said d)
value-number d = (value-alike d).number
