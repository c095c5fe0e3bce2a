-- What is read of a value is in its range, or is refused for a cause that lies in the value.
use Rattle.std.proofs.Common.{◌≡◌, ℕ, ℤ, List, [], ◌∷◌, ◌++◌, Bool, true, false, ◌&&◌, Option, Some, None, Result, Ok, Err, refl, ap, sym, ◌∙◌, cond, codes, length}
use Rattle.std.specs.List.{list_all, fold}
use Rattle.std.specs.Option.{option_map_or}
use Rattle.std.specs.Prelude.{nat_le, ◌==◌, ◌↔◌, is_some, IfOk, IsTrue, ⊤}
use Rattle.std.specs.Str.{bytes_eq, is_utf8}
use Rattle.serde_json.specs.Data.{Data, Num, null, boolean, number, string, array, object}
use Rattle.serde_json.specs.Find.{as_i64, as_number, as_object, as_str, as_u64, get}
use Rattle.serde_json.specs.Read.{read}
use Rattle.graph_model.specs.declared.queries.Ask.{Ask}
use Rattle.graph_model.specs.declared.queries.Ask.TheVariants.{Nodes, Edges, Events, Degree, Hops, Weak, OutComponent, InComponent, Core, CoreNumbers, NodeHistory, Materialise}
use Rattle.graph_model.specs.declared.queries.Direction.{Direction}
use Rattle.graph_model.specs.declared.queries.Direction.TheVariants.{Outward}
use Rattle.graph_model.specs.declared.queries.Each.TheVariants.{Rolling, Expanding}
use Rattle.graph_model.specs.declared.queries.Op.TheVariants.{At, Before, After, Layers, ExcludeLayers, Subgraph, ExcludeNodes, NodeTypes, Valid}
use Rattle.graph_model.specs.declared.queries.Each.{Each}
use Rattle.graph_model.specs.declared.queries.Op.{Op}
use Rattle.graph_model.specs.declared.queries.Query.{Query}
use Rattle.graph_model.specs.QueryForms.{Forms, alone, ask_forms, by_forms, by_word, each_forms, each_said, four, hops, one, rolling, three, two, view_forms, view_said}
use Rattle.graph_model.specs.QueryLine.{ask_in, depth_of, each_in, has_query_keys, parts_said, query_from, query_said, reading_said, value_said, views_in, views_listed}
use Rattle.graph_model.specs.QueryOutcome.{both, judged_as, map_outcome, put_last, with_last}
use Rattle.graph_model.specs.QueryPlaces.{as_list, bound, comparison, comparisons, core_number, count_in, direction, directions, held, meaning, moment, name, name_in, names, names_in, place, ranged, step, text_of, value, whole, whole_in, word_of}
use Rattle.graph_model.specs.Range.{ask_in_range, each_in_range, is_bound, is_core_number, is_moment, is_step, op_in_range, query_in_range}
use Rattle.graph_model.specs.Script.{QueryRefusal, Json, Shape, Number, Depth}
use Rattle.graph_model.specs.TextForm.{is_name_long, is_text_long}
use Rattle.query_script.specs.Order.{is_kept, lies_in_value}
use Rattle.query_script.specs.Refusing.{Gives}
use Rattle.query_script.specs.declared.refusal.QueryRefusal.{QueryRefusal as Refused}

pub record IsKept {A : Type 0} (passes : A → Bool) (r : Result A QueryRefusal) : Type 0 where
  pub kept : is_kept passes r ≡ true

-- no test
abbrev any : {A : Type 0} → A → Bool
any a = true

and_true : (s t : Bool) → s ≡ true → t ≡ true → (s && t) ≡ true
and_true true t p q = q
and_true false t p q = p

and_first : (s t : Bool) → (s && t) ≡ true → s ≡ true
and_first true t p = refl
and_first false t p = p

and_second : (s t : Bool) → (s && t) ≡ true → t ≡ true
and_second true t p = p
and_second false t p = cc

and_assoc : (s t u : Bool) → ((s && t) && u) ≡ (s && (t && u))
and_assoc true t u = refl
and_assoc false t u = refl

choice : {A : Type 0} (P : A → Bool) (t : Bool) (x y : Result A QueryRefusal) → IsKept P x → IsKept P y → IsKept P (cond t x y)
choice P true x y p q = p
choice P false x y p q = q

ok : {A : Type 0} (a : A) → IsKept any (Ok a)
ok a = record { kept = refl }

shape : {A : Type 0} (P : A → Bool) → IsKept P (Err Shape)
shape P = record { kept = refl }

wrong : {A : Type 0} (P : A → Bool) → IsKept P (Err Number)
wrong P = record { kept = refl }

-- a test that is passed is no test
loosely : {A : Type 0} (P : A → Bool) (r : Result A QueryRefusal) → IsKept P r → IsKept any r
loosely P (Ok a) p = record { kept = refl }
loosely P (Err e) p = record { kept = p.kept }

of_first : (t : Bool) (e f : QueryRefusal) → lies_in_value e ≡ true → lies_in_value f ≡ true → lies_in_value (cond t e f) ≡ true
of_first true e f p q = p
of_first false e f p q = q

of_both : {A B : Type 0} (P : A → Bool) (Q : B → Bool) (a : Result A QueryRefusal) (b : Result B QueryRefusal) → IsKept P a → IsKept Q b → IsKept (λ p. P p.0 && Q p.1) (both a b)
of_both P Q (Ok a) (Ok b) p q = record { kept = and_true (P a) (Q b) p.kept q.kept }
of_both P Q (Ok a) (Err f) p q = record { kept = q.kept }
of_both P Q (Err e) (Ok b) p q = record { kept = p.kept }
of_both P Q (Err e) (Err f) p q = record { kept = of_first (nat_le (judged_as e) (judged_as f)) e f p.kept q.kept }

of_made : {A B : Type 0} (P : A → Bool) (Q : B → Bool) (make : A → B) → ((a : A) → P a ≡ true → Q (make a) ≡ true) → (r : Result A QueryRefusal) → IsKept P r → IsKept Q (map_outcome make r)
of_made P Q make h (Ok a) p = record { kept = h a p.kept }
of_made P Q make h (Err e) p = record { kept = p.kept }

all_last : {A : Type 0} (P : A → Bool) (xs : List A) (x : A) → list_all P xs ≡ true → P x ≡ true → list_all P (xs ++ x ∷ []) ≡ true
all_last P [] x p q = and_true (P x) true q refl
all_last P (y ∷ ys) x p q = and_true (P y) (list_all P (ys ++ x ∷ [])) (and_first (P y) (list_all P ys) p) (all_last P ys x (and_second (P y) (list_all P ys) p) q)

all_put : {A : Type 0} (P : A → Bool) (p : List A × A) → (list_all P p.0 && P p.1) ≡ true → list_all P (put_last p) ≡ true
all_put P p k = all_last P p.0 p.1 (and_first (list_all P p.0) (P p.1) k) (and_second (list_all P p.0) (P p.1) k)

of_fold : {A X : Type 0} (P : A → Bool) (f : X → Result A QueryRefusal) → ((x : X) → IsKept P (f x)) → (values : Result (List A) QueryRefusal) (xs : List X) → IsKept (λ values. list_all P values) values
    → IsKept (λ values. list_all P values) (fold (λ so_far x. with_last so_far (f x)) values xs)
of_fold P f h values [] p = p
of_fold P f h values (x ∷ xs) p =
    of_fold P f h (with_last values (f x)) xs (of_made (λ p. list_all P p.0 && P p.1) (λ values. list_all P values) put_last (all_put P) (both values (f x)) (of_both (λ values. list_all P values) P values (f x) p (h x)))

-- places

of_held : {A : Type 0} (o : Option A) → IsKept any (held o)
of_held None = wrong any
of_held (Some n) = ok n

of_whole_in : (o : Option Num) → IsKept any (whole_in o)
of_whole_in None = shape any
of_whole_in (Some n) = of_held (as_i64 n)

of_count_in : (o : Option Num) → IsKept any (count_in o)
of_count_in None = shape any
of_count_in (Some n) = of_held (as_u64 n)

of_test : {A : Type 0} (fits : A → Bool) (t : Bool) (n : A) → fits n ≡ t → IsKept fits (cond t (Ok n) (Err Number))
of_test fits true n e = record { kept = e }
of_test fits false n e = wrong fits

of_ranged : {A : Type 0} (fits : A → Bool) (r : Result A QueryRefusal) → IsKept any r → IsKept fits (ranged fits r)
of_ranged fits (Ok n) p = of_test fits (fits n) n refl
of_ranged fits (Err e) p = record { kept = p.kept }

of_bound : (d : Data) → IsKept is_bound (bound d)
of_bound d = of_ranged is_bound (whole d) (of_whole_in (as_number d))

of_moment : (d : Data) → IsKept is_moment (moment d)
of_moment d = of_ranged is_moment (whole d) (of_whole_in (as_number d))

of_step : (d : Data) → IsKept is_step (step d)
of_step d = of_ranged is_step (whole d) (of_whole_in (as_number d))

of_core_number : (d : Data) → IsKept is_core_number (core_number d)
of_core_number d = of_ranged is_core_number (count_in (as_number d)) (of_count_in (as_number d))

of_name_in : (o : Option (List ℕ)) → IsKept any (name_in o)
of_name_in None = shape any
of_name_in (Some text) = choice any (is_name_long text) (Ok text) (Err Shape) (ok text) (shape any)

of_name : (d : Data) → IsKept any (name d)
of_name d = of_name_in (as_str d)

of_names_in : (o : Option (List Data)) → IsKept any (names_in o)
of_names_in None = shape any
of_names_in (Some ds) = loosely _ _ (of_fold any name of_name (Ok []) ds (record { kept = refl }))

of_names : (d : Data) → IsKept any (names d)
of_names d = of_names_in (as_list d)

of_meaning : {A : Type 0} (entries : List (List ℕ × A)) (text : List ℕ) → IsKept any (meaning entries text)
of_meaning [] text = shape any
of_meaning (entry ∷ entries) text = choice any (bytes_eq text entry.0) (Ok entry.1) (meaning entries text) (ok entry.1) (of_meaning entries text)

of_comparison : (d : Data) → IsKept any (comparison d)
of_comparison d = of_meaning comparisons (text_of d)

of_direction : (d : Data) → IsKept any (direction d)
of_direction d = of_meaning directions (text_of d)

of_value : (d : Data) → IsKept any (value d)
of_value null = shape any
of_value (boolean b) = record { kept = refl }
of_value (number n) = of_made any any _ (λ z k. refl) (held (as_i64 n)) (of_held (as_i64 n))
of_value (string text) = choice any (is_text_long text) _ (Err Shape) (record { kept = refl }) (shape any)
of_value (array ds) = shape any
of_value (object ms) = shape any

-- forms

of_alone : {A : Type 0} (P : A → Bool) (a : A) → P a ≡ true → (items : List Data) → IsKept P (alone a items)
of_alone P a h items = choice P (length items == 1) (Ok a) (Err Shape) (record { kept = h }) (shape P)

of_one : {A : Type 0} (P : A → Bool) (f : Data → Result A QueryRefusal) → ((d : Data) → IsKept P (f d)) → (items : List Data) → IsKept P (one f items)
of_one P f h items = choice P (length items == 2) (f (place 1 items)) (Err Shape) (h (place 1 items)) (shape P)

of_pair : {A B : Type 0} (P : A → Bool) (Q : B → Bool) (f : Data → Result A QueryRefusal) (g : Data → Result B QueryRefusal) → ((d : Data) → IsKept P (f d)) → ((d : Data) → IsKept Q (g d)) → (items : List Data)
    → IsKept (λ p. P p.0 && Q p.1) (two f g items)
of_pair P Q f g h k items =
    choice (λ p. P p.0 && Q p.1) (length items == 3) (both (f (place 1 items)) (g (place 2 items))) (Err Shape)
    (of_both P Q (f (place 1 items)) (g (place 2 items)) (h (place 1 items)) (k (place 2 items))) (shape (λ p. P p.0 && Q p.1))

ends_kept : (items : List Data) → IsKept (λ (p : List ℕ × List ℕ). any p.0 && any p.1) (both (name (place 1 items)) (name (place 2 items)))
ends_kept items = of_both any any (name (place 1 items)) (name (place 2 items)) (of_name (place 1 items)) (of_name (place 2 items))

edge_kept : (items : List Data) → IsKept any (both (both (name (place 1 items)) (name (place 2 items))) (name (place 3 items)))
edge_kept items = loosely _ _ (of_both (λ (p : List ℕ × List ℕ). any p.0 && any p.1) any (both (name (place 1 items)) (name (place 2 items))) (name (place 3 items)) (ends_kept items) (of_name (place 3 items)))

of_edge : (items : List Data) → IsKept any (three name name name items)
of_edge items = choice any (length items == 4) _ (Err Shape) (edge_kept items) (shape any)

of_edge_and : {A : Type 0} (P : A → Bool) (f : Data → Result A QueryRefusal) → ((d : Data) → IsKept P (f d)) → (items : List Data) → IsKept (λ p. P p.1) (four name name name f items)
of_edge_and P f h items =
    choice (λ p. P p.1) (length items == 5) _ (Err Shape)
    (of_both any P (both (both (name (place 1 items)) (name (place 2 items))) (name (place 3 items))) (f (place 4 items)) (edge_kept items) (h (place 4 items))) (shape (λ p. P p.1))

of_compared : (items : List Data) → IsKept any (three name comparison value items)
of_compared items =
    choice any (length items == 4) _ (Err Shape)
    (loosely _ _ (of_both any any (both (name (place 1 items)) (comparison (place 2 items))) (value (place 3 items))
    (loosely _ _ (of_both any any (name (place 1 items)) (comparison (place 2 items)) (of_name (place 1 items)) (of_comparison (place 2 items)))) (of_value (place 3 items)))) (shape any)

-- each row of a table
AllKept : {A : Type 0} → (A → Bool) → Forms A → Type 0
AllKept P [] = Unit {0}
AllKept P (form ∷ forms) = ((items : List Data) → IsKept P (form.1 items)) × AllKept P forms

of_word : {A : Type 0} (P : A → Bool) (forms : Forms A) → AllKept P forms → (word : List ℕ) (items : List Data) → IsKept P (by_word forms word items)
unfolding AllKept
of_word P [] h word items = shape P
of_word P (form ∷ forms) h word items = choice P (bytes_eq word form.0) (form.1 items) (by_word forms word items) (h.0 items) (of_word P forms h.1 word items)

of_forms : {A : Type 0} (P : A → Bool) (forms : Forms A) → AllKept P forms → (o : Option (List Data)) → IsKept P (by_forms forms o)
of_forms P forms h None = shape P
of_forms P forms h (Some items) = of_word P forms h (word_of items) items

names_view : (make : List (List ℕ) → Op) → ((ns : List (List ℕ)) → op_in_range (make ns) ≡ true) → (items : List Data) → IsKept op_in_range (map_outcome make (one names items))
names_view make h items = of_made any op_in_range make (λ ns k. h ns) (one names items) (of_one any names of_names items)

views_kept : AllKept op_in_range view_forms
unfolding AllKept
views_kept = (
  λ items. of_made (λ p. is_bound p.0 && is_bound p.1) op_in_range _ (λ p k. k) (two bound bound items) (of_pair is_bound is_bound bound bound of_bound of_bound items),
  (
    λ items. of_made is_moment op_in_range At (λ t k. k) (one moment items) (of_one is_moment moment of_moment items),
    (
      λ items. of_made is_bound op_in_range Before (λ t k. k) (one bound items) (of_one is_bound bound of_bound items),
      (
        λ items. of_made is_moment op_in_range After (λ t k. k) (one moment items) (of_one is_moment moment of_moment items),
        (
          names_view Layers (λ ns. refl),
          (
            names_view ExcludeLayers (λ ns. refl),
            (
              names_view Subgraph (λ ns. refl),
              (
                names_view ExcludeNodes (λ ns. refl),
                (
                  names_view NodeTypes (λ ns. refl),
                  (
                    λ items. of_made any op_in_range _ (λ p k. refl) (three name comparison value items) (of_compared items),
                    (
                      λ items. of_made any op_in_range _ (λ p k. refl) (three name comparison value items) (of_compared items),
                      (
                        of_alone op_in_range Valid refl,
                        tt,
                      ),
                    ),
                  ),
                ),
              ),
            ),
          ),
        ),
      ),
    ),
  ),
)

name_ask : (make : List ℕ → Ask) → ((n : List ℕ) → ask_in_range (make n) ≡ true) → (items : List Data) → IsKept ask_in_range (map_outcome make (one name items))
name_ask make h items = of_made any ask_in_range make (λ n k. h n) (one name items) (of_one any name of_name items)

hops_kept : (items : List Data) → IsKept ask_in_range (hops items)
hops_kept items = choice ask_in_range (length items == 2) (map_outcome (λ n. Hops n Outward) (one name items)) (map_outcome (λ p. Hops p.0 p.1) (two name direction items))
    (name_ask (λ n. Hops n Outward) (λ n. refl) items)
    (of_made (λ (p : List ℕ × Direction). any p.0 && any p.1) ask_in_range _ (λ p k. refl) (two name direction items) (of_pair any any name direction of_name of_direction items))

asks_kept : AllKept ask_in_range ask_forms
unfolding AllKept
asks_kept = (
  of_alone ask_in_range Nodes refl,
  (
    of_alone ask_in_range Edges refl,
    (
      of_alone ask_in_range Events refl,
      (
        of_alone ask_in_range Degree refl,
        (
          hops_kept,
          (
            of_alone ask_in_range Weak refl,
            (
              name_ask OutComponent (λ n. refl),
              (
                name_ask InComponent (λ n. refl),
                (
                  λ items. of_made is_core_number ask_in_range Core (λ k h. h) (one core_number items) (of_one is_core_number core_number of_core_number items),
                  (
                    of_alone ask_in_range CoreNumbers refl,
                    (
                      λ items. of_made (λ (p : ℤ × List (List ℕ)). is_moment p.0 && any p.1) ask_in_range _ (λ p h. and_first (is_moment p.0) true h) (two moment names items) (of_pair is_moment any moment names of_moment of_names items),
                      (
                        name_ask NodeHistory (λ n. refl),
                        (
                          λ items. of_made any ask_in_range _ (λ p h. refl) (three name name name items) (of_edge items),
                          (
                            λ items. of_made (λ (p : List ℕ × List ℕ). any p.0 && any p.1) ask_in_range _ (λ p h. refl) (two name name items) (of_pair any any name name of_name of_name items),
                            (
                              λ items. of_made any ask_in_range _ (λ p h. refl) (four name name name name items) (of_edge_and any name of_name items),
                              (
                                λ items. of_made (λ (p : ((List ℕ × List ℕ) × List ℕ) × ℤ). is_moment p.1) ask_in_range _ (λ p h. h) (four name name name moment items) (of_edge_and is_moment moment of_moment items),
                                (
                                  of_alone ask_in_range Materialise refl,
                                  tt,
                                ),
                              ),
                            ),
                          ),
                        ),
                      ),
                    ),
                  ),
                ),
              ),
            ),
          ),
        ),
      ),
    ),
  ),
)

rolling_kept : (items : List Data) → IsKept each_in_range (rolling items)
rolling_kept items = choice each_in_range (length items == 2) (map_outcome (λ w. Rolling w w) (one step items)) (map_outcome (λ p. Rolling p.0 p.1) (two step step items))
    (of_made is_step each_in_range (λ w. Rolling w w) (λ w h. and_true (is_step w) (is_step w) h h) (one step items) (of_one is_step step of_step items))
    (of_made (λ p. is_step p.0 && is_step p.1) each_in_range (λ p. Rolling p.0 p.1) (λ p h. h) (two step step items) (of_pair is_step is_step step step of_step of_step items))

eaches_kept : AllKept each_in_range each_forms
unfolding AllKept
eaches_kept = (rolling_kept, (λ items. of_made is_step each_in_range Expanding (λ w h. h) (one step items) (of_one is_step step of_step items), tt))

-- lines

of_ask : (o : Option Data) → IsKept ask_in_range (ask_in o)
of_ask None = shape ask_in_range
of_ask (Some d) = of_forms ask_in_range ask_forms asks_kept (as_list d)

of_view : (d : Data) → IsKept op_in_range (view_said d)
of_view d = of_forms op_in_range view_forms views_kept (as_list d)

of_depth : (ds : List Data) → IsKept any (depth_of ds)
of_depth ds = choice any (nat_le (length ds) 64) (Ok tt) (Err Depth) (ok tt) (record { kept = refl })

of_listed : (o : Option (List Data)) → IsKept (λ ops. list_all op_in_range ops) (views_listed o)
of_listed None = shape (λ ops. list_all op_in_range ops)
of_listed (Some ds) =
    let views = fold (λ so_far d. with_last so_far (view_said d)) (Ok []) ds in
    of_made (λ (p : List Op × ⊤). list_all op_in_range p.0 && any p.1) (λ ops. list_all op_in_range ops) (λ p. p.0) (λ p h. and_first (list_all op_in_range p.0) true h) (both views (depth_of ds))
    (of_both (λ ops. list_all op_in_range ops) any views (depth_of ds) (of_fold op_in_range view_said of_view (Ok []) ds (record { kept = refl })) (of_depth ds))

of_views : (o : Option Data) → IsKept (λ ops. list_all op_in_range ops) (views_in o)
of_views None = record { kept = refl }
of_views (Some d) = of_listed (as_list d)

of_each : (o : Option Data) → IsKept (λ each. option_map_or each_in_range each true) (each_in o)
of_each None = record { kept = refl }
of_each (Some d) = of_made each_in_range (λ each. option_map_or each_in_range each true) Some (λ each h. h) (each_said d) (of_forms each_in_range each_forms eaches_kept (as_list d))

of_parts : (d : Data) → IsKept (λ (p : (Ask × List Op) × Option Each). (ask_in_range p.0.0 && list_all op_in_range p.0.1) && option_map_or each_in_range p.1 true) (parts_said d)
of_parts d =
    let ask = ask_in (get (codes "ask") d) in
    let views = views_in (get (codes "views") d) in
    let each = each_in (get (codes "each") d) in
    of_both (λ (p : Ask × List Op). ask_in_range p.0 && list_all op_in_range p.1) (λ each. option_map_or each_in_range each true) (both ask views) each
    (of_both ask_in_range (λ ops. list_all op_in_range ops) ask views (of_ask (get (codes "ask") d)) (of_views (get (codes "views") d))) (of_each (get (codes "each") d))

query_fits : (p : (Ask × List Op) × Option Each) → ((ask_in_range p.0.0 && list_all op_in_range p.0.1) && option_map_or each_in_range p.1 true) ≡ true → query_in_range (query_from p) ≡ true
query_fits p h = sym (and_assoc (ask_in_range p.0.0) (list_all op_in_range p.0.1) (option_map_or each_in_range p.1 true)) ∙ h

pub value-kept : (d : Data) → IsKept query_in_range (value_said d)
value-kept d = choice query_in_range (has_query_keys (as_object d)) (map_outcome query_from (parts_said d)) (Err Shape)
    (of_made (λ (p : (Ask × List Op) × Option Each). (ask_in_range p.0.0 && list_all op_in_range p.0.1) && option_map_or each_in_range p.1 true) query_in_range query_from query_fits (parts_said d) (of_parts d))
    (shape query_in_range)

refused_within : (d : Data) (why : QueryRefusal) → value_said d ≡ Err why → lies_in_value why ≡ true
refused_within d why e = ap (λ r. is_kept query_in_range r) (sym e) ∙ (value-kept d).kept

pub value-refusal : (d : Data) (why : QueryRefusal) → value_said d ≡ Err why → IsTrue (lies_in_value why)
value-refusal d why e = refused_within d why e

of_reading : (o : Option Data) (query : Query) → reading_said o ≡ Ok query → query_in_range query ≡ true
of_reading None query e = cc
of_reading (Some d) query e = ap (λ r. is_kept query_in_range r) (sym e) ∙ (value-kept d).kept

of_text : (t : Bool) (o : Option Data) (query : Query) → cond t (reading_said o) (Err Json) ≡ Ok query → query_in_range query ≡ true
of_text true o query e = of_reading o query e
of_text false o query e = cc

pub line-in-range : (line : List ℕ) (query : Query) → query_said line ≡ Ok query → IsTrue (query_in_range query)
line-in-range line query e = of_text (is_utf8 line) (read line) query e

-- what a call gave of a line is in range
pub given-in-range : (r : Result Query Refused) (line : List ℕ) → Gives r (query_said line) → IfOk r (λ query. IsTrue (query_in_range query))
given-in-range (Ok query) line given = line-in-range line query given
given-in-range (Err e) line given = tt

unread : (t : Bool) (o : Option Data) → cond t (reading_said o) (Err Json) ≡ Err Json → (t && is_some o) ≡ false
unread true None e = refl
unread true (Some d) e = let h : false ≡ true = refused_within d Json e in cc
unread false o e = refl

no_json : (t : Bool) (o : Option Data) → (t && is_some o) ≡ false → cond t (reading_said o) (Err Json) ≡ Err Json
no_json true None e = refl
no_json true (Some d) e = cc
no_json false o e = refl

pub json-unread : (line : List ℕ) → (query_said line ≡ Err Json) ↔ ((is_utf8 line && is_some (read line)) ≡ false)
json-unread line = (unread (is_utf8 line) (read line), no_json (is_utf8 line) (read line))
