-- Accepted events are lawful, and stay so with an event more.
use Rattle.std.proofs.Common.{◌≡◌, ℕ, ℤ, List, [], ◌∷◌, ◌++◌, Bool, true, false, not, cond, ◌||◌, Option, Some, None, refl, sym, ap, ◌∙◌}
use Rattle.std.specs.Prelude.{option_map, unwrap_or}
use Rattle.std.specs.Option.{option_map_or, option_or}
use Rattle.std.specs.Ordering.{is_eq, ordering_reverse}
use Rattle.std.specs.Bool.{beq}
use Rattle.std.specs.declared.cmp.Ordering.TheVariants.{Less}
use Rattle.std.specs.List.{filter, find, list_all, AllByRecursion}
use Rattle.graph_model.specs.declared.properties.Value.{Value}
use Rattle.graph_model.specs.declared.properties.Value.TheVariants.{Int, Flag, Text}
use Rattle.graph_model.specs.declared.properties.ValueType.{ValueType}
use Rattle.graph_model.specs.declared.properties.ValueType.TheVariants.{Int as OfInt, Flag as OfFlag, Text as OfText}
use Rattle.graph_model.specs.declared.events.Event.{Event}
use Rattle.graph_model.specs.declared.events.Model.{Model}
use Rattle.graph_model.specs.declared.events.Model.TheVariants.{Event as Instants, Persistent}
use Rattle.graph_model.specs.Interval.{Interval, is_inside}
use Rattle.graph_model.specs.Names.{name_cmp, same_name, name_total}
use Rattle.graph_model.specs.Props.{KeysRise, prop_value}
use Rattle.graph_model.specs.ValueKind.{value_type, same_value_type}
use Rattle.graph_model.specs.Entity.{entity_of, is_node, props_of}
use Rattle.graph_model.specs.World.{allows, same_type, props_agree, types_agree, all_typed}
use Rattle.graph_model.specs.Accepting.{node_events, edge_events, alike, properties_of, kept_type, is_of_other_type, mistyped}
use Rattle.world_laws.proofs.Order.{same_name-exact, same_name-refl}
use Rattle.world_laws.proofs.Filters.{each_weaker, each_append, each_two}
use Rattle.world_laws.proofs.Lawful.{all_pass}
use Rattle.world_laws.proofs.ListParts.{none_found}
use Rattle.graph_store.specs.Lawful.{KeepsTypes, AreJudged}
use Rattle.graph_store.specs.WithEvent.{node_event}
use Rattle.graph_store.proofs.KeyLaws.{first_type}
use Rattle.graph_store.proofs.AcceptNode.{flat_map-last, prop_value-append}
use Rattle.graph_store.proofs.Joined.{option_or-none}
use Rattle.std.proofs.lemmas.List.Elements.{filter-append}
use Rattle.std.proofs.lemmas.Bool.{not-false}

-- what events keep for a key, with an event more
kept-push : (xs : List Event) (x : Event) (key : List ℕ) → kept_type (xs ++ x ∷ []) key ≡ option_or (kept_type xs key) (first_type key (props_of x))
kept-push xs x key = ap (λ ps. option_map value_type (prop_value key ps)) (flat_map-last props_of xs x) ∙ prop_value-append key (properties_of xs) (props_of x)

kept-filter : (test : Event → Bool) (xs : List Event) (x : Event) (key : List ℕ) → kept_type (filter test (xs ++ x ∷ [])) key ≡ option_or (kept_type (filter test xs) key) (cond (test x) (first_type key (props_of x)) None)
kept-filter test xs x key = ap (λ ys. kept_type ys key) (filter-append test xs (x ∷ [])) ∙ go (test x)
  where
    go : (t : Bool) → kept_type (filter test xs ++ cond t (x ∷ []) []) key ≡ option_or (kept_type (filter test xs) key) (cond t (first_type key (props_of x)) None)
    go true = kept-push (filter test xs) x key
    go false = ap (λ ps. option_map value_type (prop_value key ps)) (nothing (filter test xs)) ∙ sym (option_or-none (kept_type (filter test xs) key))
      where
        nothing : (ys : List Event) → properties_of (ys ++ []) ≡ properties_of ys
        nothing [] = refl
        nothing (y ∷ ys) = ap (λ ps. props_of y ++ ps) (nothing ys)

-- a type that is kept stays
kept-stays : (xs : List Event) (x : Event) (key : List ℕ) (v : ValueType) (t : Bool) → kept_type (cond t (node_events xs) (edge_events xs)) key ≡ Some v → kept_type (cond t (node_events (xs ++ x ∷ [])) (edge_events (xs ++ x ∷ []))) key ≡ Some v
kept-stays xs x key v true e = let more = first_type key (props_of x) in kept-filter (λ y. is_node (entity_of y)) xs x key ∙ ap (λ o. option_or o (cond (is_node (entity_of x)) more None)) e
kept-stays xs x key v false e = let more = first_type key (props_of x) in kept-filter (λ y. not (is_node (entity_of y))) xs x key ∙ ap (λ o. option_or o (cond (not (is_node (entity_of x))) more None)) e

-- what is kept for the keys of an event behind it
kept-own : (xs : List Event) (x : Event) (key : List ℕ) → kept_type (alike x (xs ++ x ∷ [])) key ≡ option_or (kept_type (alike x xs) key) (first_type key (props_of x))
kept-own xs x key = go (is_node (entity_of x)) refl
  where
    go : (t : Bool) → is_node (entity_of x) ≡ t → kept_type (cond t (node_events (xs ++ x ∷ [])) (edge_events (xs ++ x ∷ []))) key ≡ option_or (kept_type (cond t (node_events xs) (edge_events xs)) key) (first_type key (props_of x))
    go true e = kept-filter (λ y. is_node (entity_of y)) xs x key ∙ ap (λ b. option_or (kept_type (node_events xs) key) (cond b (first_type key (props_of x)) None)) e
    go false e = kept-filter (λ y. not (is_node (entity_of y))) xs x key ∙ ap (λ b. option_or (kept_type (edge_events xs) key) (cond (not b) (first_type key (props_of x)) None)) e

-- among properties that rise by key, each is the first of its key
each_first : (ps : List (List ℕ × Value)) → KeysRise ps → AllByRecursion (λ (p : List ℕ × Value). first_type p.0 ps ≡ Some (value_type p.1)) ps
each_first [] h = tt
each_first (p ∷ ps) h = (
  ap (λ t. option_map value_type (option_map (λ (q : List ℕ × Value). q.1) (cond t (Some p) (find (λ (q : List ℕ × Value). same_name p.0 q.0) ps)))) (same_name-refl p.0),
  each_two (λ (q : List ℕ × Value). name_cmp p.0 q.0 ≡ Less) (λ (q : List ℕ × Value). first_type q.0 ps ≡ Some (value_type q.1)) (λ (q : List ℕ × Value). first_type q.0 (p ∷ ps) ≡ Some (value_type q.1))
      (λ q less e. ap (λ t. option_map value_type (option_map (λ (r : List ℕ × Value). r.1) (cond t (Some p) (find (λ (r : List ℕ × Value). same_name q.0 r.0) ps)))) (ap is_eq (name_total.antisymm q.0 p.0 ∙ ap ordering_reverse less)) ∙ e)
      ps h.0 (each_first ps h.1),
)

same_value_type-exact : (a b : ValueType) → same_value_type a b ≡ true → a ≡ b
same_value_type-exact OfInt OfInt e = refl
same_value_type-exact OfFlag OfFlag e = refl
same_value_type-exact OfText OfText e = refl
same_value_type-exact OfInt OfFlag e = cc
same_value_type-exact OfInt OfText e = cc
same_value_type-exact OfFlag OfInt e = cc
same_value_type-exact OfFlag OfText e = cc
same_value_type-exact OfText OfInt e = cc
same_value_type-exact OfText OfFlag e = cc

-- a value that is not of another type has the type that its key keeps with it
kept_with : (o : Option ValueType) (v : ValueType) → option_map_or (λ kept. not (same_value_type kept v)) o false ≡ false → option_or o (Some v) ≡ Some v
kept_with None v e = refl
kept_with (Some t) v e = ap Some (same_value_type-exact t v (not-false (same_value_type t v) e))

-- an event of which no value has another type keeps its types
KeepsTypes-own : (xs : List Event) (x : Event) → KeysRise (props_of x) → mistyped xs x ≡ None → KeepsTypes (xs ++ x ∷ []) x
KeepsTypes-own xs x rise e =
    each_two (λ (p : List ℕ × Value). is_of_other_type (alike x xs) p ≡ false) (λ (p : List ℕ × Value). first_type p.0 (props_of x) ≡ Some (value_type p.1)) (λ (p : List ℕ × Value). kept_type (alike x (xs ++ x ∷ [])) p.0 ≡ Some (value_type p.1))
    (λ p other first. kept-own xs x p.0 ∙ (ap (option_or (kept_type (alike x xs) p.0)) first ∙ kept_with (kept_type (alike x xs) p.0) (value_type p.1) other))
    (props_of x) (none_found (is_of_other_type (alike x xs)) (props_of x) e) (each_first (props_of x) rise)

KeepsTypes-stays : (xs : List Event) (x y : Event) → KeepsTypes xs y → KeepsTypes (xs ++ x ∷ []) y
KeepsTypes-stays xs x y h =
    each_weaker (λ (p : List ℕ × Value). kept_type (alike y xs) p.0 ≡ Some (value_type p.1)) (λ (p : List ℕ × Value). kept_type (alike y (xs ++ x ∷ [])) p.0 ≡ Some (value_type p.1))
    (λ p e. kept-stays xs x p.0 (value_type p.1) (is_node (entity_of y)) e) (props_of y) h

pub AreJudged-push : (model : Model) (bounds : Interval) (xs : List Event) (x : Event) → AreJudged model bounds xs → is_inside bounds x.time ≡ true → allows model x ≡ true → KeysRise (props_of x) → mistyped xs x ≡ None → AreJudged model bounds (xs ++ x ∷ [])
AreJudged-push model bounds xs x h inside allowed rise typed = record {
  inside = each_append (λ (y : Event). is_inside bounds y.time ≡ true) xs (x ∷ []) h.inside (inside, tt);
  allowed = each_append (λ (y : Event). allows model y ≡ true) xs (x ∷ []) h.allowed (allowed, tt);
  rising = each_append (λ (y : Event). KeysRise (props_of y)) xs (x ∷ []) h.rising (rise, tt);
  typed = each_append (KeepsTypes (xs ++ x ∷ [])) xs (x ∷ []) (each_weaker (KeepsTypes xs) (KeepsTypes (xs ++ x ∷ [])) (λ y k. KeepsTypes-stays xs x y k) xs h.typed) (KeepsTypes-own xs x rise typed, tt);
}

same_type-of : (a b : Value) → value_type a ≡ value_type b → same_type a b ≡ true
same_type-of (Int a) (Int b) e = refl
same_type-of (Flag a) (Flag b) e = refl
same_type-of (Text a) (Text b) e = refl
same_type-of (Int a) (Flag b) e = cc
same_type-of (Int a) (Text b) e = cc
same_type-of (Flag a) (Int b) e = cc
same_type-of (Flag a) (Text b) e = cc
same_type-of (Text a) (Int b) e = cc
same_type-of (Text a) (Flag b) e = cc

-- properties that keep one list's types agree
agreed : (xs : List Event) (ps qs : List (List ℕ × Value)) → AllByRecursion (λ (p : List ℕ × Value). kept_type xs p.0 ≡ Some (value_type p.1)) ps → AllByRecursion (λ (q : List ℕ × Value). kept_type xs q.0 ≡ Some (value_type q.1)) qs → props_agree ps qs ≡ true
agreed xs ps qs h k =
    all_pass (λ (p : List ℕ × Value). list_all (λ (q : List ℕ × Value). not (same_name p.0 q.0) || same_type p.1 q.1) qs) ps
    (each_weaker (λ (p : List ℕ × Value). kept_type xs p.0 ≡ Some (value_type p.1)) (λ (p : List ℕ × Value). list_all (λ (q : List ℕ × Value). not (same_name p.0 q.0) || same_type p.1 q.1) qs ≡ true)
    (λ p e. all_pass (λ (q : List ℕ × Value). not (same_name p.0 q.0) || same_type p.1 q.1) qs
    (each_weaker (λ (q : List ℕ × Value). kept_type xs q.0 ≡ Some (value_type q.1)) (λ (q : List ℕ × Value). (not (same_name p.0 q.0) || same_type p.1 q.1) ≡ true) (λ q f. one p q e f (same_name p.0 q.0) refl) qs k)) ps h)
  where
    one : (p q : List ℕ × Value) → kept_type xs p.0 ≡ Some (value_type p.1) → kept_type xs q.0 ≡ Some (value_type q.1) → (t : Bool) → same_name p.0 q.0 ≡ t → (not t || same_type p.1 q.1) ≡ true
    one p q e f false s = refl
    one p q e f true s = same_type-of p.1 q.1 (ap (λ o. unwrap_or o (value_type q.1)) (sym e ∙ (ap (kept_type xs) (same_name-exact p.0 q.0 s) ∙ f)))

-- events that keep their types agree on the types of keys
pub AreJudged-typed : (xs : List Event) → AllByRecursion (KeepsTypes xs) xs → all_typed xs ≡ true
AreJudged-typed xs h =
    all_pass (λ (x : Event). list_all (types_agree x) xs) xs
    (each_weaker (KeepsTypes xs) (λ (x : Event). list_all (types_agree x) xs ≡ true)
    (λ x k. all_pass (types_agree x) xs (each_weaker (KeepsTypes xs) (λ (y : Event). types_agree x y ≡ true) (λ y m. both x y (is_node (entity_of x)) (is_node (entity_of y)) k m) xs h)) xs h)
  where
    both : (x y : Event) (a b : Bool) → AllByRecursion (λ (p : List ℕ × Value). kept_type (cond a (node_events xs) (edge_events xs)) p.0 ≡ Some (value_type p.1)) (props_of x) → AllByRecursion (λ (p : List ℕ × Value). kept_type (cond b (node_events xs) (edge_events xs)) p.0 ≡ Some (value_type p.1)) (props_of y)
        → (not (beq a b) || props_agree (props_of x) (props_of y)) ≡ true
    both x y true true k m = agreed (node_events xs) (props_of x) (props_of y) k m
    both x y true false k m = refl
    both x y false true k m = refl
    both x y false false k m = agreed (edge_events xs) (props_of x) (props_of y) k m

-- each model has updates of nodes
pub allows-node : (model : Model) (time : ℤ) (order : ℕ) (name : List ℕ) (props : List (List ℕ × Value)) → allows model (node_event time order name props) ≡ true
allows-node Instants time order name props = refl
allows-node Persistent time order name props = refl
