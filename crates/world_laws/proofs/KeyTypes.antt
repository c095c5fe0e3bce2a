-- The types of keys: events agree on them exactly where none of them is refused for its type.
use Rattle.std.proofs.Common.{◌≡◌, ℕ, Bool, true, false, not, ◌||◌, List, [], ◌∷◌, ◌++◌, cond, None, Some, refl, sym, ◌∙◌, ap, subst}
use Rattle.std.specs.Prelude.{⊤, option_map}
use Rattle.std.specs.Bool.{beq}
use Rattle.std.specs.Option.{option_map_or}
use Rattle.std.specs.List.{find, list_all, AllByRecursion}
use Rattle.std.proofs.lemmas.Bool.{not-true, and_parts, or_right}
use Rattle.std.specs.declared.cmp.Ordering.TheVariants.{Less}
use Rattle.std.specs.Ordering.{is_eq}
use Rattle.graph_model.specs.declared.properties.Value.{Value}
use Rattle.graph_model.specs.declared.properties.Value.TheVariants.{Int, Flag, Text}
use Rattle.graph_model.specs.declared.events.Event.{Event}
use Rattle.graph_model.specs.ValueKind.{value_type, same_value_type}
use Rattle.graph_model.specs.Names.{name_cmp, same_name}
use Rattle.graph_model.specs.Props.{KeysRise, prop_value}
use Rattle.graph_model.specs.Entity.{entity_of, is_node, props_of}
use Rattle.graph_model.specs.Accepting.{alike, edge_events, is_of_other_type, mistyped, node_events, properties_of}
use Rattle.graph_model.specs.World.{all_typed, props_agree, same_type, types_agree}
use Rattle.world_laws.proofs.Filters.{each_weaker, each_append, each_kept, each_two, kept_pass}
use Rattle.world_laws.proofs.Order.{same_name-exact}
use Rattle.world_laws.proofs.Lawful.{agree, agree-sym, all_pass, each_passes, types_agree-sym}
use Rattle.world_laws.proofs.ListParts.{each_front, each_rest, each_where, found_none, none_found}

-- ---- what agree is not refused

same_types : (v u : Value) → same_type v u ≡ true → not (same_value_type (value_type u) (value_type v)) ≡ false
same_types (Int a) (Int b) h = refl
same_types (Int a) (Flag b) h = cc
same_types (Int a) (Text b) h = cc
same_types (Flag a) (Int b) h = cc
same_types (Flag a) (Flag b) h = refl
same_types (Flag a) (Text b) h = cc
same_types (Text a) (Int b) h = cc
same_types (Text a) (Flag b) h = cc
same_types (Text a) (Text b) h = refl

-- whether the first value of a key has another type than a property's
abbrev is_other : List (List ℕ × Value) → List ℕ × Value → Bool
is_other qs p = option_map_or (λ kept. not (same_value_type kept (value_type p.1))) (option_map value_type (prop_value p.0 qs)) false

keeps_type : (p : List ℕ × Value) (qs : List (List ℕ × Value)) → AllByRecursion (λ q. agree p q ≡ true) qs → is_other qs p ≡ false
keeps_type p [] h = refl
keeps_type p (q ∷ qs) h = by (same_name p.0 q.0) refl (keeps_type p qs h.1)
  where
    agreed : (b t : Bool) → b ≡ true → (not b || t) ≡ true → t ≡ true
    agreed true t e k = k
    agreed false t e k = cc

    by : (b : Bool) → same_name p.0 q.0 ≡ b → is_other qs p ≡ false → is_other (q ∷ qs) p ≡ false
    by true e rest = rw e (same_types p.1 q.1 (agreed (same_name p.0 q.0) (same_type p.1 q.1) e h.0))
    by false e rest = rw e rest

each_flat : (p : List ℕ × Value) (ys : List Event) → AllByRecursion (λ (y : Event). AllByRecursion (λ q. agree p q ≡ true) (props_of y)) ys → AllByRecursion (λ q. agree p q ≡ true) (properties_of ys)
each_flat p [] h = tt
each_flat p (y ∷ ys) h = each_append (λ q. agree p q ≡ true) (props_of y) (properties_of ys) h.0 (each_flat p ys h.1)

agree_same : (a b : Bool) (t : Bool) → a ≡ b → (not (beq a b) || t) ≡ true → t ≡ true
agree_same true true t e h = h
agree_same true false t e h = cc
agree_same false true t e h = cc
agree_same false false t e h = h

alike_agree : (x : Event) (ys : List Event) → AllByRecursion (λ y. types_agree x y ≡ true) ys → AllByRecursion (λ y. props_agree (props_of x) (props_of y) ≡ true) (alike x ys)
alike_agree x ys h = by (is_node (entity_of x)) refl
  where
    by : (b : Bool) → is_node (entity_of x) ≡ b → AllByRecursion (λ y. props_agree (props_of x) (props_of y) ≡ true) (cond (is_node (entity_of x)) (node_events ys) (edge_events ys))
    by true e = subst (λ t. AllByRecursion (λ y. props_agree (props_of x) (props_of y) ≡ true) (cond t (node_events ys) (edge_events ys))) (sym e)
        (each_two (λ (y : Event). is_node (entity_of y) ≡ true) (λ y. types_agree x y ≡ true) (λ y. props_agree (props_of x) (props_of y) ≡ true)
        (λ y k m. agree_same (is_node (entity_of x)) (is_node (entity_of y)) (props_agree (props_of x) (props_of y)) (e ∙ sym k) m)
        (node_events ys) (kept_pass (λ (y : Event). is_node (entity_of y)) ys) (each_kept (λ y. types_agree x y ≡ true) (λ (y : Event). is_node (entity_of y)) ys h))
    by false e = subst (λ t. AllByRecursion (λ y. props_agree (props_of x) (props_of y) ≡ true) (cond t (node_events ys) (edge_events ys))) (sym e)
        (each_two (λ (y : Event). not (is_node (entity_of y)) ≡ true) (λ y. types_agree x y ≡ true) (λ y. props_agree (props_of x) (props_of y) ≡ true)
        (λ y k m. agree_same (is_node (entity_of x)) (is_node (entity_of y)) (props_agree (props_of x) (props_of y)) (e ∙ sym (not-true (is_node (entity_of y)) k)) m)
        (edge_events ys) (kept_pass (λ (y : Event). not (is_node (entity_of y))) ys) (each_kept (λ y. types_agree x y ≡ true) (λ (y : Event). not (is_node (entity_of y))) ys h))

-- the properties of one list agree with those of events
heads : (ps : List (List ℕ × Value)) (ys : List Event) → AllByRecursion (λ (y : Event). props_agree ps (props_of y) ≡ true) ys → AllByRecursion (λ p. AllByRecursion (λ (y : Event). AllByRecursion (λ q. agree p q ≡ true) (props_of y)) ys) ps
heads [] ys h = tt
heads (p ∷ ps) ys h = (
  each_weaker (λ (y : Event). props_agree (p ∷ ps) (props_of y) ≡ true) (λ (y : Event). AllByRecursion (λ q. agree p q ≡ true) (props_of y)) (λ y k. each_passes (agree p) (props_of y) (and_parts (list_all (agree p) (props_of y)) (props_agree ps (props_of y)) k).0) ys h,
  heads ps ys (each_weaker (λ (y : Event). props_agree (p ∷ ps) (props_of y) ≡ true) (λ (y : Event). props_agree ps (props_of y) ≡ true) (λ y k. (and_parts (list_all (agree p) (props_of y)) (props_agree ps (props_of y)) k).1) ys h),
)

-- an event that agree with those before it is not refused for a type
pub mistyped_none : (x : Event) (ys : List Event) → AllByRecursion (λ y. types_agree x y ≡ true) ys → mistyped ys x ≡ None
mistyped_none x ys h =
    found_none (is_of_other_type (alike x ys)) (props_of x)
    (each_weaker (λ p. AllByRecursion (λ (y : Event). AllByRecursion (λ q. agree p q ≡ true) (props_of y)) (alike x ys)) (λ p. is_of_other_type (alike x ys) p ≡ false)
    (λ p k. keeps_type p (properties_of (alike x ys)) (each_flat p (alike x ys) k)) (props_of x) (heads (props_of x) (alike x ys) (alike_agree x ys h)))

-- ---- what is not refused agree

from_kept : (v u : Value) → not (same_value_type (value_type u) (value_type v)) ≡ false → same_type v u ≡ true
from_kept (Int a) (Int b) h = refl
from_kept (Int a) (Flag b) h = cc
from_kept (Int a) (Text b) h = cc
from_kept (Flag a) (Int b) h = cc
from_kept (Flag a) (Flag b) h = refl
from_kept (Flag a) (Text b) h = cc
from_kept (Text a) (Int b) h = cc
from_kept (Text a) (Flag b) h = cc
from_kept (Text a) (Text b) h = refl

same_type-own : (v : Value) → same_type v v ≡ true
same_type-own (Int a) = refl
same_type-own (Flag a) = refl
same_type-own (Text a) = refl

same_type-trans : (v u t : Value) → same_type v u ≡ true → same_type u t ≡ true → same_type v t ≡ true
same_type-trans (Int a) (Int b) (Int c) h k = refl
same_type-trans (Int a) (Int b) (Flag c) h k = cc k
same_type-trans (Int a) (Int b) (Text c) h k = cc k
same_type-trans (Int a) (Flag b) t h k = cc h
same_type-trans (Int a) (Text b) t h k = cc h
same_type-trans (Flag a) (Int b) t h k = cc h
same_type-trans (Flag a) (Flag b) (Int c) h k = cc k
same_type-trans (Flag a) (Flag b) (Flag c) h k = refl
same_type-trans (Flag a) (Flag b) (Text c) h k = cc k
same_type-trans (Flag a) (Text b) t h k = cc h
same_type-trans (Text a) (Int b) t h k = cc h
same_type-trans (Text a) (Flag b) t h k = cc h
same_type-trans (Text a) (Text b) (Int c) h k = cc k
same_type-trans (Text a) (Text b) (Flag c) h k = cc k
same_type-trans (Text a) (Text b) (Text c) h k = refl

-- each property agree with those behind it
abbrev Agree : List (List ℕ × Value) → Type 0
Agree [] = ⊤
Agree (p ∷ ps) = AllByRecursion (λ q. agree p q ≡ true) ps × Agree ps

-- what agree with one of its key agree with all that this one agree with
agree-through : (p q r : List ℕ × Value) → same_name p.0 q.0 ≡ true → same_type p.1 q.1 ≡ true → agree q r ≡ true → agree p r ≡ true
agree-through p q r same one h = by (same_name p.0 r.0) (ap (λ n. not (same_name n r.0) || same_type q.1 r.1) (same_name-exact p.0 q.0 same) ∙ h)
  where
    by : (b : Bool) → (not b || same_type q.1 r.1) ≡ true → (not b || same_type p.1 r.1) ≡ true
    by true k = same_type-trans p.1 q.1 r.1 one k
    by false k = refl

keeps_agree : (p : List ℕ × Value) (qs : List (List ℕ × Value)) → Agree qs → is_other qs p ≡ false → AllByRecursion (λ q. agree p q ≡ true) qs
keeps_agree p [] h e = tt
keeps_agree p (q ∷ qs) h e = by (same_name p.0 q.0) refl e (λ k. keeps_agree p qs h.1 k)
  where
    by : (b : Bool) → same_name p.0 q.0 ≡ b → option_map_or (λ kept. not (same_value_type kept (value_type p.1))) (option_map value_type (option_map (λ (r : List ℕ × Value). r.1) (cond b (Some q) (find (λ (r : List ℕ × Value). same_name p.0 r.0) qs)))) false ≡ false
        → (is_other qs p ≡ false → AllByRecursion (λ r. agree p r ≡ true) qs) → AllByRecursion (λ r. agree p r ≡ true) (q ∷ qs)
    by true is e rest =
        let one : same_type p.1 q.1 ≡ true = from_kept p.1 q.1 e in
        (or_right (not (same_name p.0 q.0)) (same_type p.1 q.1) one, each_weaker (λ r. agree q r ≡ true) (λ r. agree p r ≡ true) (λ r k. agree-through p q r is one k) qs h.0)
    by false is e rest = (rw is refl, rest e)

Agree-append : (ps qs : List (List ℕ × Value)) → Agree ps → Agree qs → AllByRecursion (λ p. AllByRecursion (λ q. agree p q ≡ true) qs) ps → Agree (ps ++ qs)
Agree-append [] qs h k each = k
Agree-append (p ∷ ps) qs h k each = (each_append (λ q. agree p q ≡ true) ps qs h.0 each.0, Agree-append ps qs h.1 k each.1)

Agree-pairs : (ps : List (List ℕ × Value)) → AllByRecursion (λ p. AllByRecursion (λ q. agree p q ≡ true) ps) ps → Agree ps
Agree-pairs [] h = tt
Agree-pairs (p ∷ ps) h = (h.0.1, Agree-pairs ps (each_weaker (λ q. AllByRecursion (λ r. agree q r ≡ true) (p ∷ ps)) (λ q. AllByRecursion (λ r. agree q r ≡ true) ps) (λ q k. k.1) ps h.1))

pairs_of : (ps qs : List (List ℕ × Value)) → props_agree ps qs ≡ true → AllByRecursion (λ p. AllByRecursion (λ q. agree p q ≡ true) qs) ps
pairs_of ps qs h = each_weaker (λ p. list_all (agree p) qs ≡ true) (λ p. AllByRecursion (λ q. agree p q ≡ true) qs) (λ p k. each_passes (agree p) qs k) ps (each_passes (λ p. list_all (agree p) qs) ps h)

Agree-properties : (ys : List Event) → AllByRecursion (λ y. AllByRecursion (λ z. props_agree (props_of y) (props_of z) ≡ true) ys) ys → Agree (properties_of ys)
Agree-properties [] h = tt
Agree-properties (y ∷ ys) h =
    let before = each_weaker (λ z. AllByRecursion (λ u. props_agree (props_of z) (props_of u) ≡ true) (y ∷ ys)) (λ z. AllByRecursion (λ u. props_agree (props_of z) (props_of u) ≡ true) ys) (λ z k. k.1) ys h.1 in
    let across = each_weaker (λ p. AllByRecursion (λ (z : Event). AllByRecursion (λ q. agree p q ≡ true) (props_of z)) ys) (λ p. AllByRecursion (λ q. agree p q ≡ true) (properties_of ys)) (λ p k. each_flat p ys k) (props_of y) (heads (props_of y) ys h.0.1) in
    Agree-append (props_of y) (properties_of ys) (Agree-pairs (props_of y) (pairs_of (props_of y) (props_of y) h.0.0)) (Agree-properties ys before) across

-- of events that agree on the types of keys, those that share their keys with one agree
alike_pairs : (x : Event) (xs : List Event) → AllByRecursion (λ y. AllByRecursion (λ z. types_agree y z ≡ true) xs) xs → AllByRecursion (λ y. AllByRecursion (λ z. props_agree (props_of y) (props_of z) ≡ true) (alike x xs)) (alike x xs)
alike_pairs x xs h = by (is_node (entity_of x))
  where
    one : (b : Bool) (y : Event) → is_node (entity_of y) ≡ b → AllByRecursion (λ z. types_agree y z ≡ true) xs → AllByRecursion (λ z. props_agree (props_of y) (props_of z) ≡ true) (cond b (node_events xs) (edge_events xs))
    one b y e k = subst (λ t. AllByRecursion (λ z. props_agree (props_of y) (props_of z) ≡ true) (cond t (node_events xs) (edge_events xs))) e (alike_agree y xs k)

    by : (b : Bool) → AllByRecursion (λ y. AllByRecursion (λ z. props_agree (props_of y) (props_of z) ≡ true) (cond b (node_events xs) (edge_events xs))) (cond b (node_events xs) (edge_events xs))
    by true = each_two (λ (y : Event). is_node (entity_of y) ≡ true) (λ y. AllByRecursion (λ z. types_agree y z ≡ true) xs) (λ y. AllByRecursion (λ z. props_agree (props_of y) (props_of z) ≡ true) (node_events xs)) (λ y e k. one true y e k)
        (node_events xs) (kept_pass (λ (y : Event). is_node (entity_of y)) xs) (each_kept (λ y. AllByRecursion (λ z. types_agree y z ≡ true) xs) (λ (y : Event). is_node (entity_of y)) xs h)
    by false = each_two (λ (y : Event). not (is_node (entity_of y)) ≡ true) (λ y. AllByRecursion (λ z. types_agree y z ≡ true) xs) (λ y. AllByRecursion (λ z. props_agree (props_of y) (props_of z) ≡ true) (edge_events xs)) (λ y e k. one false y (not-true (is_node (entity_of y)) e) k)
        (edge_events xs) (kept_pass (λ (y : Event). not (is_node (entity_of y))) xs) (each_kept (λ y. AllByRecursion (λ z. types_agree y z ≡ true) xs) (λ (y : Event). not (is_node (entity_of y))) xs h)

-- properties that agree with those of all events agree with those of each
by_event : (ps : List (List ℕ × Value)) (ys : List Event) → AllByRecursion (λ p. AllByRecursion (λ q. agree p q ≡ true) (properties_of ys)) ps → AllByRecursion (λ y. props_agree ps (props_of y) ≡ true) ys
by_event ps [] h = tt
by_event ps (y ∷ ys) h = (
  all_pass (λ p. list_all (agree p) (props_of y)) ps (each_weaker (λ p. AllByRecursion (λ q. agree p q ≡ true) (properties_of (y ∷ ys))) (λ p. list_all (agree p) (props_of y) ≡ true)
      (λ p k. all_pass (agree p) (props_of y) (each_front (λ q. agree p q ≡ true) (props_of y) (properties_of ys) k)) ps h),
  by_event ps ys (each_weaker (λ p. AllByRecursion (λ q. agree p q ≡ true) (properties_of (y ∷ ys))) (λ p. AllByRecursion (λ q. agree p q ≡ true) (properties_of ys)) (λ p k. each_rest (λ q. agree p q ≡ true) (props_of y) (properties_of ys) k) ps h),
)

alike_all : (x : Event) (xs : List Event) → AllByRecursion (λ y. props_agree (props_of x) (props_of y) ≡ true) (alike x xs) → AllByRecursion (λ y. types_agree x y ≡ true) xs
alike_all x xs h = by (is_node (entity_of x)) h
  where
    by : (b : Bool) → AllByRecursion (λ y. props_agree (props_of x) (props_of y) ≡ true) (cond b (node_events xs) (edge_events xs)) → AllByRecursion (λ (y : Event). (not (beq b (is_node (entity_of y))) || props_agree (props_of x) (props_of y)) ≡ true) xs
    by true k = each_weaker (λ (y : Event). is_node (entity_of y) ≡ true → props_agree (props_of x) (props_of y) ≡ true) (λ (y : Event). (not (beq true (is_node (entity_of y))) || props_agree (props_of x) (props_of y)) ≡ true)
        (λ y f. one y (is_node (entity_of y)) f) xs (each_where (λ y. props_agree (props_of x) (props_of y) ≡ true) (λ (y : Event). is_node (entity_of y)) xs k)
      where
        one : (y : Event) (c : Bool) → (c ≡ true → props_agree (props_of x) (props_of y) ≡ true) → (not (beq true c) || props_agree (props_of x) (props_of y)) ≡ true
        one y true f = f refl
        one y false f = refl
    by false k = each_weaker (λ (y : Event). not (is_node (entity_of y)) ≡ true → props_agree (props_of x) (props_of y) ≡ true) (λ (y : Event). (not (beq false (is_node (entity_of y))) || props_agree (props_of x) (props_of y)) ≡ true)
        (λ y f. one y (is_node (entity_of y)) f) xs (each_where (λ y. props_agree (props_of x) (props_of y) ≡ true) (λ (y : Event). not (is_node (entity_of y))) xs k)
      where
        one : (y : Event) (c : Bool) → (not c ≡ true → props_agree (props_of x) (props_of y) ≡ true) → (not (beq false c) || props_agree (props_of x) (props_of y)) ≡ true
        one y true f = refl
        one y false f = f refl

-- ---- with one event more

-- properties that rise by key agree with themselves
own_pairs : (ps : List (List ℕ × Value)) → KeysRise ps → AllByRecursion (λ p. AllByRecursion (λ q. agree p q ≡ true) ps) ps
own_pairs [] h = tt
own_pairs (p ∷ ps) h = (
  (or_right (not (same_name p.0 p.0)) (same_type p.1 p.1) (same_type-own p.1), each_weaker (λ (q : List ℕ × Value). name_cmp p.0 q.0 ≡ Less) (λ q. agree p q ≡ true) (λ q less. apart p q less) ps h.0),
  each_two (λ (q : List ℕ × Value). name_cmp p.0 q.0 ≡ Less) (λ q. AllByRecursion (λ r. agree q r ≡ true) ps) (λ q. AllByRecursion (λ r. agree q r ≡ true) (p ∷ ps)) (λ q less k. (agree-sym q p ∙ apart p q less, k)) ps h.0 (own_pairs ps h.1),
)
  where
    apart : (p q : List ℕ × Value) → name_cmp p.0 q.0 ≡ Less → agree p q ≡ true
    apart p q less = ap (λ o. not (is_eq o) || same_type p.1 q.1) less

own_agree : (x : Event) → KeysRise (props_of x) → types_agree x x ≡ true
own_agree x rise =
    or_right (not (beq (is_node (entity_of x)) (is_node (entity_of x)))) (props_agree (props_of x) (props_of x))
    (all_pass (λ p. list_all (agree p) (props_of x)) (props_of x) (each_weaker (λ p. AllByRecursion (λ q. agree p q ≡ true) (props_of x)) (λ p. list_all (agree p) (props_of x) ≡ true) (λ p k. all_pass (agree p) (props_of x) k) (props_of x) (own_pairs (props_of x) rise)))

-- an event that is not refused for a type agree with those before it
agree_before : (x : Event) (xs : List Event) → all_typed xs ≡ true → mistyped xs x ≡ None → AllByRecursion (λ y. types_agree x y ≡ true) xs
agree_before x xs typed none =
    let pairs = each_weaker (λ y. list_all (types_agree y) xs ≡ true) (λ y. AllByRecursion (λ z. types_agree y z ≡ true) xs) (λ y k. each_passes (types_agree y) xs k) xs (each_passes (λ y. list_all (types_agree y) xs) xs typed) in
    let all = Agree-properties (alike x xs) (alike_pairs x xs pairs) in
    alike_all x xs (by_event (props_of x) (alike x xs)
    (each_weaker (λ p. is_of_other_type (alike x xs) p ≡ false) (λ p. AllByRecursion (λ q. agree p q ≡ true) (properties_of (alike x xs))) (λ p k. keeps_agree p (properties_of (alike x xs)) all k) (props_of x) (none_found (is_of_other_type (alike x xs)) (props_of x) none)))

-- so events agree with one more that is not refused
pub typed_more : (xs : List Event) (x : Event) → all_typed xs ≡ true → KeysRise (props_of x) → mistyped xs x ≡ None → all_typed (xs ++ x ∷ []) ≡ true
typed_more xs x typed rise none =
    let before = agree_before x xs typed none in
    let all : List Event = xs ++ x ∷ [] in
    let own : list_all (types_agree x) all ≡ true = all_pass (types_agree x) all (each_append (λ y. types_agree x y ≡ true) xs (x ∷ []) before (own_agree x rise, tt)) in
    all_pass (λ y. list_all (types_agree y) all) all
    (each_append (λ y. list_all (types_agree y) all ≡ true) xs (x ∷ [])
    (each_two (λ y. types_agree x y ≡ true) (λ y. list_all (types_agree y) xs ≡ true) (λ y. list_all (types_agree y) all ≡ true)
    (λ y k m. all_pass (types_agree y) all (each_append (λ z. types_agree y z ≡ true) xs (x ∷ []) (each_passes (types_agree y) xs m) (types_agree-sym y x ∙ k, tt)))
    xs before (each_passes (λ y. list_all (types_agree y) xs) xs typed))
    (own, tt))
