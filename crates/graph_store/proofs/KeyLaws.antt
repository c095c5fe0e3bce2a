-- Tables of keys that grow, and what properties have at a place.
use Rattle.std.proofs.Common.{◌≡◌, ℕ, zero, suc, pos, ◌+◌, ◌<◌, ◌≤◌, List, [], ◌∷◌, ◌++◌, Bool, true, false, cond, Option, Some, None, length, get_or, take, drop, map, append-nil, refl, sym, ap, ◌∙◌, arith, subst, append_assoc, add-one}
use Rattle.std.specs.Prelude.{is_some, slice_get, option_map, OnSome, IfSome, IfNone}
use Rattle.std.specs.Option.{option_or}
use Rattle.std.specs.List.{find, AllByRecursion}
use Rattle.std.specs.Ordering.{is_eq, ordering_reverse}
use Rattle.std.proofs.lemmas.Bool.{or_from}
use Rattle.std.specs.declared.cmp.Ordering.TheVariants.{Less}
use Rattle.std.proofs.lemmas.List.{length_push, length-append, length-map, map-append, get_or-map, take-append-drop, take-append-le, take_all}
use Rattle.std.proofs.Math.ListN.{get_or-append}
use Rattle.std.proofs.lemmas.List.Sums.{fold-append}
use Rattle.std.proofs.lemmas.Option.{get_or_from_slice_get}
use Rattle.std.proofs.Math.Seq.{take-suc}
use Rattle.std.proofs.lemmas.Cmp.{tied_itself}
use Rattle.indexmap.specs.IndexMap.{insert_entry}
use Rattle.graph_model.specs.declared.properties.Value.{Value}
use Rattle.graph_model.specs.declared.properties.Value.TheVariants.{Int}
use Rattle.graph_model.specs.declared.properties.ValueType.{ValueType}
use Rattle.graph_model.specs.Names.{name_cmp, same_name, name_total}
use Rattle.graph_model.specs.ValueKind.{value_type}
use Rattle.graph_model.specs.Props.{KeysRise, prop_value, has_key, put_prop}
use Rattle.time_history.specs.KeyValues.{KeyNumbersRise as NumbersRise}
use Rattle.time_history.specs.Telling.{with_key_names}
use Rattle.graph_store.specs.Numbered.{put_number}
use Rattle.graph_store.proofs.NumberLaws.{with_key_names-put, put_prop-last, each_put, rise_put}
use Rattle.graph_store.proofs.Joined.{option_or-none}
use Rattle.world_laws.proofs.Order.{same_name-exact, same_name-other}
use Rattle.world_laws.proofs.ListItems.{each_at}
use Rattle.graph_store.specs.Keys.{type_in, with_key, with_keys, prop_at, clashes, IsClash, key_name}

-- the key and the value at a place
pub key_there : (props : List (List ℕ × Value)) (i : ℕ) (key : List ℕ) → i < length props → slice_get (map (λ (p : List ℕ × Value). p.0) props) i ≡ Some key → (prop_at props i).0 ≡ key
key_there props i key lt e =
    sym (get_or-map (λ (p : List ℕ × Value). p.0) props i ([], Int (pos 0)) [] lt)
    ∙ get_or_from_slice_get (map (λ (p : List ℕ × Value). p.0) props) i key [] e

pub value_there : (props : List (List ℕ × Value)) (i : ℕ) (value : Value) → i < length props → slice_get (map (λ (p : List ℕ × Value). p.1) props) i ≡ Some value → (prop_at props i).1 ≡ value
value_there props i value lt e =
    sym (get_or-map (λ (p : List ℕ × Value). p.1) props i ([], Int (pos 0)) (Int (pos 0)) lt)
    ∙ get_or_from_slice_get (map (λ (p : List ℕ × Value). p.1) props) i value (Int (pos 0)) e

pub prop_there : (props : List (List ℕ × Value)) (i : ℕ) (key : List ℕ) (value : Value) → i < length props → slice_get (map (λ (p : List ℕ × Value). p.0) props) i ≡ Some key → slice_get (map (λ (p : List ℕ × Value). p.1) props) i ≡ Some value
    → prop_at props i ≡ (key, value)
prop_there props i key value lt k v =
    let a = key_there props i key lt k in
    let b = value_there props i value lt v in
    λ m. (a m, b m)

-- one property more
pub take_prop : (props : List (List ℕ × Value)) (i : ℕ) → i < length props → take (i + 1) props ≡ take i props ++ prop_at props i ∷ []
take_prop props i lt = rw add-one (take-suc props i ([], Int (pos 0)) lt)

pub find-push : {X : Type 0} (test : X → Bool) (xs : List X) (x : X) → find test (xs ++ x ∷ []) ≡ option_or (find test xs) (cond (test x) (Some x) None)
find-push test [] x = refl
find-push test (y ∷ xs) x =
    elim (test y) as (λ t. cond t (Some y) (find test (xs ++ x ∷ [])) ≡ option_or (cond t (Some y) (find test xs)) (cond (test x) (Some x) None)) [ true ↦ refl | false ↦ find-push test xs x ]

pub find-push_past : {X : Type 0} (test : X → Bool) (xs more : List X) (x : X) → find test xs ≡ None → test x ≡ true → find test ((xs ++ x ∷ []) ++ more) ≡ Some x
find-push_past test [] more x e h = rw h refl
find-push_past test (y ∷ xs) more x e h = past (test y) (λ k. find-push_past test xs more x k h) e
  where
    past : (t : Bool) → (find test xs ≡ None → find test ((xs ++ x ∷ []) ++ more) ≡ Some x) → cond t (Some y) (find test xs) ≡ None → cond t (Some y) (find test ((xs ++ x ∷ []) ++ more)) ≡ Some x
    past true on k = cc
    past false on k = on k

-- a table with a key more
pub type_in-push : (keys : List (List ℕ × ValueType)) (e : List ℕ × ValueType) (key : List ℕ) → type_in (keys ++ e ∷ []) key ≡ option_or (type_in keys key) (cond (same_name key e.0) (Some e.1) None)
type_in-push [] e key = refl
type_in-push (k ∷ keys) e key =
    elim (same_name key k.0) as (λ t. cond t (Some k.1) (type_in (keys ++ e ∷ []) key) ≡ option_or (cond t (Some k.1) (type_in keys key)) (cond (same_name key e.0) (Some e.1) None)) [
      | true ↦ refl
      | false ↦ type_in-push keys e key
    ]

or_some : (o : Option ValueType) (p : Option ValueType) → is_some o ≡ true → option_or o p ≡ o
or_some None p h = cc
or_some (Some x) p h = refl

or_assoc : (o p q : Option ValueType) → option_or (option_or o p) q ≡ option_or o (option_or p q)
or_assoc None p q = refl
or_assoc (Some x) p q = refl

pub type_in-with_key : (keys : List (List ℕ × ValueType)) (p : List ℕ × Value) (key : List ℕ) → type_in (with_key keys p) key ≡ option_or (type_in keys key) (cond (same_name key p.0) (Some (value_type p.1)) None)
type_in-with_key keys p key = known (is_some (type_in keys p.0)) refl (same_name key p.0) refl
  where
    known : (t : Bool) → is_some (type_in keys p.0) ≡ t → (s : Bool) → same_name key p.0 ≡ s → type_in (cond t keys (keys ++ (p.0, value_type p.1) ∷ [])) key ≡ option_or (type_in keys key) (cond s (Some (value_type p.1)) None)
    known false e s d = type_in-push keys (p.0, value_type p.1) key ∙ ap (λ b. option_or (type_in keys key) (cond b (Some (value_type p.1)) None)) d
    known true e false d = sym (option_or-none (type_in keys key))
    known true e true d = sym (or_some (type_in keys key) (Some (value_type p.1)) (ap (λ k. is_some (type_in keys k)) (same_name-exact key p.0 d) ∙ e))

-- the type of the first value of a key
abbrev pub first_type : List ℕ → List (List ℕ × Value) → Option ValueType
first_type key props = option_map value_type (prop_value key props)

pub type_in-with_keys : (keys : List (List ℕ × ValueType)) (props : List (List ℕ × Value)) (key : List ℕ) → type_in (with_keys keys props) key ≡ option_or (type_in keys key) (first_type key props)
type_in-with_keys keys [] key = sym (option_or-none (type_in keys key))
type_in-with_keys keys (p ∷ props) key =
    type_in-with_keys (with_key keys p) props key
    ∙ (ap (λ o. option_or o (first_type key props)) (type_in-with_key keys p key)
    ∙ (or_assoc (type_in keys key) (cond (same_name key p.0) (Some (value_type p.1)) None) (first_type key props)
    ∙ ap (option_or (type_in keys key)) (elim (same_name key p.0) as (λ t. option_or (cond t (Some (value_type p.1)) None) (first_type key props) ≡ option_map value_type (option_map (λ (q : List ℕ × Value). q.1) (cond t (Some p) (find (λ (q : List ℕ × Value). same_name key q.0) props)))) [ true ↦ refl | false ↦ refl ])))

pub with_keys-push : (keys : List (List ℕ × ValueType)) (props : List (List ℕ × Value)) (p : List ℕ × Value) → with_keys keys (props ++ p ∷ []) ≡ with_key (with_keys keys props) p
with_keys-push keys props p = fold-append with_key keys props (p ∷ [])

-- a table is a prefix of what it grows to
grows : (keys : List (List ℕ × ValueType)) (props : List (List ℕ × Value)) → (more : List (List ℕ × ValueType)) × (with_keys keys props ≡ keys ++ more)
grows keys [] = ([], sym (append-nil keys))
grows keys (p ∷ props) = step (is_some (type_in keys p.0)) (grows keys props) (grows (keys ++ (p.0, value_type p.1) ∷ []) props)
  where
    step : (t : Bool) → (more : List (List ℕ × ValueType)) × (with_keys keys props ≡ keys ++ more) → (more : List (List ℕ × ValueType)) × (with_keys (keys ++ (p.0, value_type p.1) ∷ []) props ≡ (keys ++ (p.0, value_type p.1) ∷ []) ++ more)
        → (more : List (List ℕ × ValueType)) × (with_keys (cond t keys (keys ++ (p.0, value_type p.1) ∷ [])) props ≡ keys ++ more)
    step true old new = old
    step false old new = ((p.0, value_type p.1) ∷ new.0, new.1 ∙ append_assoc keys ((p.0, value_type p.1) ∷ []) new.0)

pub with_keys-prefix : (keys : List (List ℕ × ValueType)) (props : List (List ℕ × Value)) → take (length keys) (with_keys keys props) ≡ keys
with_keys-prefix keys props = let g = grows keys props in ap (take (length keys)) g.1 ∙ (take-append-le (length keys) keys g.0 (omega arith) ∙ take_all (length keys) keys (omega arith))

-- properties that rise have no key twice
pub absent_before : (props : List (List ℕ × Value)) (i : ℕ) → KeysRise props → i < length props → prop_value (prop_at props i).0 (take i props) ≡ None
absent_before [] i rise lt = absurd (omega arith)
absent_before (p ∷ props) zero rise lt = refl
absent_before (p ∷ props) (suc i) rise lt =
    let below : i < length props = omega arith in
    let less : name_cmp p.0 (prop_at props i).0 ≡ Less = each_at (λ (q : List ℕ × Value). name_cmp p.0 q.0 ≡ Less) props i ([], Int (pos 0)) rise.0 below in
    let other = same_name-other (prop_at props i).0 p.0 (λ e. let own = tied_itself name_total p.0 in let l : name_cmp p.0 p.0 ≡ Less = ap (name_cmp p.0) (sym e) ∙ less in cc) in
    ap (λ t. option_map (λ (q : List ℕ × Value). q.1) (cond t (Some p) (find (λ (q : List ℕ × Value). same_name (prop_at props i).0 q.0) (take i props)))) other
    ∙ absent_before props i rise.1 below

-- a key is new to a table with the properties before it, where it is new to the table
pub still_new : (keys : List (List ℕ × ValueType)) (props : List (List ℕ × Value)) (i : ℕ) → KeysRise props → i < length props
    → type_in (with_keys keys (take i props)) (prop_at props i).0 ≡ type_in keys (prop_at props i).0
still_new keys props i rise lt =
    type_in-with_keys keys (take i props) (prop_at props i).0
    ∙ (ap (λ v. option_or (type_in keys (prop_at props i).0) (option_map value_type v)) (absent_before props i rise lt)
    ∙ option_or-none (type_in keys (prop_at props i).0))

pub counted : (keys : List (List ℕ × ValueType)) (props : List (List ℕ × Value)) (i n : ℕ) (key : List ℕ) (has : Bool) → KeysRise props → i < length props
    → slice_get (map (λ (p : List ℕ × Value). p.0) props) i ≡ Some key → has ≡ is_some (type_in keys key)
    → length keys + n ≡ length (with_keys keys (take i props)) → length keys + cond has n (n + 1) ≡ length (with_keys keys (take (i + 1) props))
counted keys props i n key has rise lt at is count =
    let k = key_there props i key lt at in
    let known : is_some (type_in (with_keys keys (take i props)) (prop_at props i).0) ≡ has = ap is_some (still_new keys props i rise lt) ∙ (ap (λ x. is_some (type_in keys x)) k ∙ sym is) in
    let next = ap (with_keys keys) (take_prop props i lt) ∙ with_keys-push keys (take i props) (prop_at props i) in
    sym (ap length (next ∙ ap (λ t. cond t (with_keys keys (take i props)) (with_keys keys (take i props) ++ ((prop_at props i).0, value_type (prop_at props i).1) ∷ [])) known)
    ∙ more has)
  where
    more : (t : Bool) → length (cond t (with_keys keys (take i props)) (with_keys keys (take i props) ++ ((prop_at props i).0, value_type (prop_at props i).1) ∷ [])) ≡ length keys + cond t n (n + 1)
    more true = sym count
    more false = omega (arith, length_push (with_keys keys (take i props)) ((prop_at props i).0, value_type (prop_at props i).1), count)

-- the first property that clashes
module _ (keys : List (List ℕ × ValueType)) (props : List (List ℕ × Value)) (i : ℕ) (key : List ℕ) (value : Value) (lt : i < length props)
    (at : slice_get (map (λ (p : List ℕ × Value). p.0) props) i ≡ Some key) (has : slice_get (map (λ (p : List ℕ × Value). p.1) props) i ≡ Some value) (before : find (clashes keys) (take i props) ≡ None) where
  next : take (i + 1) props ≡ take i props ++ (key, value) ∷ []
  next = take_prop props i lt ∙ ap (λ p. take i props ++ p ∷ []) (prop_there props i key value lt at has)

  pub clash_found : (r : Option (ValueType × ValueType)) → is_some r ≡ true → OnSome r (clashes keys (key, value) ≡ true) → IfSome r (λ r. type_in keys key ≡ Some r.0) → IfSome r (λ r. value_type value ≡ r.1) → IsClash keys props r
  clash_found None s c k g = cc
  clash_found (Some r) s c k g = (
    (key, value),
    ap (find (clashes keys)) (sym (take-append-drop (i + 1) props) ∙ ap (λ ps. ps ++ drop (i + 1) props) next) ∙ find-push_past (clashes keys) (take i props) (drop (i + 1) props) (key, value) before c,
    k,
    g,
  )

  pub clash_none : (r : Option (ValueType × ValueType)) → is_some r ≡ false → IfNone r (clashes keys (key, value) ≡ false) → find (clashes keys) (take (i + 1) props) ≡ None
  clash_none None s c = ap (find (clashes keys)) next ∙ (find-push (clashes keys) (take i props) (key, value) ∙ rw (before, c) refl)
  clash_none (Some r) s c = cc

-- a sum with a choice
pub pick : (a x n m : ℕ) (has v : Bool) → a + cond has n (n + 1) ≡ x → has ≡ v → m ≡ cond v n (n + 1) → a + m ≡ x
pick a x n m has v sum is m_is = ap (λ k. a + k) (m_is ∙ ap (λ t. cond t n (n + 1)) (sym is)) ∙ sum

insert_entry-last : (keys : List (List ℕ × ValueType)) (key : List ℕ) (t : ValueType) → is_some (type_in keys key) ≡ false → insert_entry same_name keys key t ≡ keys ++ (key, t) ∷ []
insert_entry-last [] key t e = refl
insert_entry-last (k ∷ keys) key t e = last (same_name key k.0) (λ h. insert_entry-last keys key t h) e
  where
    last : (s : Bool) → (is_some (type_in keys key) ≡ false → insert_entry same_name keys key t ≡ keys ++ (key, t) ∷ []) → is_some (cond s (Some k.1) (type_in keys key)) ≡ false
        → cond s ((k.0, t) ∷ keys) (k ∷ insert_entry same_name keys key t) ≡ k ∷ (keys ++ (key, t) ∷ [])
    last true on h = cc
    last false on h = ap (λ ks. k ∷ ks) (on h)

-- a new key goes last, with the type of its value
pub insert_entry-with_key : (keys : List (List ℕ × ValueType)) (key : List ℕ) (value : Value) → is_some (type_in keys key) ≡ false → insert_entry same_name keys key (value_type value) ≡ with_key keys (key, value)
insert_entry-with_key keys key value e = insert_entry-last keys key (value_type value) e ∙ sym (ap (λ t. cond t keys (keys ++ (key, value_type value) ∷ [])) e)

-- the properties before one that rises have lesser keys, so none has its key
pub less_before : (props : List (List ℕ × Value)) (i : ℕ) → KeysRise props → i < length props → AllByRecursion (λ (q : List ℕ × Value). name_cmp q.0 (prop_at props i).0 ≡ Less) (take i props)
less_before [] i rise lt = absurd (omega arith)
less_before (p ∷ props) zero rise lt = tt
less_before (p ∷ props) (suc i) rise lt =
    (each_at (λ (q : List ℕ × Value). name_cmp p.0 q.0 ≡ Less) props i ([], Int (pos 0)) rise.0 (omega arith), less_before props i rise.1 (omega arith))

has_key-less : (key : List ℕ) (qs : List (List ℕ × Value)) → AllByRecursion (λ (q : List ℕ × Value). name_cmp q.0 key ≡ Less) qs → has_key key qs ≡ false
has_key-less key [] h = refl
has_key-less key (q ∷ qs) h = or_from (same_name key q.0) (has_key key qs) (ap is_eq (name_total.antisymm key q.0 ∙ ap ordering_reverse h.0)) (has_key-less key qs h.1)

-- values by number, with that of the property at a place
pub record AreNumberedTo (names : ℕ → List ℕ) (n : ℕ) (props : List (List ℕ × Value)) (i : ℕ) (values : List (ℕ × Value)) : Type 0 where
  pub named_so : with_key_names names values ≡ take i props
  pub below : AllByRecursion (λ (p : ℕ × Value). p.0 < n) values
  pub rise : NumbersRise values

pub numbered_more : (names : ℕ → List ℕ) (n : ℕ) (props : List (List ℕ × Value)) (i k : ℕ) (key : List ℕ) (value : Value) (values : List (ℕ × Value)) → KeysRise props → i < length props
    → slice_get (map (λ (p : List ℕ × Value). p.0) props) i ≡ Some key → slice_get (map (λ (p : List ℕ × Value). p.1) props) i ≡ Some value
    → k < n → names k ≡ key → AreNumberedTo names n props i values → AreNumberedTo names n props (i + 1) (put_number (k, value) values)
numbered_more names n props i k key value values rise lt at has within name h =
    let there = prop_there props i key value lt at has in
    let less : AllByRecursion (λ (q : List ℕ × Value). name_cmp q.0 key ≡ Less) (take i props) = subst (λ (p : List ℕ × Value). AllByRecursion (λ (q : List ℕ × Value). name_cmp q.0 p.0 ≡ Less) (take i props)) there (less_before props i rise lt) in
    let absent : has_key (names k) (with_key_names names values) ≡ false = ap (λ x. has_key x (with_key_names names values)) name ∙ (ap (has_key key) h.named_so ∙ has_key-less key (take i props) less) in
    record {
      named_so = with_key_names-put names (k, value) values absent
          ∙ (ap (λ x. put_prop (x, value) (with_key_names names values)) name
          ∙ (ap (put_prop (key, value)) h.named_so
          ∙ (put_prop-last (key, value) (take i props) less
          ∙ sym (take_prop props i lt ∙ ap (λ p. take i props ++ p ∷ []) there))));
      below = each_put names (k, value) (λ (p : ℕ × Value). p.0 < n) values within h.below;
      rise = rise_put names (k, value) values absent h.rise;
    }

-- numbers keep their keys where a table grows
pub key_name-with_keys : (keys : List (List ℕ × ValueType)) (props : List (List ℕ × Value)) (k : ℕ) → k < length keys → key_name (with_keys keys props) k ≡ key_name keys k
key_name-with_keys keys props k lt =
    let g = grows keys props in
    let names : List (List ℕ × ValueType) → List (List ℕ) = map (λ (p : List ℕ × ValueType). p.0) in
    ap (λ (ks : List (List ℕ × ValueType)). key_name ks k) g.1
    ∙ (ap (λ ns. get_or ns k []) (map-append (λ (p : List ℕ × ValueType). p.0) keys g.0)
    ∙ get_or-append (names keys) (names g.0) [] k (rw length-map lt))

pub length-with_keys : (keys : List (List ℕ × ValueType)) (props : List (List ℕ × Value)) → length keys ≤ length (with_keys keys props)
length-with_keys keys props = let g = grows keys props in let e = ap length g.1 ∙ length-append keys g.0 in omega arith
