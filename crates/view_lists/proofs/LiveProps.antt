-- The properties that events leave, gathered from the last event back.
use Rattle.std.proofs.Common.{◌≡◌, ℕ, zero, suc, ◌+◌, ◌-◌, ◌<◌, ◌≤◌, ◌⊎◌, Bool, true, false, ◌||◌, List, [], ◌∷◌, ◌++◌, length, map, take, drop, get_or, Option, Some, None, cond, refl, sym, ◌∙◌, ap, subst, arith, inl, inr, pos}
use Rattle.std.specs.Prelude.{slice_get}
use Rattle.std.specs.List.{All, AllByRecursion, IsDistinct, list_any, last_or, filter_map, cons_option}
use Rattle.std.specs.Set.{is_member}
use Rattle.std.specs.declared.cmp.Ordering.{Ordering}
use Rattle.std.specs.declared.cmp.Ordering.TheVariants.{Less, Equal, Greater}
use Rattle.std.specs.Ordering.{ordering_reverse, is_eq}
use Rattle.std.proofs.lemmas.Bool.{cases_Bool, cond-true, cond-false, or_parts, true≢false}
use Rattle.std.proofs.lemmas.List.{drop_more, get_or-map, get_or-take, length-map, length-take-le, take-append-drop}
use Rattle.std.proofs.lemmas.List.Elements.{recursion_from_All, All-get_or, filter_map-append}
use Rattle.std.proofs.lemmas.Map.Made.{length-le_from_is_member}
use Rattle.std.proofs.lemmas.Option.{get_or_from_slice_get}
use Rattle.graph_model.specs.declared.properties.Value.{Value}
use Rattle.graph_model.specs.declared.properties.Value.TheVariants.{Int}
use Rattle.graph_model.specs.declared.events.Entity.{Entity}
use Rattle.graph_model.specs.declared.events.Entity.TheVariants.{Node, Edge}
use Rattle.graph_model.specs.declared.events.Event.{Event}
use Rattle.graph_model.specs.Names.{name_cmp, same_name, name_total, name_equiv}
use Rattle.graph_model.specs.Props.{KeysRise, has_key, prop_value, put_prop, overwrite}
use Rattle.graph_model.specs.Compare.{live_events, last_value}
use Rattle.graph_model.specs.Entity.{is_deletion, props_of, what_props}
use Rattle.graph_model.specs.Window.{last_props}
use Rattle.world_laws.proofs.Filters.{each_weaker}
use Rattle.world_laws.proofs.ListParts.{each_drop, each_take}
use Rattle.world_laws.proofs.Order.{name_exact, same_name-refl, same_name-exact}
use Rattle.world_laws.proofs.Carried.{each_live}
use Rattle.world_laws.proofs.Distinct.{first_some, less_apart, prop_value-cons, prop_value-none, prop_value-some, any-put_prop, value-put_prop, value-overwrite, last_or-append, Distinct-rising, Distinct-put_prop}
use Rattle.world_laws.proofs.Live.{live_all, live_events-append, live_after}
use Rattle.world_laws.proofs.Values.{KeysRise-overwrite, KeysRise-last_props, last_props_value}
use Rattle.world_laws.proofs.ListItems.{no_images}
use Rattle.time_history.specs.declared.updates.Kind.{Kind}
use Rattle.time_history.specs.declared.updates.Kind.TheVariants.{Node as OfNode, Add, Delete}
use Rattle.time_history.specs.declared.updates.Update.{Update}
use Rattle.time_history.specs.Kinds.{is_delete}
use Rattle.time_history.specs.Updates.{update_at, no_update}
use Rattle.time_history.specs.Telling.{with_key_names, what_told, event_told, events_told, Fits}
use Rattle.time_history.specs.Asked.{AreNamed}
use Rattle.time_history.proofs.Clips.{deletes-told}
use Rattle.time_history.proofs.Segments.{each_in_map}

-- ---- the values of an update, from the last to the first

abbrev pub no_value : ℕ × Value
no_value = (0, Int (pos 0))

-- the number of a key at a place
pub key_there : (vs : List (ℕ × Value)) (j key : ℕ) → j < length vs → slice_get (map (λ (p : ℕ × Value). p.0) vs) j ≡ Some key → (get_or vs j no_value).0 ≡ key
key_there vs j key lt at_key = sym (get_or-map (λ (q : ℕ × Value). q.0) vs j no_value 0 lt) ∙ get_or_from_slice_get (map (λ (q : ℕ × Value). q.0) vs) j key 0 at_key

pub key_below : (vs : List (ℕ × Value)) (j key n : ℕ) → All (λ (p : ℕ × Value). p.0 < n) vs → j < length vs → slice_get (map (λ (p : ℕ × Value). p.0) vs) j ≡ Some key → key < n
key_below vs j key n h lt at_key = subst (λ m. m < n) (key_there vs j key lt at_key) (All-get_or (λ (p : ℕ × Value). p.0 < n) vs j no_value lt h)

pub named_more : (names : ℕ → List ℕ) (vs : List (ℕ × Value)) (j : ℕ) (old new : List (List ℕ × Value)) (key : ℕ) (v : Value) (name : List ℕ) → 0 < j → j ≤ length vs → slice_get (map (λ (p : ℕ × Value). p.0) vs) (j - 1) ≡ Some key → slice_get (map (λ (p : ℕ × Value). p.1) vs) (j - 1) ≡ Some v
    → name ≡ names key → old ≡ with_key_names names (drop j vs) → new ≡ put_prop (name, v) old → new ≡ with_key_names names (drop (j - 1) vs)
named_more names vs j old new key v name some le at_key at_value is before put =
    let lt : j - 1 < length vs = omega arith in
    let next : j - 1 + 1 ≡ j = omega arith in
    let k = key_there vs (j - 1) key lt at_key in
    let u : (get_or vs (j - 1) no_value).1 ≡ v = sym (get_or-map (λ (q : ℕ × Value). q.1) vs (j - 1) no_value (Int (pos 0)) lt) ∙ get_or_from_slice_get (map (λ (q : ℕ × Value). q.1) vs) (j - 1) v (Int (pos 0)) at_value in
    put
    ∙ ((λ i. put_prop (is i, v) (before i))
    ∙ ((λ i. put_prop (names (sym k i), sym u i) (with_key_names names (drop (sym next i) vs))) ∙ ap (with_key_names names) (sym (drop_more vs (j - 1) no_value lt))))

-- ---- properties that rise are fixed by their values

own_value : (p : List ℕ × Value) (ps : List (List ℕ × Value)) → prop_value p.0 (p ∷ ps) ≡ Some p.1
own_value p ps = prop_value-cons p.0 p ps ∙ cond-true (same_name p.0 p.0) (Some p.1) (prop_value p.0 ps) (same_name-refl p.0)

below_none : (p q : List ℕ × Value) (qs : List (List ℕ × Value)) → name_cmp p.0 q.0 ≡ Less → KeysRise (q ∷ qs) → prop_value p.0 (q ∷ qs) ≡ None
below_none p q qs less h = prop_value-none p.0 (q ∷ qs) (less_apart p.0 (q ∷ qs) (less, each_weaker (λ (r : List ℕ × Value). name_cmp q.0 r.0 ≡ Less) (λ (r : List ℕ × Value). name_cmp p.0 r.0 ≡ Less) (λ r k. name_total.trans p.0 q.0 r.0 less k) qs h.0))

pub props_fixed : (ps qs : List (List ℕ × Value)) → KeysRise ps → KeysRise qs → ((key : List ℕ) → prop_value key ps ≡ prop_value key qs) → ps ≡ qs
props_fixed [] [] a b h = refl
props_fixed [] (q ∷ qs) a b h = let e = h q.0 ∙ own_value q qs in cc
props_fixed (p ∷ ps) [] a b h = let e = sym (own_value p ps) ∙ h p.0 in cc
props_fixed (p ∷ ps) (q ∷ qs) a b h = by (name_cmp p.0 q.0) refl (props_fixed ps qs a.1 b.1)
  where
    rest : p.0 ≡ q.0 → (key : List ℕ) (t : Bool) → same_name key p.0 ≡ t → prop_value key ps ≡ prop_value key qs
    rest is key true e =
        let at : key ≡ p.0 = same_name-exact key p.0 e in
        ap (λ z. prop_value z ps) at
        ∙ (prop_value-none p.0 ps (less_apart p.0 ps a.0) ∙ sym (ap (λ z. prop_value z qs) (at ∙ is) ∙ prop_value-none q.0 qs (less_apart q.0 qs b.0)))
    rest is key false e =
        sym (prop_value-cons key p ps ∙ cond-false (same_name key p.0) (Some p.1) (prop_value key ps) e)
        ∙ (h key ∙ (prop_value-cons key q qs ∙ cond-false (same_name key q.0) (Some q.1) (prop_value key qs) (ap (same_name key) (sym is) ∙ e)))

    by : (o : Ordering) → name_cmp p.0 q.0 ≡ o → (((key : List ℕ) → prop_value key ps ≡ prop_value key qs) → ps ≡ qs) → p ∷ ps ≡ q ∷ qs
    by Less e more = let no = sym (own_value p ps) ∙ (h p.0 ∙ below_none p q qs e b) in cc
    by Greater e more =
        let back : name_cmp q.0 p.0 ≡ Less = name_total.antisymm q.0 p.0 ∙ ap ordering_reverse e in
        let no = sym (own_value q qs) ∙ (sym (h q.0) ∙ below_none q p ps back a) in cc
    by Equal e more =
        let is : p.0 ≡ q.0 = name_exact p.0 q.0 e in
        let values : Some p.1 ≡ Some q.1 = sym (own_value p ps) ∙ (h p.0 ∙ (ap (λ z. prop_value z (q ∷ qs)) is ∙ own_value q qs)) in
        let value : p.1 ≡ q.1 = cc in
        let others = more (λ key. rest is key (same_name key p.0) refl) in
        λ i. (is i, value i) ∷ others i

pub other_name : (a b : List ℕ) → (a ≡ b → ⊥) → same_name a b ≡ false
other_name a b h = elim (cases_Bool (same_name a b)) [
  | inl e ↦ absurd (h (same_name-exact a b e))
  | inr e ↦ e
]

-- ---- one property more, under others

first_kept : {X : Type 0} (s : Bool) (v : X) (a b : Option X) → (s ≡ true → b ≡ None) → first_some (first_some a b) (cond s (Some v) None) ≡ first_some a (cond s (Some v) b)
first_kept s v (Some x) b h = refl
first_kept true v None b h = ap (λ o. first_some o (Some v)) (h refl)
first_kept false v None None h = refl
first_kept false v None (Some y) h = refl

pub overwrite_more : (p : List ℕ × Value) (ps old : List (List ℕ × Value)) → has_key p.0 ps ≡ false → KeysRise ps → KeysRise old → overwrite (p ∷ []) (overwrite ps old) ≡ overwrite (put_prop p ps) old
overwrite_more p ps old free up rise =
    props_fixed (overwrite (p ∷ []) (overwrite ps old)) (overwrite (put_prop p ps) old) (KeysRise-overwrite (p ∷ []) (overwrite ps old) (KeysRise-overwrite ps old rise)) (KeysRise-overwrite (put_prop p ps) old rise) (λ key.
    value-overwrite key (p ∷ []) (overwrite ps old) (refl, tt)
    ∙ ((λ i. first_some (value-overwrite key ps old (Distinct-rising ps up) i) (prop_value-cons key p [] i))
    ∙ (first_kept (same_name key p.0) p.1 (prop_value key old) (prop_value key ps) (λ e. prop_value-none key ps (ap (λ z. has_key z ps) (same_name-exact key p.0 e) ∙ free))
    ∙ sym (value-overwrite key (put_prop p ps) old (Distinct-put_prop p ps free (Distinct-rising ps up)) ∙ ap (first_some (prop_value key old)) (value-put_prop key p ps free)))))

-- ---- the last values of events with others before them

some_first : {X : Type 0} (a : Option X) (x : X) (o : Option X) → first_some (first_some a (Some x)) o ≡ first_some a (Some x)
some_first None x o = refl
some_first (Some y) x o = refl

last_or_first : {X : Type 0} (o : Option X) (xs : List X) → last_or o xs ≡ first_some (last_or None xs) o
last_or_first o [] = refl
last_or_first o (x ∷ xs) = let h = last_or_first (Some x) xs in h ∙ (sym (some_first (last_or None xs) x o) ∙ ap (λ a. first_some a o) (sym h))

last_value-append : (key : List ℕ) (xs ys : List Event) → last_value key (xs ++ ys) ≡ first_some (last_value key ys) (last_value key xs)
last_value-append key xs ys =
    let v : Event → Option Value = λ x. prop_value key (props_of x) in
    ap (last_or None) (filter_map-append v xs ys) ∙ (last_or-append None (filter_map v xs) (filter_map v ys) ∙ last_or_first (last_or None (filter_map v xs)) (filter_map v ys))

one_kept : {X : Type 0} (o : Option X) → last_or None (cons_option o []) ≡ o
one_kept None = refl
one_kept (Some x) = refl

-- one event before others
last_props_more : (x : Event) (ys : List Event) → AllByRecursion (λ y. KeysRise (props_of y)) (x ∷ ys) → overwrite (props_of x) (last_props ys) ≡ last_props (x ∷ ys)
last_props_more x ys h =
    props_fixed (overwrite (props_of x) (last_props ys)) (last_props (x ∷ ys)) (KeysRise-overwrite (props_of x) (last_props ys) (KeysRise-last_props ys h.1)) (KeysRise-last_props (x ∷ ys) h) (λ key.
    value-overwrite key (props_of x) (last_props ys) (Distinct-rising (props_of x) h.0)
    ∙ ((λ i. first_some (last_props_value key ys h.1 i) (sym (one_kept (prop_value key (props_of x))) i))
    ∙ (sym (last_value-append key (x ∷ []) ys) ∙ sym (last_props_value key (x ∷ ys) h))))

first_alone : {X : Type 0} (a b : Option X) → (a ≡ None → b ≡ None) → first_some a b ≡ a
first_alone None b h = h refl
first_alone (Some x) b h = refl

-- events before others that have every key already
last_props_enough : (xs ys : List Event) → AllByRecursion (λ y. KeysRise (props_of y)) (xs ++ ys) → AllByRecursion (λ y. KeysRise (props_of y)) ys → ((key : List ℕ) → prop_value key (last_props ys) ≡ None → last_value key xs ≡ None) → last_props (xs ++ ys) ≡ last_props ys
last_props_enough xs ys h k enough =
    props_fixed (last_props (xs ++ ys)) (last_props ys) (KeysRise-last_props (xs ++ ys) h) (KeysRise-last_props ys k) (λ key.
    last_props_value key (xs ++ ys) h
    ∙ (last_value-append key xs ys
    ∙ (first_alone (last_value key ys) (last_value key xs) (λ e. enough key (last_props_value key ys k ∙ e)) ∙ sym (last_props_value key ys k))))

-- ---- names of numbers below n

abbrev IsNameOf : (ℕ → List ℕ) → ℕ → List ℕ → Type 0
IsNameOf names n name = ((k : ℕ) × (k < n) × (name ≡ names k)) ⊎ ((k : ℕ) → k < n → name ≡ names k → ⊥)

named_or_not : (names : ℕ → List ℕ) (n : ℕ) (name : List ℕ) → IsNameOf names n name
named_or_not names zero name = inr (λ k lt. absurd (omega arith))
named_or_not names (suc n) name = elim (named_or_not names n name) [
  | inl r ↦ inl (r.0, let lt = r.1 in omega arith, r.2)
  | inr none ↦ elim (cases_Bool (same_name name (names n))) [
    | inl e ↦ inl (n, omega arith, same_name-exact name (names n) e)
    | inr e ↦ inr (λ k lt is. elim (at_end k n lt) [
      | inl s ↦ true≢false (sym (ap (same_name name) (sym (is ∙ ap names s)) ∙ same_name-refl name) ∙ e)
      | inr l ↦ none k l is
    ])
  ]
]
  where
    at_end : (k n : ℕ) → k < suc n → (k ≡ n) ⊎ (k < n)
    at_end k n m = grind arith

no_last_value : (name : List ℕ) (xs : List Event) → AllByRecursion (λ x. prop_value name (props_of x) ≡ None) xs → last_value name xs ≡ None
no_last_value name xs h = ap (last_or None) (no_images (λ x. prop_value name (props_of x)) xs h)

-- ---- as many properties as there are keys

abbrev first_names : (ℕ → List ℕ) → ℕ → List (List ℕ)
first_names names zero = []
first_names names (suc n) = names n ∷ first_names names n

length-first_names : (names : ℕ → List ℕ) (n : ℕ) → length (first_names names n) ≡ n
length-first_names names zero = refl
length-first_names names (suc n) = ap suc (length-first_names names n)

or_later : (a b : Bool) → b ≡ true → (a || b) ≡ true
or_later true b h = refl
or_later false b h = h

among_first : (names : ℕ → List ℕ) (n k : ℕ) → k < n → list_any (same_name (names k)) (first_names names n) ≡ true
among_first names zero k lt = absurd (omega arith)
among_first names (suc n) k lt = elim (at_end k n lt) [
  | inl e ↦ ap (λ t. t || list_any (same_name (names k)) (first_names names n)) (ap (λ i. same_name (names k) (names i)) (sym e) ∙ same_name-refl (names k))
  | inr l ↦ or_later (same_name (names k) (names n)) (list_any (same_name (names k)) (first_names names n)) (among_first names n k l)
]
  where
    at_end : (k n : ℕ) → k < suc n → (k ≡ n) ⊎ (k < n)
    at_end k n m = grind arith

abbrev keys : List (List ℕ × Value) → List (List ℕ)
keys ps = map (λ (p : List ℕ × Value). p.0) ps

keys_distinct : (ps : List (List ℕ × Value)) → KeysRise ps → IsDistinct same_name (keys ps)
unfolding IsDistinct
keys_distinct [] h = tt
keys_distinct (p ∷ ps) h = (each_in_map (λ (q : List ℕ × Value). q.0) (λ (q : List ℕ × Value). name_cmp p.0 q.0 ≡ Less) (λ k. same_name p.0 k ≡ false) (λ q e. ap is_eq e) ps h.0, keys_distinct ps h.1)

absent_apart : (name : List ℕ) (ps : List (List ℕ × Value)) → has_key name ps ≡ false → AllByRecursion (λ k. same_name name k ≡ false) (keys ps)
absent_apart name [] h = tt
absent_apart name (p ∷ ps) h = let m = or_parts (same_name name p.0) (has_key name ps) h in (m.0, absent_apart name ps m.1)

has_key-keys : (name : List ℕ) (ps : List (List ℕ × Value)) → list_any (same_name name) (keys ps) ≡ has_key name ps
has_key-keys name [] = refl
has_key-keys name (p ∷ ps) = ap (λ t. same_name name p.0 || t) (has_key-keys name ps)

-- n properties with names of numbers below n leave out none of these
none_missing : (names : ℕ → List ℕ) (n : ℕ) (ps : List (List ℕ × Value)) → KeysRise ps → n ≤ length ps → ((name : List ℕ) → ((k : ℕ) → k < n → name ≡ names k → ⊥) → prop_value name ps ≡ None)
    → (k : ℕ) → k < n → prop_value (names k) ps ≡ None → ⊥
unfolding IsDistinct
none_missing names n ps rise enough others k lt none =
    let free : has_key (names k) ps ≡ false = elim (cases_Bool (has_key (names k) ps)) [ inl e ↦ absurd (prop_value-some (names k) ps e none) | inr e ↦ e ] in
    let few = length-le_from_is_member name_equiv (names k ∷ keys ps) (first_names names n) (absent_apart (names k) ps free, keys_distinct ps rise) among in
    let a = length-map ps (λ (p : List ℕ × Value). p.0) in
    let b = length-first_names names n in
    omega (arith, few, a, b, enough)
  where
    among : (q : List ℕ) → is_member same_name (names k ∷ keys ps) q ≡ true → is_member same_name (first_names names n) q ≡ true
    among q h = elim (named_or_not names n q) [
      | inl r ↦ ap (λ z. list_any (same_name z) (first_names names n)) r.2 ∙ among_first names n r.0 r.1
      | inr other ↦
          let there : has_key q ps ≡ true = sym (has_key-keys q ps) ∙ (ap (λ t. t || list_any (same_name q) (keys ps)) (sym (other_name q (names k) (other k lt))) ∙ h) in
          absurd (prop_value-some q ps there (others q other))
    ]

-- events before others that leave as many properties as there are keys have no key besides
enough_keys : (names : ℕ → List ℕ) (n : ℕ) (xs ys : List Event) → AllByRecursion (λ y. KeysRise (props_of y)) ys → n ≤ length (last_props ys)
    → ((name : List ℕ) → ((k : ℕ) → k < n → name ≡ names k → ⊥) → AllByRecursion (λ x. prop_value name (props_of x) ≡ None) xs) → ((name : List ℕ) → ((k : ℕ) → k < n → name ≡ names k → ⊥) → AllByRecursion (λ x. prop_value name (props_of x) ≡ None) ys)
    → (key : List ℕ) → prop_value key (last_props ys) ≡ None → last_value key xs ≡ None
enough_keys names n xs ys rise enough early late key none = elim (named_or_not names n key) [
  | inl r ↦ absurd (none_missing names n (last_props ys) (KeysRise-last_props ys rise) enough (λ name other. last_props_value name ys rise ∙ no_last_value name ys (late name other)) r.0 r.1 (ap (λ z. prop_value z (last_props ys)) (sym r.2) ∙ none))
  | inr other ↦ no_last_value key xs (early key other)
]

-- ---- keys that events lack

lacks_key : (names : ℕ → List ℕ) (n : ℕ) (name : List ℕ) → ((k : ℕ) → k < n → name ≡ names k → ⊥) → (ps : List (ℕ × Value)) → AllByRecursion (λ (p : ℕ × Value). p.0 < n) ps → has_key name (with_key_names names ps) ≡ false
lacks_key names n name none [] h = refl
lacks_key names n name none (p ∷ ps) h =
    any-put_prop (λ (q : List ℕ × Value). same_name name q.0) (names p.0, p.1) (with_key_names names ps)
    ∙ ((λ i. other_name name (names p.0) (none p.0 h.0) i || has_key name (with_key_names names ps)) ∙ lacks_key names n name none ps h.1)

lacks_told : (x : Entity) (names : ℕ → List ℕ) (n : ℕ) (name : List ℕ) → ((k : ℕ) → k < n → name ≡ names k → ⊥) → (kind : Kind) (ps : List (ℕ × Value)) → AllByRecursion (λ (p : ℕ × Value). p.0 < n) ps → prop_value name (what_props (what_told x kind (with_key_names names ps))) ≡ None
lacks_told (Node other) names n name none kind ps h = prop_value-none name (with_key_names names ps) (lacks_key names n name none ps h)
lacks_told (Edge edge) names n name none OfNode ps h = prop_value-none name (with_key_names names ps) (lacks_key names n name none ps h)
lacks_told (Edge edge) names n name none Add ps h = prop_value-none name (with_key_names names ps) (lacks_key names n name none ps h)
lacks_told (Edge edge) names n name none Delete ps h = refl

-- events that are told lack all names but those of numbers below n
lacks_all : (x : Entity) (names : ℕ → List ℕ) (n : ℕ) (us : List Update) → AreNamed names n us → (name : List ℕ) → ((k : ℕ) → k < n → name ≡ names k → ⊥) → AllByRecursion (λ y. prop_value name (props_of y) ≡ None) (events_told x names us)
lacks_all x names n us are name none =
    each_in_map (event_told x names) (λ (u : Update). AllByRecursion (λ (p : ℕ × Value). p.0 < n) u.props) (λ y. prop_value name (props_of y) ≡ None) (λ u h. lacks_told x names n name none u.kind u.props h) us
    (each_weaker (λ (u : Update). All (λ (p : ℕ × Value). p.0 < n) u.props) (λ (u : Update). AllByRecursion (λ (p : ℕ × Value). p.0 < n) u.props) (λ u h. recursion_from_All (λ (p : ℕ × Value). p.0 < n) u.props h) us
    (recursion_from_All (λ (u : Update). All (λ (p : ℕ × Value). p.0 < n) u.props) us are.below))

props_told : (x : Entity) (kind : Kind) (ps : List (List ℕ × Value)) → is_delete kind ≡ false → what_props (what_told x kind ps) ≡ ps
props_told (Node name) kind ps h = refl
props_told (Edge edge) OfNode ps h = refl
props_told (Edge edge) Add ps h = refl
props_told (Edge edge) Delete ps h = cc

-- ---- values gathered from the last event back

-- the last values of the events from a place on, none of which is a deletion
pub record Gathered (es : List Event) (i : ℕ) (props : List (List ℕ × Value)) : Type 0 where
  pub kept : list_any is_deletion (drop i es) ≡ false
  pub values : props ≡ last_props (drop i es)

drop_taken : {X : Type 0} (n : ℕ) (xs : List X) → drop n (take n xs) ≡ []
drop_taken zero xs = refl
drop_taken (suc n) [] = refl
drop_taken (suc n) (x ∷ xs) = drop_taken n xs

pub gathered_none : (to : ℕ) (es : List Event) (props : List (List ℕ × Value)) → props ≡ [] → Gathered (take to es) to props
gathered_none to es props none = let nothing = sym (drop_taken to es) in record { kept = ap (list_any is_deletion) (sym nothing); values = none ∙ ap last_props nothing }

module _ (x : Entity) (names : ℕ → List ℕ) (us : List Update) (to i : ℕ) (props : List (List ℕ × Value)) (le : to ≤ length us) (rise : AllByRecursion (λ y. KeysRise (props_of y)) (events_told x names us)) (h : Gathered (take to (events_told x names us)) i props) where
  each : AllByRecursion (λ y. KeysRise (props_of y)) (take to (events_told x names us))
  each = each_take (λ y. KeysRise (props_of y)) to (events_told x names us) rise

  one_more : 0 < i → i ≤ to → drop (i - 1) (take to (events_told x names us)) ≡ event_told x names (update_at us (i - 1)) ∷ drop i (take to (events_told x names us))
  one_more some within =
      let events = events_told x names us in
      let all = length-map us (event_told x names) in
      let first = length-take-le to events (omega (arith, all, le)) in
      let next : i - 1 + 1 ≡ i = omega arith in
      drop_more (take to events) (i - 1) (event_told x names no_update) (omega (arith, first, some, within))
      ∙ ((λ j. get_or-take to events (i - 1) (event_told x names no_update) (omega (arith, some, within)) j ∷ drop (next j) (take to events))
      ∙ ap (λ y. y ∷ drop i (take to events)) (get_or-map (event_told x names) us (i - 1) no_update (event_told x names no_update) (omega (arith, some, within, le))))

  -- an update that is no deletion
  pub gathered_more : (new : List (List ℕ × Value)) → Fits x us → 0 < i → i ≤ to → is_delete (update_at us (i - 1)).kind ≡ false → new ≡ overwrite (with_key_names names (update_at us (i - 1)).props) props → Gathered (take to (events_told x names us)) (i - 1) new
  gathered_more new fit some within kept put =
      let es = take to (events_told x names us) in
      let u = update_at us (i - 1) in
      let y = event_told x names u in
      let whole = one_more some within in
      let undeleted : is_deletion y ≡ false = deletes-told x u.kind (with_key_names names u.props) (fit (i - 1) no_update (omega (arith, some, within, le))) ∙ kept in
      record {
        kept = ap (list_any is_deletion) whole ∙ (λ j. undeleted j || h.kept j);
        values = put ∙ ((λ j. overwrite (sym (props_told x u.kind (with_key_names names u.props) kept) j) (h.values j))
            ∙ (last_props_more y (drop i es) (subst (AllByRecursion (λ z. KeysRise (props_of z))) whole (each_drop (λ z. KeysRise (props_of z)) (i - 1) es each)) ∙ ap last_props (sym whole)));
      }

  -- all events were gone over
  pub gathered_all : i ≡ 0 → props ≡ last_props (live_events (take to (events_told x names us)))
  gathered_all none =
      let es = take to (events_told x names us) in
      let whole : drop i es ≡ es = ap (λ j. drop j es) none in
      h.values ∙ ap last_props (whole ∙ sym (live_all es (ap (list_any is_deletion) (sym whole) ∙ h.kept)))

  -- the event before them is a deletion
  pub gathered_deleted : Fits x us → 0 < i → i ≤ to → is_delete (update_at us (i - 1)).kind ≡ true → props ≡ last_props (live_events (take to (events_told x names us)))
  gathered_deleted fit some within deleted =
      let es = take to (events_told x names us) in
      let u = update_at us (i - 1) in
      let y = event_told x names u in
      let deletion : is_deletion y ≡ true = deletes-told x u.kind (with_key_names names u.props) (fit (i - 1) no_update (omega (arith, some, within, le))) ∙ deleted in
      let parts : es ≡ take (i - 1) es ++ y ∷ drop i es = sym (take-append-drop (i - 1) es) ∙ ap (λ ys. take (i - 1) es ++ ys) (one_more some within) in
      h.values ∙ ap last_props (sym (ap live_events parts ∙ live_after (take (i - 1) es) y (drop i es) deletion h.kept))

  -- every key has a value
  pub gathered_enough : (n : ℕ) → AreNamed names n us → n ≤ length props → props ≡ last_props (live_events (take to (events_told x names us)))
  gathered_enough n are enough =
      let es = take to (events_told x names us) in
      let early = take i es in
      let late = drop i es in
      let parts : live_events es ≡ live_events early ++ late = ap live_events (sym (take-append-drop i es)) ∙ (live_events-append early late ∙ cond-false (list_any is_deletion late) (live_events late) (live_events early ++ late) h.kept) in
      let late_rise = each_drop (λ y. KeysRise (props_of y)) i es each in
      let some : n ≤ length (last_props late) = subst (λ ps. n ≤ length ps) h.values enough in
      h.values
      ∙ (sym (last_props_enough (live_events early) late (subst (AllByRecursion (λ y. KeysRise (props_of y))) parts (each_live (λ y. KeysRise (props_of y)) es each)) late_rise (enough_keys names n (live_events early) late late_rise some
      (λ name none. each_live (λ y. prop_value name (props_of y) ≡ None) early (each_take (λ y. prop_value name (props_of y) ≡ None) i es (lacks name none)))
      (λ name none. each_drop (λ y. prop_value name (props_of y) ≡ None) i es (lacks name none))))
      ∙ ap last_props (sym parts))
    where
      lacks : (name : List ℕ) → ((k : ℕ) → k < n → name ≡ names k → ⊥) → AllByRecursion (λ y. prop_value name (props_of y) ≡ None) (take to (events_told x names us))
      lacks name none = each_take (λ y. prop_value name (props_of y) ≡ None) to (events_told x names us) (lacks_all x names n us are name none)
