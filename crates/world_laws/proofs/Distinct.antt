-- Properties with no key twice, and their values where they are put over one another.
use Rattle.std.proofs.Common.{◌≡◌, ℕ, ℤ, Bool, true, false, ◌||◌, List, [], ◌∷◌, ◌++◌, Option, Some, None, cond, refl, sym, ◌∙◌, ap}
use Rattle.std.specs.Option.{option_map}
use Rattle.std.specs.List.{find, fold, filter_map, list_any, last_or, cons_option, AllByRecursion}
use Rattle.std.specs.Ordering.{is_lt, is_eq}
use Rattle.std.specs.declared.cmp.Ordering.TheVariants.{Less}
use Rattle.std.proofs.lemmas.Bool.{cond-true, cond-false, cond_both, or_parts, or_from, true≢false}
use Rattle.std.proofs.lemmas.List.Elements.{filter_map-append}
use Rattle.graph_model.specs.declared.properties.Value.{Value}
use Rattle.graph_model.specs.declared.events.Event.{Event}
use Rattle.graph_model.specs.Names.{name_cmp, same_name, name_equiv}
use Rattle.graph_model.specs.Props.{prop_value, has_key, put_prop, overwrite, KeysRise}
use Rattle.graph_model.specs.Entity.{props_of, entity_of, what_props, update_of, is_deletion}
use Rattle.graph_model.specs.Compare.{live_events, last_value, value_of}
use Rattle.graph_model.specs.Window.{carried_events, last_props}
use Rattle.world_laws.proofs.Carried.{each_live, props-update_of}
use Rattle.world_laws.proofs.Live.{live_events-append, live_events-carried_events}

-- no key stands twice
abbrev pub Distinct : List (List ℕ × Value) → Type 0
Distinct [] = Unit {0}
Distinct (p ∷ ps) = (has_key p.0 ps ≡ false) × Distinct ps

-- a key that is less than all is not among them
pub less_apart : (key : List ℕ) (ps : List (List ℕ × Value)) → AllByRecursion (λ (q : List ℕ × Value). name_cmp key q.0 ≡ Less) ps → has_key key ps ≡ false
less_apart key [] h = refl
less_apart key (p ∷ ps) h = or_from (same_name key p.0) (has_key key ps) (ap is_eq h.0) (less_apart key ps h.1)

-- keys that rise are distinct
pub Distinct-rising : (ps : List (List ℕ × Value)) → KeysRise ps → Distinct ps
Distinct-rising [] h = tt
Distinct-rising (p ∷ ps) h = (less_apart p.0 ps h.0, Distinct-rising ps h.1)

pub each_distinct : (xs : List Event) → AllByRecursion (λ x. KeysRise (props_of x)) xs → AllByRecursion (λ x. Distinct (props_of x)) xs
each_distinct [] h = tt
each_distinct (x ∷ xs) h = (Distinct-rising (props_of x) h.0, each_distinct xs h.1)

-- the first, if there is one, and else the second
abbrev pub first_some : {X : Type 0} → Option X → Option X → Option X
first_some None o = o
first_some (Some x) o = Some x

-- ---- the value of a key among properties
pub prop_value-cons : (key : List ℕ) (p : List ℕ × Value) (qs : List (List ℕ × Value)) → prop_value key (p ∷ qs) ≡ cond (same_name key p.0) (Some p.1) (prop_value key qs)
prop_value-cons key p qs = elim (same_name key p.0) as (λ t. option_map (λ (q : List ℕ × Value). q.1) (cond t (Some p) (find (λ (q : List ℕ × Value). same_name key q.0) qs)) ≡ cond t (Some p.1) (prop_value key qs)) [ true ↦ refl | false ↦ refl ]

-- a key that is not there has no value
pub prop_value-none : (key : List ℕ) (ps : List (List ℕ × Value)) → has_key key ps ≡ false → prop_value key ps ≡ None
prop_value-none key [] h = refl
prop_value-none key (p ∷ ps) h =
    let m = or_parts (same_name key p.0) (has_key key ps) h in
    prop_value-cons key p ps ∙ (cond-false (same_name key p.0) _ _ m.0 ∙ prop_value-none key ps m.1)

-- a key that is there has one
pub prop_value-some : (key : List ℕ) (ps : List (List ℕ × Value)) → has_key key ps ≡ true → prop_value key ps ≡ None → ⊥
prop_value-some key [] h k = true≢false (sym h)
prop_value-some key (p ∷ ps) h k = cases (same_name key p.0) (prop_value-some key ps) h (sym (prop_value-cons key p ps) ∙ k)
  where
    cases : (t : Bool) → (has_key key ps ≡ true → prop_value key ps ≡ None → ⊥) → (t || has_key key ps) ≡ true → cond t (Some p.1) (prop_value key ps) ≡ None → ⊥
    cases true f h k = cc
    cases false f h k = f h k

-- names that are the same as one are the same, and are in the same properties
same_both : (key a b : List ℕ) → same_name key a ≡ true → same_name key b ≡ true → same_name b a ≡ true
same_both key a b h k = sym (name_equiv.congr key b a k) ∙ h

pub has_key-same : (a b : List ℕ) (ps : List (List ℕ × Value)) → same_name a b ≡ true → has_key a ps ≡ has_key b ps
has_key-same a b [] h = refl
has_key-same a b (p ∷ ps) h = let m = name_equiv.congr a b p.0 h in let n = has_key-same a b ps h in λ k. m k || n k

-- ---- one more property

-- a test of properties with one more
pub any-put_prop : (test : List ℕ × Value → Bool) (p : List ℕ × Value) (qs : List (List ℕ × Value)) → list_any test (put_prop p qs) ≡ (test p || list_any test qs)
any-put_prop test p [] = refl
any-put_prop test p (q ∷ qs) =
    elim (is_lt (name_cmp p.0 q.0)) as (λ t. list_any test (cond t (p ∷ q ∷ qs) (q ∷ put_prop p qs)) ≡ (test p || (test q || list_any test qs))) [
      | true ↦ refl
      | false ↦ ap (λ b. test q || b) (any-put_prop test p qs) ∙ turned (test q) (test p) (list_any test qs)
    ]
  where
    turned : (a b c : Bool) → (a || (b || c)) ≡ (b || (a || c))
    turned true true c = refl
    turned true false c = refl
    turned false b c = refl

swap_conds : {X : Type 0} (a b : Bool) (x y z : X) → (a ≡ true → b ≡ true → ⊥) → cond a x (cond b y z) ≡ cond b y (cond a x z)
swap_conds true true x y z h = absurd (h refl refl)
swap_conds true false x y z h = refl
swap_conds false b x y z h = refl

-- the value of a key among properties with one more, whose key was not there
pub value-put_prop : (key : List ℕ) (p : List ℕ × Value) (qs : List (List ℕ × Value)) → has_key p.0 qs ≡ false → prop_value key (put_prop p qs) ≡ cond (same_name key p.0) (Some p.1) (prop_value key qs)
value-put_prop key p [] h = prop_value-cons key p []
value-put_prop key p (q ∷ qs) h =
    let m = or_parts (same_name p.0 q.0) (has_key p.0 qs) h in
    cond_both (is_lt (name_cmp p.0 q.0)) (p ∷ q ∷ qs) (q ∷ put_prop p qs) (λ ps. prop_value key ps ≡ cond (same_name key p.0) (Some p.1) (prop_value key (q ∷ qs)))
    (λ e. prop_value-cons key p (q ∷ qs))
    (λ e. prop_value-cons key q (put_prop p qs)
    ∙ (ap (cond (same_name key q.0) (Some q.1)) (value-put_prop key p qs m.1)
    ∙ (swap_conds (same_name key q.0) (same_name key p.0) (Some q.1) (Some p.1) (prop_value key qs) (λ s t. true≢false (sym (same_both key q.0 p.0 s t) ∙ m.0))
    ∙ ap (cond (same_name key p.0) (Some p.1)) (sym (prop_value-cons key q qs)))))

pub Distinct-put_prop : (p : List ℕ × Value) (qs : List (List ℕ × Value)) → has_key p.0 qs ≡ false → Distinct qs → Distinct (put_prop p qs)
Distinct-put_prop p [] h d = (refl, tt)
Distinct-put_prop p (q ∷ qs) h d =
    let m = or_parts (same_name p.0 q.0) (has_key p.0 qs) h in
    cond_both (is_lt (name_cmp p.0 q.0)) (p ∷ q ∷ qs) (q ∷ put_prop p qs) Distinct
    (λ t. (h, d))
    (λ f. (any-put_prop (λ (r : List ℕ × Value). same_name q.0 r.0) p qs ∙ or_from (same_name q.0 p.0) (has_key q.0 qs) (name_equiv.symm q.0 p.0 ∙ m.0) d.0, Distinct-put_prop p qs m.1 d.1))

-- ---- new properties over old ones
pub Distinct-overwrite : (old new : List (List ℕ × Value)) → Distinct new → Distinct (overwrite old new)
Distinct-overwrite [] new e = e
Distinct-overwrite (p ∷ old) new e =
    let k = Distinct-overwrite old new e in
    cond_both (has_key p.0 (overwrite old new)) (overwrite old new) (put_prop p (overwrite old new)) Distinct (λ t. k) (λ f. Distinct-put_prop p (overwrite old new) f k)

first_some-none : {X : Type 0} (o : Option X) → first_some o None ≡ o
first_some-none None = refl
first_some-none (Some x) = refl

first_some-some : {X : Type 0} (o q : Option X) → (o ≡ None → ⊥) → first_some o q ≡ o
first_some-some None q h = absurd (h refl)
first_some-some (Some x) q h = refl

overwrite_step : (key : List ℕ) (p : List ℕ × Value) (old new : List (List ℕ × Value)) → has_key p.0 old ≡ false → prop_value key (overwrite old new) ≡ first_some (prop_value key new) (prop_value key old)
    → (s t : Bool) → same_name key p.0 ≡ s → has_key p.0 (overwrite old new) ≡ t → prop_value key (overwrite (p ∷ old) new) ≡ first_some (prop_value key new) (cond s (Some p.1) (prop_value key old))
overwrite_step key p old new apart h true true e f =
    let gone : prop_value key old ≡ None = prop_value-none key old (has_key-same key p.0 old e ∙ apart) in
    let same : prop_value key (overwrite old new) ≡ prop_value key new = h ∙ (ap (first_some (prop_value key new)) gone ∙ first_some-none (prop_value key new)) in
    ap (λ b. prop_value key (cond b (overwrite old new) (put_prop p (overwrite old new)))) f
    ∙ (same ∙ sym (first_some-some (prop_value key new) (Some p.1) (λ k. prop_value-some key (overwrite old new) (has_key-same key p.0 (overwrite old new) e ∙ f) (same ∙ k))))
overwrite_step key p old new apart h true false e f =
    let gone : prop_value key old ≡ None = prop_value-none key old (has_key-same key p.0 old e ∙ apart) in
    let none : prop_value key new ≡ None = sym (first_some-none (prop_value key new)) ∙ (ap (first_some (prop_value key new)) (sym gone) ∙ (sym h ∙ prop_value-none key (overwrite old new) (has_key-same key p.0 (overwrite old new) e ∙ f))) in
    ap (λ b. prop_value key (cond b (overwrite old new) (put_prop p (overwrite old new)))) f
    ∙ (value-put_prop key p (overwrite old new) f ∙ (cond-true (same_name key p.0) _ _ e ∙ ap (λ o. first_some o (Some p.1)) (sym none)))
overwrite_step key p old new apart h false true e f = ap (λ b. prop_value key (cond b (overwrite old new) (put_prop p (overwrite old new)))) f ∙ h
overwrite_step key p old new apart h false false e f =
    ap (λ b. prop_value key (cond b (overwrite old new) (put_prop p (overwrite old new)))) f
    ∙ (value-put_prop key p (overwrite old new) f ∙ (cond-false (same_name key p.0) _ _ e ∙ h))

-- new values stand before old ones
pub value-overwrite : (key : List ℕ) (old new : List (List ℕ × Value)) → Distinct old → prop_value key (overwrite old new) ≡ first_some (prop_value key new) (prop_value key old)
value-overwrite key [] new d = sym (first_some-none (prop_value key new))
value-overwrite key (p ∷ old) new d =
    overwrite_step key p old new d.0 (value-overwrite key old new d.1) (same_name key p.0) (has_key p.0 (overwrite old new)) refl refl
    ∙ ap (first_some (prop_value key new)) (sym (prop_value-cons key p old))

-- ---- the properties of events, put over one another
last_or-first : {X : Type 0} (o q : Option X) (xs : List X) → last_or (first_some q o) xs ≡ last_or o (cons_option q xs)
last_or-first o None xs = refl
last_or-first o (Some x) xs = refl

pub value-fold : (key : List ℕ) (first : List (List ℕ × Value)) (xs : List Event) → Distinct first → AllByRecursion (λ x. Distinct (props_of x)) xs
    → prop_value key (fold (λ old x. overwrite old (props_of x)) first xs) ≡ last_or (prop_value key first) (filter_map (λ x. prop_value key (props_of x)) xs)
value-fold key first [] d h = refl
value-fold key first (x ∷ xs) d h =
    value-fold key (overwrite first (props_of x)) xs (Distinct-overwrite first (props_of x) h.0) h.1
    ∙ (ap (λ o. last_or o (filter_map (λ z. prop_value key (props_of z)) xs)) (value-overwrite key first (props_of x) d)
    ∙ last_or-first (prop_value key first) (prop_value key (props_of x)) (filter_map (λ z. prop_value key (props_of z)) xs))

-- for each key, the last properties have the last value that the events set
pub value-last_props : (key : List ℕ) (xs : List Event) → AllByRecursion (λ x. Distinct (props_of x)) xs → prop_value key (last_props xs) ≡ last_value key xs
value-last_props key xs h = value-fold key [] xs tt h

-- ---- carrying changes no value
pub last_or-append : {A : Type 0} (o : Option A) (xs ys : List A) → last_or o (xs ++ ys) ≡ last_or (last_or o xs) ys
last_or-append o [] ys = refl
last_or-append o (x ∷ xs) ys = last_or-append (Some x) xs ys

-- the one event that stands for events has their values
pub value-carried_events : (key : List ℕ) (lo : ℤ) (xs ys : List Event) → AllByRecursion (λ x. Distinct (props_of x)) xs → last_value key (carried_events lo xs ++ ys) ≡ last_value key (xs ++ ys)
value-carried_events key lo [] ys d = refl
value-carried_events key lo (x ∷ xs) ys d =
    let v : Event → Option Value = λ z. prop_value key (props_of z) in
    let whole : prop_value key (what_props (update_of (entity_of x) (last_props (x ∷ xs)))) ≡ last_or None (filter_map v (x ∷ xs)) = ap (prop_value key) (props-update_of (entity_of x) (last_props (x ∷ xs))) ∙ value-last_props key (x ∷ xs) d in
    ap (λ o. last_or None (cons_option o (filter_map v ys))) whole
    ∙ (sym (last_or-first None (last_or None (filter_map v (x ∷ xs))) (filter_map v ys))
    ∙ (ap (λ o. last_or o (filter_map v ys)) (first_some-none (last_or None (filter_map v (x ∷ xs))))
    ∙ (sym (last_or-append None (filter_map v (x ∷ xs)) (filter_map v ys))
    ∙ ap (last_or None) (sym (filter_map-append v (x ∷ xs) ys)))))

-- an entity has the same value where its early events are carried
pub value_of-carried_events : (key : List ℕ) (lo : ℤ) (xs ys : List Event) → AllByRecursion (λ x. Distinct (props_of x)) xs → value_of key (carried_events lo (live_events xs) ++ ys) ≡ value_of key (xs ++ ys)
value_of-carried_events key lo xs ys d =
    ap (last_value key) (live_events-append (carried_events lo (live_events xs)) ys ∙ ap (λ zs. cond (list_any is_deletion ys) (live_events ys) (zs ++ ys)) (live_events-carried_events lo (live_events xs)))
    ∙ ((elim (list_any is_deletion ys) as (λ t. last_value key (cond t (live_events ys) (carried_events lo (live_events xs) ++ ys)) ≡ last_value key (cond t (live_events ys) (live_events xs ++ ys))) [
      | true ↦ refl
      | false ↦ value-carried_events key lo (live_events xs) ys (each_live (λ x. Distinct (props_of x)) xs d)
    ])
    ∙ ap (last_value key) (sym (live_events-append xs ys)))
