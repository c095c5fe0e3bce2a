-- Properties that are borrowed, as pairs.
use Rattle.std.proofs.Common.{◌≡◌, ℕ, zero, suc, ◌+◌, ◌-◌, ◌<◌, ◌≤◌, Bool, true, false, not, ◌||◌, List, [], ◌∷◌, length, map, drop, get_or, Some, cond, refl, sym, ◌∙◌, ap, subst, arith}
use Rattle.std.specs.Prelude.{slice_get}
use Rattle.std.specs.List.{list_any, position_or_len, insert, AllByRecursion, All}
use Rattle.std.specs.declared.cmp.Ordering.TheVariants.{Less}
use Rattle.std.specs.Ordering.{is_lt}
use Rattle.std.proofs.Math.Numerals.{one-add}
use Rattle.std.proofs.lemmas.Bool.{cond-true}
use Rattle.std.proofs.lemmas.List.{drop_more}
use Rattle.std.proofs.lemmas.List.Elements.{recursion_from_All}
use Rattle.graph_model.specs.declared.properties.Value.{Value}
use Rattle.graph_model.specs.Names.{name_cmp, same_name}
use Rattle.graph_model.specs.Props.{has_key, put_prop, overwrite, KeysRise}
use Rattle.graph_model.proofs.PropItems.{KeysRise-put}
use Rattle.world_laws.proofs.Distinct.{any-put_prop}
use Rattle.world_laws.proofs.ListParts.{each_drop}
use Rattle.time_history.specs.KeyValues.{KeyNumbersRise as NumbersRise}
use Rattle.time_history.specs.Telling.{with_key_names}
use Rattle.view_lists.specs.declared.borrowed.Property.{Property}
use Rattle.view_lists.specs.Borrowed.{props_borrowed}
use Rattle.view_lists.proofs.LiveProps.{no_value, key_there, key_below, named_more, overwrite_more, other_name}

put_cases : (x y : Property) (ys : List Property) (n : ℕ) → put_prop (x.key.now, x.value.now) (props_borrowed ys) ≡ props_borrowed (insert ys n x) → (t : Bool)
    → cond t ((x.key.now, x.value.now) ∷ (y.key.now, y.value.now) ∷ props_borrowed ys) ((y.key.now, y.value.now) ∷ put_prop (x.key.now, x.value.now) (props_borrowed ys)) ≡ props_borrowed (insert (y ∷ ys) (cond (not t) (1 + n) 0) x)
put_cases x y ys n h true = refl
put_cases x y ys n h false = rw one-add (ap (λ ps. (y.key.now, y.value.now) ∷ ps) h)

-- a property, put at the first place whose key is greater
pub put_borrowed : (x : Property) (items : List Property) → put_prop (x.key.now, x.value.now) (props_borrowed items) ≡ props_borrowed (insert items (position_or_len (λ p. is_lt (name_cmp x.key.now p.key.now)) items) x)
put_borrowed x [] = refl
put_borrowed x (y ∷ ys) = put_cases x y ys (position_or_len (λ p. is_lt (name_cmp x.key.now p.key.now)) ys) (put_borrowed x ys) (is_lt (name_cmp x.key.now y.key.now))

-- whether some have a key
pub has_key-borrowed : (key : List ℕ) (items : List Property) → has_key key (props_borrowed items) ≡ list_any (λ p. same_name key p.key.now) items
has_key-borrowed key [] = refl
has_key-borrowed key (x ∷ xs) = ap (λ t. same_name key x.key.now || t) (has_key-borrowed key xs)

-- ---- the names of rising numbers

-- the name of a number is not among those of greater ones
greater_lack : (names : ℕ → List ℕ) (n key : ℕ) → ((i j : ℕ) → i < n → j < n → names i ≡ names j → i ≡ j) → key < n → (vs : List (ℕ × Value)) → AllByRecursion (λ (p : ℕ × Value). p.0 < n) vs
    → AllByRecursion (λ (p : ℕ × Value). key < p.0) vs → has_key (names key) (with_key_names names vs) ≡ false
greater_lack names n key apart lt [] h k = refl
greater_lack names n key apart lt (p ∷ vs) h k =
    let differ : names key ≡ names p.0 → ⊥ = λ e. let same = apart key p.0 lt h.0 e in let less = k.0 in absurd (omega (arith, same, less)) in
    any-put_prop (λ (q : List ℕ × Value). same_name (names key) q.0) (names p.0, p.1) (with_key_names names vs)
    ∙ ((λ i. other_name (names key) (names p.0) differ i || has_key (names key) (with_key_names names vs)) ∙ greater_lack names n key apart lt vs h.1 k.1)

named_rises : (names : ℕ → List ℕ) (n : ℕ) → ((i j : ℕ) → i < n → j < n → names i ≡ names j → i ≡ j) → (vs : List (ℕ × Value)) → AllByRecursion (λ (p : ℕ × Value). p.0 < n) vs → NumbersRise vs → KeysRise (with_key_names names vs)
named_rises names n apart [] h k = tt
named_rises names n apart (p ∷ vs) h k = KeysRise-put (names p.0, p.1) (with_key_names names vs) (greater_lack names n p.0 apart h.0 vs h.1 k.0) (named_rises names n apart vs h.1 k.1)

pub named_rise : (names : ℕ → List ℕ) (n : ℕ) → ((i j : ℕ) → i < n → j < n → names i ≡ names j → i ≡ j) → (vs : List (ℕ × Value)) → All (λ (p : ℕ × Value). p.0 < n) vs → NumbersRise vs → KeysRise (with_key_names names vs)
named_rise names n apart vs h k = named_rises names n apart vs (recursion_from_All (λ (p : ℕ × Value). p.0 < n) vs h) k

-- ---- the values of an update whose keys have none, from the last to the first

numbers_from : (vs : List (ℕ × Value)) (j : ℕ) → NumbersRise vs → NumbersRise (drop j vs)
numbers_from vs zero h = h
numbers_from [] (suc j) h = tt
numbers_from (v ∷ vs) (suc j) h = numbers_from vs j h.1

pub earlier_more : (names : ℕ → List ℕ) (n : ℕ) → ((i j : ℕ) → i < n → j < n → names i ≡ names j → i ≡ j) → (vs : List (ℕ × Value)) (j : ℕ) (before old new : List (List ℕ × Value)) (key : ℕ) (v : Value) (name : List ℕ)
    → All (λ (p : ℕ × Value). p.0 < n) vs → NumbersRise vs → KeysRise before → 0 < j → j ≤ length vs → slice_get (map (λ (p : ℕ × Value). p.0) vs) (j - 1) ≡ Some key → slice_get (map (λ (p : ℕ × Value). p.1) vs) (j - 1) ≡ Some v
    → name ≡ names key → old ≡ overwrite (with_key_names names (drop j vs)) before → new ≡ overwrite ((name, v) ∷ []) old → new ≡ overwrite (with_key_names names (drop (j - 1) vs)) before
earlier_more names n apart vs j before old new key v name below rise up some le at_key at_value is was put =
    let lt : j - 1 < length vs = omega arith in
    let next : j - 1 + 1 ≡ j = omega arith in
    let rest = drop j vs in
    let whole : drop (j - 1) vs ≡ get_or vs (j - 1) no_value ∷ rest = drop_more vs (j - 1) no_value lt ∙ ap (λ k. get_or vs (j - 1) no_value ∷ drop k vs) next in
    let under : AllByRecursion (λ (p : ℕ × Value). p.0 < n) rest = each_drop (λ (p : ℕ × Value). p.0 < n) j vs (recursion_from_All (λ (p : ℕ × Value). p.0 < n) vs below) in
    let all : NumbersRise (get_or vs (j - 1) no_value ∷ rest) = subst NumbersRise whole (numbers_from vs (j - 1) rise) in
    let above : AllByRecursion (λ (p : ℕ × Value). key < p.0) rest = subst (λ m. AllByRecursion (λ (p : ℕ × Value). m < p.0) rest) (key_there vs (j - 1) key lt at_key) all.0 in
    let free : has_key name (with_key_names names rest) ≡ false = ap (λ z. has_key z (with_key_names names rest)) is ∙ greater_lack names n key apart (key_below vs (j - 1) key n below lt at_key) rest under above in
    put
    ∙ (ap (overwrite ((name, v) ∷ [])) was
    ∙ (overwrite_more (name, v) (with_key_names names rest) before free (named_rises names n apart rest under all.1) up
    ∙ ap (λ ps. overwrite ps before) (named_more names vs j (with_key_names names rest) (put_prop (name, v) (with_key_names names rest)) key v name some le at_key at_value is refl refl)))

-- ---- properties that rise, put from the last to the first

put_first : (p : List ℕ × Value) (ps : List (List ℕ × Value)) → AllByRecursion (λ (q : List ℕ × Value). name_cmp p.0 q.0 ≡ Less) ps → put_prop p ps ≡ p ∷ ps
put_first p [] h = refl
put_first p (q ∷ qs) h = cond-true (is_lt (name_cmp p.0 q.0)) (p ∷ q ∷ qs) (q ∷ put_prop p qs) (ap is_lt h.0)

drop_rises : (ps : List (List ℕ × Value)) (j : ℕ) → KeysRise ps → KeysRise (drop j ps)
drop_rises ps zero h = h
drop_rises [] (suc j) h = tt
drop_rises (p ∷ ps) (suc j) h = drop_rises ps j h.1

pub copied_more : (ps : List (List ℕ × Value)) (j : ℕ) (p : List ℕ × Value) (old new : List (List ℕ × Value)) → KeysRise ps → 0 < j → j ≤ length ps → p ≡ get_or ps (j - 1) p
    → old ≡ drop j ps → new ≡ put_prop p old → new ≡ drop (j - 1) ps
copied_more ps j p old new rise some le is before put =
    let lt : j - 1 < length ps = omega arith in
    let next : j - 1 + 1 ≡ j = omega arith in
    let whole : drop (j - 1) ps ≡ p ∷ drop j ps = drop_more ps (j - 1) p lt ∙ (λ i. sym is i ∷ drop (next i) ps) in
    let up : KeysRise (p ∷ drop j ps) = subst KeysRise whole (drop_rises ps (j - 1) rise) in
    put ∙ (ap (put_prop p) before ∙ (put_first p (drop j ps) up.0 ∙ sym whole))
