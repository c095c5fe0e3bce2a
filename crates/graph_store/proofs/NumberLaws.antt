-- Values in the order of the numbers of their keys, and by the names of these.
use Rattle.std.proofs.Common.{◌≡◌, ℕ, ◌+◌, ◌<◌, ◌≤◌, List, [], ◌∷◌, ◌++◌, Bool, true, false, cond, not, refl, sym, ap, ◌∙◌, arith, one-add}
use Rattle.std.specs.Prelude.{nat_lt}
use Rattle.std.specs.List.{insert, position_or_len, AllByRecursion}
use Rattle.std.specs.Ordering.{is_lt, is_eq, ordering_reverse}
use Rattle.std.specs.declared.cmp.Ordering.{Ordering}
use Rattle.std.specs.declared.cmp.Ordering.TheVariants.{Less, Equal, Greater}
use Rattle.std.proofs.lemmas.Bool.{or_parts, true≢false, ltb-true, ltb-false, not-true}
use Rattle.graph_model.proofs.PropItems.{is_lt-Less}
use Rattle.graph_model.specs.declared.properties.Value.{Value}
use Rattle.graph_model.specs.Names.{name_cmp, same_name, name_total}
use Rattle.graph_model.specs.Props.{put_prop, has_key}
use Rattle.world_laws.proofs.Distinct.{any-put_prop}
use Rattle.world_laws.proofs.Filters.{each_weaker}
use Rattle.time_history.specs.KeyValues.{KeyNumbersRise}
use Rattle.time_history.specs.Telling.{with_key_names}
use Rattle.world_laws.proofs.Order.{same_name-exact, same_name-refl}
use Rattle.graph_store.specs.declared.numbered.Numbered.{Numbered}
use Rattle.graph_store.specs.Numbered.{pairs_in, put_number}

put_item_cases : (x y : Numbered) (ys : List Numbered) (n : ℕ) → put_number (x.key, x.value) (pairs_in ys) ≡ pairs_in (insert ys n x) → (t : Bool)
    → cond t ((x.key, x.value) ∷ (y.key, y.value) ∷ pairs_in ys) ((y.key, y.value) ∷ put_number (x.key, x.value) (pairs_in ys)) ≡ pairs_in (insert (y ∷ ys) (cond (not t) (1 + n) 0) x)
put_item_cases x y ys n h true = refl
put_item_cases x y ys n h false = rw one-add (ap (λ ps. (y.key, y.value) ∷ ps) h)

-- an item, put at the first place whose key is greater
pub put_item : (x : Numbered) (items : List Numbered) → put_number (x.key, x.value) (pairs_in items) ≡ pairs_in (insert items (position_or_len (λ p. nat_lt x.key p.key) items) x)
put_item x [] = refl
put_item x (y ∷ ys) = put_item_cases x y ys (position_or_len (λ p. nat_lt x.key p.key) ys) (put_item x ys) (nat_lt x.key y.key)

-- of two keys that differ one is less
turned : (a b : List ℕ) → same_name a b ≡ false → is_lt (name_cmp b a) ≡ not (is_lt (name_cmp a b))
turned a b apart = ap is_lt (name_total.antisymm b a) ∙ flip (name_cmp a b) apart
  where
    flip : (o : Ordering) → is_eq o ≡ false → is_lt (ordering_reverse o) ≡ not (is_lt o)
    flip Less h = refl
    flip Equal h = cc
    flip Greater h = refl

-- x before z and y not before z: x before y
between : (x y z : List ℕ) → is_lt (name_cmp x z) ≡ true → is_lt (name_cmp y z) ≡ false → is_lt (name_cmp x y) ≡ true
between x y z a b = go (same_name y z) refl
  where
    go : (t : Bool) → same_name y z ≡ t → is_lt (name_cmp x y) ≡ true
    go true e = ap (λ w. is_lt (name_cmp x w)) (same_name-exact y z e) ∙ a
    go false e =
        let zy : is_lt (name_cmp z y) ≡ true = turned y z e ∙ ap not b in
        ap is_lt (name_total.trans x z y (is_lt-Less (name_cmp x z) a) (is_lt-Less (name_cmp z y) zy))

module _ (x y : List ℕ × Value) (apart : same_name x.0 y.0 ≡ false) where
  swap_first : (zs : List (List ℕ × Value)) (d : Bool) → cond d (x ∷ y ∷ zs) (y ∷ x ∷ zs) ≡ cond (not d) (y ∷ x ∷ zs) (x ∷ y ∷ zs)
  swap_first zs true = refl
  swap_first zs false = refl

  swap_cases : (z : List ℕ × Value) (zs : List (List ℕ × Value)) → put_prop x (put_prop y zs) ≡ put_prop y (put_prop x zs)
      → (is_lt (name_cmp x.0 z.0) ≡ true → is_lt (name_cmp y.0 z.0) ≡ false → is_lt (name_cmp x.0 y.0) ≡ true)
      → (is_lt (name_cmp y.0 z.0) ≡ true → is_lt (name_cmp x.0 z.0) ≡ false → is_lt (name_cmp x.0 y.0) ≡ false)
      → (a b : Bool) → is_lt (name_cmp x.0 z.0) ≡ a → is_lt (name_cmp y.0 z.0) ≡ b
      → put_prop x (cond b (y ∷ z ∷ zs) (z ∷ put_prop y zs)) ≡ put_prop y (cond a (x ∷ z ∷ zs) (z ∷ put_prop x zs))
  swap_cases z zs h xy yx true true e f = let t = turned x.0 y.0 apart in simp (e, f, t) (swap_first (z ∷ zs) (is_lt (name_cmp x.0 y.0)))
  swap_cases z zs h xy yx true false e f = let t = turned x.0 y.0 apart ∙ ap not (xy e f) in simp (e, f, t)
  swap_cases z zs h xy yx false true e f = let t = yx f e in simp (e, f, t)
  swap_cases z zs h xy yx false false e f = simp (e, f, h)

-- properties that differ in their keys may be put in either order
pub put_prop-comm : (x y : List ℕ × Value) → same_name x.0 y.0 ≡ false → (zs : List (List ℕ × Value)) → put_prop x (put_prop y zs) ≡ put_prop y (put_prop x zs)
put_prop-comm x y apart [] = let t = turned x.0 y.0 apart in simp t (swap_first x y apart [] (is_lt (name_cmp x.0 y.0)))
put_prop-comm x y apart (z ∷ zs) =
    swap_cases x y apart z zs (put_prop-comm x y apart zs)
    (λ a b. between x.0 y.0 z.0 a b)
    (λ b a. let l = between y.0 x.0 z.0 b a in let t = turned x.0 y.0 apart in not-true (is_lt (name_cmp x.0 y.0)) (sym t ∙ l))
    (is_lt (name_cmp x.0 z.0)) (is_lt (name_cmp y.0 z.0)) refl refl

-- a property whose key is greater than all there goes last
pub put_prop-last : (p : List ℕ × Value) (qs : List (List ℕ × Value)) → AllByRecursion (λ (q : List ℕ × Value). name_cmp q.0 p.0 ≡ Less) qs → put_prop p qs ≡ qs ++ p ∷ []
put_prop-last p [] h = refl
put_prop-last p (q ∷ qs) h =
    let not_less : is_lt (name_cmp p.0 q.0) ≡ false = ap is_lt (name_total.antisymm p.0 q.0 ∙ ap ordering_reverse h.0) in
    rw not_less (ap (λ xs. q ∷ xs) (put_prop-last p qs h.1))

module _ (names : ℕ → List ℕ) (p : ℕ × Value) where
  -- its name is not among those of the values
  parts : (v : ℕ × Value) (vs : List (ℕ × Value)) → has_key (names p.0) (with_key_names names (v ∷ vs)) ≡ false → (same_name (names p.0) (names v.0) ≡ false) × (has_key (names p.0) (with_key_names names vs) ≡ false)
  parts v vs h = or_parts (same_name (names p.0) (names v.0)) (has_key (names p.0) (with_key_names names vs)) (sym (any-put_prop (λ (q : List ℕ × Value). same_name (names p.0) q.0) (names v.0, v.1) (with_key_names names vs)) ∙ h)

  put_cases : (v : ℕ × Value) (vs : List (ℕ × Value)) (t : Bool) → with_key_names names (put_number p vs) ≡ put_prop (names p.0, p.1) (with_key_names names vs)
      → put_prop (names v.0, v.1) (put_prop (names p.0, p.1) (with_key_names names vs)) ≡ put_prop (names p.0, p.1) (put_prop (names v.0, v.1) (with_key_names names vs))
      → with_key_names names (cond t (p ∷ v ∷ vs) (v ∷ put_number p vs)) ≡ put_prop (names p.0, p.1) (put_prop (names v.0, v.1) (with_key_names names vs))
  put_cases v vs true h c = refl
  put_cases v vs false h c = ap (put_prop (names v.0, v.1)) h ∙ c

  -- a value that is put by its number is put by its name
  pub with_key_names-put : (vs : List (ℕ × Value)) → has_key (names p.0) (with_key_names names vs) ≡ false → with_key_names names (put_number p vs) ≡ put_prop (names p.0, p.1) (with_key_names names vs)
  with_key_names-put [] h = refl
  with_key_names-put (v ∷ vs) h =
      let k = parts v vs h in
      put_cases v vs (nat_lt p.0 v.0) (with_key_names-put vs k.1) (sym (put_prop-comm (names p.0, p.1) (names v.0, v.1) k.0 (with_key_names names vs)))

  each_cases : (P : ℕ × Value → Type 0) (v : ℕ × Value) (vs : List (ℕ × Value)) (t : Bool) → P p → P v → AllByRecursion P vs → AllByRecursion P (put_number p vs) → AllByRecursion P (cond t (p ∷ v ∷ vs) (v ∷ put_number p vs))
  each_cases P v vs true a b c d = (a, (b, c))
  each_cases P v vs false a b c d = (b, d)

  pub each_put : (P : ℕ × Value → Type 0) (vs : List (ℕ × Value)) → P p → AllByRecursion P vs → AllByRecursion P (put_number p vs)
  each_put P [] a h = (a, tt)
  each_put P (v ∷ vs) a h = each_cases P v vs (nat_lt p.0 v.0) a h.0 h.1 (each_put P vs a h.1)

  rise_cases : (v : ℕ × Value) (vs : List (ℕ × Value)) (t : Bool) → nat_lt p.0 v.0 ≡ t → (p.0 ≡ v.0 → ⊥) → KeyNumbersRise (v ∷ vs) → KeyNumbersRise (put_number p vs) → KeyNumbersRise (cond t (p ∷ v ∷ vs) (v ∷ put_number p vs))
  rise_cases v vs true e apart r h =
      let less : p.0 < v.0 = ltb-true p.0 v.0 e in
      ((less, each_weaker (λ (q : ℕ × Value). v.0 < q.0) (λ (q : ℕ × Value). p.0 < q.0) (λ q k. omega (arith, k)) vs r.0), r)
  rise_cases v vs false e apart r h =
      let high : v.0 ≤ p.0 = ltb-false p.0 v.0 e in
      let more : v.0 < p.0 = omega (arith, apart) in
      (each_put (λ (q : ℕ × Value). v.0 < q.0) vs more r.0, h)

  pub rise_put : (vs : List (ℕ × Value)) → has_key (names p.0) (with_key_names names vs) ≡ false → KeyNumbersRise vs → KeyNumbersRise (put_number p vs)
  rise_put [] h r = (tt, tt)
  rise_put (v ∷ vs) h r =
      let k = parts v vs h in
      rise_cases v vs (nat_lt p.0 v.0) refl (λ e. true≢false (sym (same_name-refl (names p.0)) ∙ (ap (λ n. same_name (names p.0) (names n)) e ∙ k.0))) r (rise_put vs k.1 r.1)

-- what comes before a pair of a rising list has lesser keys
pub before_rises : (vs : List (ℕ × Value)) (p : ℕ × Value) (rest : List (ℕ × Value)) → KeyNumbersRise (vs ++ p ∷ rest) → AllByRecursion (λ (v : ℕ × Value). v.0 < p.0) vs
before_rises [] p rest r = tt
before_rises (v ∷ vs) p rest r = (each_seam vs r.0, before_rises vs p rest r.1)
  where
    each_seam : (xs : List (ℕ × Value)) → AllByRecursion (λ (q : ℕ × Value). v.0 < q.0) (xs ++ p ∷ rest) → v.0 < p.0
    each_seam [] h = h.0
    each_seam (x ∷ xs) h = each_seam xs h.1
