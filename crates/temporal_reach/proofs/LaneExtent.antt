-- The extent of the rows that a question selects is that of the world of its window and layers.
use Rattle.std.proofs.Common.{◌≡◌, ◌≤◌, ◌++◌, ℕ, zero, suc, ℤ, Bool, true, false, not, ◌&&◌, ◌||◌, Option, None, Some, List, [], ◌∷◌, length, map, refl, sym, ◌∙◌, ap, subst, arith, inl, inr}
use Rattle.std.specs.Prelude.{int_le, IsPermutation}
use Rattle.std.specs.Int.{int_max, int_min}
use Rattle.std.specs.List.{AllByRecursion, filter, list_any}
use Rattle.std.specs.Option.{option_map_or}
use Rattle.std.proofs.lemmas.Bool.{cases_Bool, cond-true, cond-false, true≢false}
use Rattle.std.proofs.lemmas.Int.{ints, clamps}
use Rattle.std.proofs.lemmas.List.{map-append}
use Rattle.std.proofs.lemmas.List.Elements.{recursion_from_All}
use Rattle.std.proofs.lemmas.List.Sorted.{IsPermutation-append, IsPermutation-filter_both, IsPermutation-map, IsPermutation-refl, IsPermutation-sym, IsPermutation-trans, length_permutation, list_any-IsPermutation}
use Rattle.std.proofs.Math.Bool.{or-false}
use Rattle.graph_model.specs.declared.events.Entity.{Entity}
use Rattle.graph_model.specs.declared.events.Event.{Event}
use Rattle.graph_model.specs.declared.events.Model.TheVariants.{Event as Instants}
use Rattle.graph_model.specs.Entity.{entity_of, same_entity}
use Rattle.graph_model.specs.Keep.{in_layers}
use Rattle.graph_model.specs.Window.{window}
use Rattle.world_laws.proofs.Counts.{length_filter_le}
use Rattle.world_laws.proofs.Filters.{each_kept, each_weaker, filter_again, filter_both, filter_none}
use Rattle.world_laws.proofs.Listed.{each_any}
use Rattle.world_laws.proofs.Order.{same_entity-exact, same_entity-refl}
use Rattle.world_laws.proofs.Times.{le_from_test, gt_from_test, le_test, not_le_test}
use Rattle.graph_store.specs.Contents.{Contents, base_of}
use Rattle.view_trait.specs.Extent.{earlier_of, extent_of, later_of}
use Rattle.view_trait.specs.Meaning.{IsShown, knows}
use Rattle.view_trait.specs.Numbered.{has_bit, layer_world, layers_numbered}
use Rattle.view_trait.proofs.Extents.{IsExtent, IsExtent-append, IsExtent-rising, extent_arranged}
use Rattle.view_trait.proofs.Shown.{IsShown-keep, IsShown-window}
use Rattle.lane_scan.specs.declared.hits.Hit.{Hit}
use Rattle.lane_scan.specs.Rows.{extent_of_rows, extent_of_times, greatest_time, is_selected, least_time, selected}
use Rattle.temporal_reach.specs.Mirrors.{IsRowOf, Mirrors}
use Rattle.temporal_reach.proofs.Mirrored.{time_of}
use Rattle.temporal_reach.proofs.LaneTimes.{IsOf, of_known, row_entity, row_known, same_times}

-- ---- times in any order have one extent

-- whether a least time is not later than a moment, and a greatest one not earlier
abbrev reaches_down : Option ℤ → ℤ → Bool
reaches_down o t = option_map_or (λ s. int_le s t) o false

abbrev reaches_up : Option ℤ → ℤ → Bool
reaches_up o t = option_map_or (λ s. int_le t s) o false

min_le : (s m t : ℤ) → (int_le s t || int_le m t) ≡ int_le (int_min s m) t
min_le s m t = elim (cases_Bool (int_le (int_min s m) t)) [
  | inl e ↦ let le = le_from_test (int_min s m) t e in elim (cases_Bool (int_le s t)) [
    | inl a ↦ ap (λ b. b || int_le m t) a ∙ sym e
    | inr a ↦ let gt = gt_from_test s t a in ap (λ b. b || int_le m t) a ∙ (le_test m t (omega (arith, ints, clamps, le, gt)) ∙ sym e)
  ]
  | inr e ↦ let gt = gt_from_test (int_min s m) t e in
      ap (λ b. b || int_le m t) (not_le_test s t (omega (arith, ints, clamps, gt))) ∙ (not_le_test m t (omega (arith, ints, clamps, gt)) ∙ sym e)
]

le_max : (s m t : ℤ) → (int_le t s || int_le t m) ≡ int_le t (int_max s m)
le_max s m t = elim (cases_Bool (int_le t (int_max s m))) [
  | inl e ↦ let le = le_from_test t (int_max s m) e in elim (cases_Bool (int_le t s)) [
    | inl a ↦ ap (λ b. b || int_le t m) a ∙ sym e
    | inr a ↦ let gt = gt_from_test t s a in ap (λ b. b || int_le t m) a ∙ (le_test t m (omega (arith, ints, clamps, le, gt)) ∙ sym e)
  ]
  | inr e ↦ let gt = gt_from_test t (int_max s m) e in
      ap (λ b. b || int_le t m) (not_le_test t s (omega (arith, ints, clamps, gt))) ∙ (not_le_test t m (omega (arith, ints, clamps, gt)) ∙ sym e)
]

down_more : (s t : ℤ) (o : Option ℤ) → (int_le s t || reaches_down o t) ≡ reaches_down (earlier_of (Some s) o) t
down_more s t None = or-false (int_le s t)
down_more s t (Some m) = min_le s m t

up_more : (s t : ℤ) (o : Option ℤ) → (int_le t s || reaches_up o t) ≡ reaches_up (later_of (Some s) o) t
up_more s t None = or-false (int_le t s)
up_more s t (Some m) = le_max s m t

down_is : (ts : List ℤ) (t : ℤ) → list_any (λ s. int_le s t) ts ≡ reaches_down (least_time ts) t
down_is [] t = refl
down_is (s ∷ ts) t = ap (λ b. int_le s t || b) (down_is ts t) ∙ down_more s t (least_time ts)

up_is : (ts : List ℤ) (t : ℤ) → list_any (λ s. int_le t s) ts ≡ reaches_up (greatest_time ts) t
up_is [] t = refl
up_is (s ∷ ts) t = ap (λ b. int_le t s || b) (up_is ts t) ∙ up_more s t (greatest_time ts)

own_le : (t : ℤ) → int_le t t ≡ true
own_le t = le_test t t (omega (arith, ints))

down_fixes : (a b : Option ℤ) → ((t : ℤ) → reaches_down a t ≡ reaches_down b t) → a ≡ b
down_fixes None None h = refl
down_fixes None (Some t) h = absurd (true≢false (sym (own_le t) ∙ sym (h t)))
down_fixes (Some s) None h = absurd (true≢false (sym (own_le s) ∙ h s))
down_fixes (Some s) (Some t) h = ap Some (
    let le = le_from_test t s (sym (h s) ∙ own_le s) in
    let ge = le_from_test s t (h t ∙ own_le t) in
    omega (arith, ints, le, ge))

up_fixes : (a b : Option ℤ) → ((t : ℤ) → reaches_up a t ≡ reaches_up b t) → a ≡ b
up_fixes None None h = refl
up_fixes None (Some t) h = absurd (true≢false (sym (own_le t) ∙ sym (h t)))
up_fixes (Some s) None h = absurd (true≢false (sym (own_le s) ∙ h s))
up_fixes (Some s) (Some t) h = ap Some (
    let le = le_from_test s t (sym (h s) ∙ own_le s) in
    let ge = le_from_test t s (h t ∙ own_le t) in
    omega (arith, ints, le, ge))

extent_permuted : (ts us : List ℤ) → IsPermutation ts us → extent_of_times ts ≡ extent_of_times us
extent_permuted ts us moved =
    let events : length ts ≡ length us = sym (length_permutation ts us moved) in
    let first : least_time ts ≡ least_time us = down_fixes (least_time ts) (least_time us) (λ t. sym (down_is ts t) ∙ (list_any-IsPermutation (λ s. int_le s t) ts us moved ∙ down_is us t)) in
    let last : greatest_time ts ≡ greatest_time us = up_fixes (greatest_time ts) (greatest_time us) (λ t. sym (up_is ts t) ∙ (list_any-IsPermutation (λ s. int_le t s) ts us moved ∙ up_is us t)) in
    λ k. record { events = events k; first = first k; last = last k }

-- ---- the extent of events is that of their times

extent_by_times : (xs : List Event) → IsExtent xs (extent_of_times (map time_of xs))
extent_by_times [] = IsExtent-rising [] tt
extent_by_times (x ∷ xs) =
    IsExtent-append (x ∷ []) xs (extent_of (x ∷ [])) (extent_of_times (map time_of xs)) (extent_of_times (map time_of (x ∷ xs)))
    (IsExtent-rising (x ∷ []) (tt, tt)) (extent_by_times xs) (omega arith) refl refl

-- ---- two lists that have the same times for each entity

-- what is of one entity is not of another
module _ {Z : Type 0} (of : Z → Entity) (e k : Entity) where
  not_and : (t : Bool) → (not t && t) ≡ false
  not_and true = refl
  not_and false = refl

  gone : same_entity e k ≡ true → (zs : List Z) → filter (λ z. same_entity k (of z)) (filter (λ z. not (same_entity e (of z))) zs) ≡ []
  gone same zs =
      filter_both (λ z. not (same_entity e (of z))) (λ z. same_entity k (of z)) zs
      ∙ filter_none (λ z. not (same_entity e (of z)) && same_entity k (of z)) zs
      (each_any (λ z. (not (same_entity e (of z)) && same_entity k (of z)) ≡ false) (λ z. subst (λ j. (not (same_entity e (of z)) && same_entity j (of z)) ≡ false) (same_entity-exact e k same) (not_and (same_entity e (of z)))) zs)

  other : same_entity e k ≡ false → (w : Entity) → same_entity k w ≡ true → not (same_entity e w) ≡ true
  other apart w own = elim (cases_Bool (same_entity e w)) [
    | inl t ↦ absurd (true≢false (sym (subst (λ j. same_entity e j ≡ true) (sym (same_entity-exact k w own)) t) ∙ apart))
    | inr t ↦ ap not t
  ]

  still : same_entity e k ≡ false → (zs : List Z) → filter (λ z. same_entity k (of z)) (filter (λ z. not (same_entity e (of z))) zs) ≡ filter (λ z. same_entity k (of z)) zs
  still apart zs = filter_again (λ z. not (same_entity e (of z))) (λ z. same_entity k (of z)) (λ z own. other apart (of z) own) zs

module _ {X Y : Type 0} (ex : X → Entity) (ey : Y → Entity) (tx : X → ℤ) (ty : Y → ℤ) (P : Entity → Type 0) where
  abbrev SameTimes : List X → List Y → Type 0
  SameTimes xs ys = (e : Entity) → P e → IsPermutation (map tx (filter (λ x. same_entity e (ex x)) xs)) (map ty (filter (λ y. same_entity e (ey y)) ys))

  -- also without what is of one entity
  same_still : (e : Entity) (xs : List X) (ys : List Y) → SameTimes xs ys → SameTimes (filter (λ x. not (same_entity e (ex x))) xs) (filter (λ y. not (same_entity e (ey y))) ys)
  same_still e xs ys h k p = elim (cases_Bool (same_entity e k)) [
    | inl same ↦
        subst (λ zs. IsPermutation (map tx zs) (map ty (filter (λ y. same_entity k (ey y)) (filter (λ y. not (same_entity e (ey y))) ys)))) (sym (gone ex e k same xs))
        (subst (λ zs. IsPermutation [] (map ty zs)) (sym (gone ey e k same ys)) (IsPermutation-refl []))
    | inr apart ↦
        subst (λ zs. IsPermutation (map tx zs) (map ty (filter (λ y. same_entity k (ey y)) (filter (λ y. not (same_entity e (ey y))) ys)))) (sym (still ex e k apart xs))
        (subst (λ zs. IsPermutation (map tx (filter (λ x. same_entity k (ex x)) xs)) (map ty zs)) (sym (still ey e k apart ys)) (h k p))
  ]

  -- then they have the same times
  grouped : (n : ℕ) (xs : List X) (ys : List Y) → length xs ≤ n → AllByRecursion (λ x. P (ex x)) xs → AllByRecursion (λ y. P (ey y)) ys → SameTimes xs ys → IsPermutation (map tx xs) (map ty ys)
  grouped n [] [] few hx hy h = IsPermutation-refl []
  grouped n [] (y ∷ ys) few hx hy h =
      absurd (
      let own = filter (λ z. same_entity (ey y) (ey z)) ys in
      let none = length_permutation [] (map ty (filter (λ z. same_entity (ey y) (ey z)) (y ∷ ys))) (h (ey y) hy.0) in
      let some = ap (λ zs. length (map ty zs)) (cond-true (same_entity (ey y) (ey y)) (y ∷ own) own (same_entity-refl (ey y))) in
      omega (arith, none, some))
  grouped zero (x ∷ xs) ys few hx hy h = absurd (omega arith)
  grouped (suc n) (x ∷ xs) ys few hx hy h =
      let p : X → Bool = λ z. same_entity (ex x) (ex z) in
      let q : Y → Bool = λ z. same_entity (ex x) (ey z) in
      let others : X → Bool = λ z. not (p z) in
      let others' : Y → Bool = λ z. not (q z) in
      let all = x ∷ xs in
      let a = filter p all in
      let b = filter others all in
      let c = filter q ys in
      let d = filter others' ys in
      let fewer = ap length (cond-false (others x) (x ∷ filter others xs) (filter others xs) (ap not (same_entity-refl (ex x)))) in
      let least = length_filter_le others xs in
      let rest : IsPermutation (map tx b) (map ty d) = grouped n b d (omega (arith, fewer, least, few)) (each_kept (λ z. P (ex z)) others all hx) (each_kept (λ z. P (ey z)) others' ys hy) (same_still (ex x) all ys h) in
      let parts = IsPermutation-map tx all (a ++ b) (IsPermutation-filter_both p others (λ z. refl) all) in
      let parts' = IsPermutation-map ty ys (c ++ d) (IsPermutation-filter_both q others' (λ z. refl) ys) in
      IsPermutation-trans (map tx all) (map tx (a ++ b)) (map ty ys) parts
      (subst (λ ts. IsPermutation ts (map ty ys)) (sym (map-append tx a b))
      (IsPermutation-trans (map tx a ++ map tx b) (map ty c ++ map ty d) (map ty ys)
      (IsPermutation-append (map tx a) (map ty c) (map tx b) (map ty d) (h (ex x) hx.0) rest)
      (subst (λ us. IsPermutation us (map ty ys)) (map-append ty c d) (IsPermutation-sym (map ty ys) (map ty (c ++ d)) parts'))))

-- ---- what callers cite

-- how many rows a question selects, and the least and the greatest of their times, are those of the events of the world of its window and layers
pub lane_extent : (c : Contents) (rows : List Hit) (lo hi : ℤ) (mask : ℕ) → c.model ≡ Instants → IsShown c (base_of c) → Mirrors rows c → has_bit mask 64 ≡ true
    → extent_of_rows (selected lo hi mask rows) ≡ extent_of (layer_world c mask (window (base_of c) lo hi)).events
lane_extent c rows lo hi mask model shown m nodes =
    let w = layer_world c mask (window (base_of c) lo hi) in
    let some = selected lo hi mask rows in
    let there : IsShown c w = IsShown-keep (in_layers (layers_numbered c mask)) c (window (base_of c) lo hi) (IsShown-window c (base_of c) lo hi shown) in
    let moved : IsPermutation (map (λ (row : Hit). row.time) some) (map time_of w.events) =
    grouped (row_entity c) entity_of (λ (row : Hit). row.time) time_of (IsOf c) (length some) some w.events (omega arith)
    (each_weaker (IsRowOf c) (λ row. IsOf c (row_entity c row)) (λ row h. row_known c shown row h) some (each_kept (IsRowOf c) (is_selected lo hi mask) rows (recursion_from_All (IsRowOf c) rows m.rows)))
    (each_weaker (λ (x : Event). knows c (entity_of x) ≡ true) (λ (x : Event). IsOf c (entity_of x)) (λ x h. of_known c (entity_of x) h) w.events there.known)
    (λ x k. same_times c shown lo hi mask model nodes rows m x k) in
    extent_permuted (map (λ (row : Hit). row.time) some) (map time_of w.events) moved
    ∙ extent_arranged w.events w.events (extent_of_times (map time_of w.events)) (extent_by_times w.events) there.lawful.arranged there.lawful.arranged
