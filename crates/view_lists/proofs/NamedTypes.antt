-- The types of the nodes that a world names, and the flags of the named nodes.
use Rattle.std.proofs.Common.{◌≡◌, ℕ, zero, suc, ◌+◌, ◌<◌, Bool, true, false, ◌&&◌, ◌||◌, List, [], ◌∷◌, ◌++◌, cond, ◌-◌, ℤ, length, map, take, drop, get_or, set, replicate, eqb, Option, Some, None, refl, sym, ◌∙◌, ap, subst, arith, inl, inr, append-nil}
use Rattle.std.specs.Prelude.{option_map}
use Rattle.std.specs.Option.{option_map_or}
use Rattle.std.specs.List.{filter, find, list_any, flat_map, IsDistinct, AllByRecursion}
use Rattle.std.specs.List.Sorted.{IsPermutation, IsSortedBy}
use Rattle.std.specs.Cmp.{IsTotalOrder, eq_by_cmp_equiv}
use Rattle.std.specs.declared.cmp.Ordering.{Ordering}
use Rattle.std.specs.declared.cmp.Ordering.TheVariants.{Less, Equal, Greater}
use Rattle.std.specs.Ordering.{is_eq, is_lt, ordering_then}
use Rattle.std.proofs.lemmas.Bool.{cases_Bool, true≢false, or_right, or_cases, eqb-true}
use Rattle.std.proofs.lemmas.Bool.Decides.{nat_tests}
use Rattle.std.proofs.lemmas.Cmp.{on_total, then_total}
use Rattle.std.proofs.lemmas.List.{get_or-set_same, get_or-set_other, length-set, take_more, map-append, length-replicate, get_or-replicate}
use Rattle.std.proofs.lemmas.List.Elements.{recursion_from_All, filter-append}
use Rattle.std.proofs.lemmas.List.Folds.{list_any-append}
use Rattle.std.proofs.lemmas.List.Sorted.{list_any-IsPermutation}
use Rattle.std.proofs.lemmas.Grind.{flat_map-append}
use Rattle.std.proofs.lemmas.Map.Keys.{IsDistinct-head, IsDistinct-tail, IsDistinct-cons, IsDistinct-from_apart}
use Rattle.std.proofs.lemmas.Map.Made.{is_member-filter}
use Rattle.std.proofs.Math.Bool.{or-false}
use Rattle.std.proofs.Math.Seq.{take-length}
use Rattle.graph_model.specs.declared.events.Entity.{Entity}
use Rattle.graph_model.specs.declared.events.Entity.TheVariants.{Node, Edge}
use Rattle.graph_model.specs.declared.events.EdgeName.{EdgeName}
use Rattle.graph_model.specs.declared.events.Event.{Event}
use Rattle.graph_model.specs.Compare.{live_events}
use Rattle.graph_model.specs.Window.{carried_events}
use Rattle.graph_model.specs.Names.{name_cmp, same_name, name_total, name_equiv}
use Rattle.graph_model.specs.Entity.{entity_of, same_entity, is_about, involves}
use Rattle.graph_model.specs.Spell.{spell}
use Rattle.graph_model.specs.Rising.{Rises}
use Rattle.graph_model.specs.World.{World, IsLawful, names_node, type_cmp, type_of, events_of}
use Rattle.world_laws.proofs.Filters.{each_weaker, each_append, any_weaker}
use Rattle.world_laws.proofs.Order.{is_eq-Equal, name_exact, same_name-exact, same_name-refl, same_entity-refl, same_entity-exact, then_equal}
use Rattle.world_laws.proofs.Members.{both_true}
use Rattle.world_laws.proofs.Present.{some_passes}
use Rattle.world_laws.proofs.RisingFixed.{rising_fixed}
use Rattle.world_laws.proofs.SortedKeys.{distinct_filter, sorted_keys_rise}
use Rattle.world_laws.proofs.ListItems.{any_map, any_one}
use Rattle.graph_store.specs.Contents.{Contents, name_at, base_of}
use Rattle.graph_store.specs.EdgeParts.{parts_at}
use Rattle.graph_store.proofs.Listed.{list_any-place}
use Rattle.graph_store.specs.Indexed.{IsIndexed}
use Rattle.view_trait.specs.Meaning.{IsShown, knows}
use Rattle.view_trait.proofs.Pairs.{same_number, edge_number}
use Rattle.view_lists.specs.declared.listing.ShownEntity.{ShownEntity}
use Rattle.view_lists.specs.declared.types.TypedNode.{TypedNode}
use Rattle.view_lists.specs.Listing.{AreFound, IsShownEntity, entities_of, appears}
use Rattle.view_lists.specs.Types.{AreMarked, types_listed, typed_node}
use Rattle.view_lists.proofs.Sorting.{nonempty}
use Rattle.view_lists.proofs.ShownOnes.{entity_shown, appears_is}

-- ---- flags

-- the flag of one more node
flag_set : (c : Contents) (f : ℕ → Bool) (flags : List Bool) (m : ℕ) → IsIndexed c → m < length c.nodes → length flags ≡ length c.nodes → ((n : ℕ) → n < length c.nodes → get_or flags n false ≡ f n)
    → (n : ℕ) → n < length c.nodes → get_or (set flags m true) n false ≡ (f n || same_name (name_at c.nodes n) (name_at c.nodes m))
flag_set c f flags m indexed lt len before n below = elim (cases_Bool (eqb n m)) [
  | inl e ↦
      let is : n ≡ m = eqb-true n m e in
      let there : m < length flags = omega (arith, lt, len) in
      ap (λ k. get_or (set flags m true) k false) is
      ∙ (get_or-set_same flags m true false there ∙ sym (or_right (f n) (same_name (name_at c.nodes n) (name_at c.nodes m)) (ap (λ k. same_name (name_at c.nodes k) (name_at c.nodes m)) is ∙ same_name-refl (name_at c.nodes m))))
  | inr e ↦
      let other : n ≡ m → ⊥ = λ is. true≢false (sym (let own : eqb n m ≡ true = grind (arith, nat_tests, is) in own) ∙ e) in
      let apart : same_name (name_at c.nodes n) (name_at c.nodes m) ≡ false = elim (cases_Bool (same_name (name_at c.nodes n) (name_at c.nodes m))) [
        | inl s ↦ absurd (other (same_number c n m indexed below lt (same_name-exact (name_at c.nodes n) (name_at c.nodes m) s)))
        | inr s ↦ s
      ] in
      get_or-set_other flags m n true false other ∙ (before n below ∙ (sym (or-false (f n)) ∙ ap (λ t. f n || t) (sym apart)))
]

any_push : (p : Entity → Bool) (es : List Entity) (e : Entity) → list_any p (es ++ e ∷ []) ≡ (list_any p es || p e)
any_push p [] e = or-false (p e)
any_push p (f ∷ es) e = ap (λ t. p f || t) (any_push p es e) ∙ joined (p f) (list_any p es) (p e)
  where
    joined : (a b d : Bool) → (a || (b || d)) ≡ ((a || b) || d)
    joined true b d = refl
    joined false b d = refl

-- a node, or the ends of an edge, by their numbers
abbrev pub Involved : Contents → Entity → ℕ → ℕ → Type 0
Involved c e a b = (n : ℕ) → involves (name_at c.nodes n) e ≡ (same_name (name_at c.nodes n) (name_at c.nodes a) || same_name (name_at c.nodes n) (name_at c.nodes b))

pub or_twice : (a : Bool) → (a || false) ≡ (a || a)
or_twice true = refl
or_twice false = refl

pub or_last : (a b : Bool) → (a || (b || false)) ≡ (a || b)
or_last true b = refl
or_last false true = refl
or_last false false = refl

or_joined : (a b d : Bool) → ((a || b) || d) ≡ (a || (b || d))
or_joined true b d = refl
or_joined false b d = refl

same_flag : (a b : Bool) → (a || b) ≡ (a || (b || b))
same_flag true b = refl
same_flag false true = refl
same_flag false false = refl

pub mark_two : (c : Contents) (es : List Entity) (e : Entity) (flags : List Bool) (a b : ℕ) → IsIndexed c → a < length c.nodes → b < length c.nodes → Involved c e a b → AreMarked c es flags → AreMarked c (es ++ e ∷ []) (set (set flags a true) b true)
mark_two c es e flags a b indexed lt_a lt_b is h = record {
  len = length-set (set flags a true) b true ∙ (length-set flags a true ∙ h.len);
  marked = λ n below.
      let f : ℕ → Bool = λ k. list_any (involves (name_at c.nodes k)) es in
      let first : (k : ℕ) → k < length c.nodes → get_or (set flags a true) k false ≡ (f k || same_name (name_at c.nodes k) (name_at c.nodes a)) = flag_set c f flags a indexed lt_a h.len h.marked in
      flag_set c (λ k. f k || same_name (name_at c.nodes k) (name_at c.nodes a)) (set flags a true) b indexed lt_b (length-set flags a true ∙ h.len) first n below
      ∙ (or_joined (f n) (same_name (name_at c.nodes n) (name_at c.nodes a)) (same_name (name_at c.nodes n) (name_at c.nodes b))
      ∙ (ap (λ t. f n || t) (sym (is n)) ∙ sym (any_push (involves (name_at c.nodes n)) es e)));
}

pub mark_one : (c : Contents) (es : List Entity) (e : Entity) (flags : List Bool) (a : ℕ) → IsIndexed c → a < length c.nodes → Involved c e a a → AreMarked c es flags → AreMarked c (es ++ e ∷ []) (set flags a true)
mark_one c es e flags a indexed lt is h = record {
  len = length-set flags a true ∙ h.len;
  marked = λ n below.
      let f : ℕ → Bool = λ k. list_any (involves (name_at c.nodes k)) es in
      flag_set c f flags a indexed lt h.len h.marked n below
      ∙ (same_flag (f n) (same_name (name_at c.nodes n) (name_at c.nodes a)) ∙ (ap (λ t. f n || t) (sym (is n)) ∙ sym (any_push (involves (name_at c.nodes n)) es e)));
}

-- ---- what is named

-- lists with the same entities pass the same tests
any_same : (xs ys : List Entity) → ((e : Entity) → list_any (same_entity e) xs ≡ list_any (same_entity e) ys) → (p : Entity → Bool) → list_any p xs ≡ list_any p ys
any_same xs ys h p = both_true (list_any p xs) (list_any p ys) (among xs ys h) (among ys xs (λ e. sym (h e)))
  where
    among : (these those : List Entity) → ((e : Entity) → list_any (same_entity e) these ≡ list_any (same_entity e) those) → list_any p these ≡ true → list_any p those ≡ true
    among these those k t =
        let a = some_passes p these t in
        let b = some_passes (same_entity a.0) those (sym (k a.0) ∙ a.2 (same_entity a.0) (same_entity-refl a.0)) in
        b.2 p (subst (λ z. p z ≡ true) (same_entity-exact a.0 b.0 b.1) a.1)

-- a node that a known entity names has a number
known_ends : (c : Contents) (name : List ℕ) (e : Entity) → IsIndexed c → knows c e ≡ true → involves name e ≡ true → list_any (same_name name) c.nodes ≡ true
known_ends c name (Node other) indexed h k = ap (λ z. list_any (same_name z) c.nodes) (same_name-exact name other (sym (or-false (same_name name other)) ∙ k)) ∙ h
known_ends c name (Edge edge) indexed h k =
    let r = edge_number c edge h in
    let within = indexed.within r.0 r.1 in
    elim (or_cases (same_name name edge.src) (same_name name edge.dst || false) k) [
      | inl e ↦ list_any-place (same_name name) c.nodes (parts_at c.edges r.0).src [] within.0 (ap (λ (x : EdgeName). same_name name x.src) r.2 ∙ e)
      | inr e ↦ list_any-place (same_name name) c.nodes (parts_at c.edges r.0).dst [] within.1 (ap (λ (x : EdgeName). same_name name x.dst) r.2 ∙ (sym (or-false (same_name name edge.dst)) ∙ e))
    ]

take_nothing : (n : ℕ) → take {A = Event} n [] ≡ []
take_nothing zero = refl
take_nothing (suc n) = refl

drop_nothing : (n : ℕ) → drop {A = Event} n [] ≡ []
drop_nothing zero = refl
drop_nothing (suc n) = refl

spell_nothing : (from to : ℕ) (b : Bool) (lo : ℤ) → spell [] from to b lo ≡ []
spell_nothing from to b lo = (λ i. cond b (carried_events lo (live_events (take_nothing from i))) [] ++ take (to - from) (drop_nothing from i)) ∙ (ap (λ ys. cond b [] [] ++ ys) (take_nothing (to - from)) ∙ both b)
  where
    both : (b : Bool) → cond {A = List Event} b [] [] ++ [] ≡ []
    both true = refl
    both false = refl

emptied : (xs : List Event) → nonempty xs ≡ false → xs ≡ []
emptied [] h = refl
emptied (x ∷ xs) h = cc

module _ (c : Contents) (w : World) (shown : IsShown c w) (xs : List ShownEntity) (found : AreFound c w xs) where
  -- the shown entities name what the world's events do
  pub named_shown : (name : List ℕ) → list_any (involves name) (entities_of xs) ≡ names_node w.events name
  named_shown name =
      any_same (entities_of xs) (map entity_of w.events) (λ e. found.exactly e ∙ sym (any_map (same_entity e) entity_of w.events)) (involves name)
      ∙ any_map (involves name) entity_of w.events

  -- a named node has a number
  pub named_known : (name : List ℕ) → names_node w.events name ≡ true → list_any (same_name name) c.nodes ≡ true
  named_known name h =
      any_one (λ (x : Event). involves name (entity_of x)) (list_any (same_name name) c.nodes ≡ true) w.events
      (each_weaker (λ (x : Event). knows c (entity_of x) ≡ true) (λ (x : Event). involves name (entity_of x) ≡ true → list_any (same_name name) c.nodes ≡ true) (λ x k e. known_ends c name (entity_of x) shown.indexed k e) w.events shown.known) h

  base_appears : (s : ShownEntity) → IsShownEntity c w s → appears w (entity_shown s) ≡ true → appears (base_of c) (entity_shown s) ≡ true
  base_appears s part h = elim (cases_Bool (appears (base_of c) (entity_shown s))) [
    | inl e ↦ e
    | inr e ↦
        let e_shown = entity_shown s in
        let none : events_of (base_of c) e_shown ≡ [] = emptied (events_of (base_of c) e_shown) (sym (appears_is (base_of c) e_shown) ∙ e) in
        let nothing : events_of w e_shown ≡ [] = sym part.shows.spells ∙ (ap (λ ys. spell ys s.span.from s.span.to s.span.carried w.bounds.lo) none ∙ spell_nothing s.span.from s.span.to s.span.carried w.bounds.lo) in
        absurd (true≢false (sym h ∙ (appears_is w e_shown ∙ ap nonempty nothing)))
  ]

  -- the accepted events name it too
  pub named_base : (name : List ℕ) → names_node w.events name ≡ true → names_node (base_of c).events name ≡ true
  named_base name h =
      let a = some_passes (λ (x : Event). involves name (entity_of x)) w.events h in
      let e = entity_of a.0 in
      let there : appears w e ≡ true = a.2 (is_about e) (same_entity-refl e) in
      let among : list_any (λ (s : ShownEntity). same_entity e (entity_shown s)) xs ≡ true = sym (any_map (same_entity e) entity_shown xs) ∙ (found.exactly e ∙ there) in
      any_one (λ (s : ShownEntity). same_entity e (entity_shown s)) (names_node (base_of c).events name ≡ true) xs
      (each_weaker (IsShownEntity c w) (λ (s : ShownEntity). same_entity e (entity_shown s) ≡ true → names_node (base_of c).events name ≡ true)
      (λ s part k.
      let is : e ≡ entity_shown s = same_entity-exact e (entity_shown s) k in
      let old : appears (base_of c) (entity_shown s) ≡ true = base_appears s part (ap (appears w) (sym is) ∙ there) in
      any_weaker (is_about (entity_shown s)) (λ (y : Event). involves name (entity_of y)) (λ y m. ap (involves name) (sym (same_entity-exact (entity_shown s) (entity_of y) m) ∙ sym is) ∙ a.1) (base_of c).events old)
      xs (recursion_from_All (IsShownEntity c w) xs found.parts)) among

-- ---- types that are listed

-- the order of types, with ties told apart
abbrev both_cmp : List ℕ × List ℕ → List ℕ × List ℕ → Ordering
both_cmp s t = ordering_then (name_cmp s.0 t.0) (name_cmp s.1 t.1)

abbrev same_both : List ℕ × List ℕ → List ℕ × List ℕ → Bool
same_both s t = is_eq (both_cmp s t)

both_total : IsTotalOrder both_cmp
both_total = then_total (on_total (λ (t : List ℕ × List ℕ). t.0) name_total) (on_total (λ (t : List ℕ × List ℕ). t.1) name_total)

both_exact : (s t : List ℕ × List ℕ) → both_cmp s t ≡ Equal → s ≡ t
both_exact s t h =
    let e = then_equal (name_cmp s.0 t.0) (name_cmp s.1 t.1) h in
    let a = name_exact s.0 t.0 e.0 in
    let b = name_exact s.1 t.1 e.1 in
    λ i. (a i, b i)

both_rise : (xs : List (List ℕ × List ℕ)) → Rises type_cmp xs → Rises both_cmp xs
both_rise [] h = tt
both_rise (x ∷ xs) h = (each_weaker (λ y. type_cmp x y ≡ Less) (λ y. both_cmp x y ≡ Less) (λ y k. ap (λ o. ordering_then o (name_cmp x.1 y.1)) k) xs h.0, both_rise xs h.1)

abbrev has : Option (List ℕ) → List ℕ → Bool
has o k = option_map_or (same_name k) o false

other_name : (s t : List ℕ × List ℕ) → same_name s.0 t.0 ≡ false → same_both s t ≡ false
other_name s t h = by (name_cmp s.0 t.0) h
  where
    by : (o : Ordering) → is_eq o ≡ false → is_eq (ordering_then o (name_cmp s.1 t.1)) ≡ false
    by Less k = refl
    by Equal k = cc
    by Greater k = refl

same_first : (s t : List ℕ × List ℕ) → same_name s.0 t.0 ≡ true → same_both s t ≡ same_name s.1 t.1
same_first s t h = ap (λ o. is_eq (ordering_then o (name_cmp s.1 t.1))) (is_eq-Equal (name_cmp s.0 t.0) h)

none_other : (t s : List ℕ × List ℕ) (xs : List (List ℕ × List ℕ)) → t.0 ≡ s.0 → AllByRecursion (λ y. type_cmp s y ≡ Less) xs → list_any (same_both t) xs ≡ false
none_other t s [] is h = refl
none_other t s (y ∷ ys) is h =
    let apart : same_name t.0 y.0 ≡ false = ap (λ z. same_name z y.0) is ∙ ap is_eq h.0 in
    rw (other_name t y apart) (none_other t s ys is h.1)

-- a type is among types that rise where it is the type of its node
any_type : (t : List ℕ × List ℕ) (xs : List (List ℕ × List ℕ)) → Rises type_cmp xs → list_any (same_both t) xs ≡ has (type_of xs t.0) t.1
any_type t [] h = refl
any_type t (s ∷ xs) h = by (same_name t.0 s.0) refl (any_type t xs h.1)
  where
    by : (b : Bool) → same_name t.0 s.0 ≡ b → list_any (same_both t) xs ≡ has (type_of xs t.0) t.1 → list_any (same_both t) (s ∷ xs) ≡ has (type_of (s ∷ xs) t.0) t.1
    by true e rest =
        let none = none_other t s xs (same_name-exact t.0 s.0 e) h.0 in
        ap (λ b. same_both t s || b) none
        ∙ (or-false (same_both t s) ∙ (same_first t s e ∙ sym (ap (λ b. has (option_map (λ (u : List ℕ × List ℕ). u.1) (cond b (Some s) (find (λ (u : List ℕ × List ℕ). same_name t.0 u.0) xs))) t.1) e)))
    by false e rest =
        ap (λ b. b || list_any (same_both t) xs) (other_name t s e)
        ∙ (rest ∙ sym (ap (λ b. has (option_map (λ (u : List ℕ × List ℕ). u.1) (cond b (Some s) (find (λ (u : List ℕ × List ℕ). same_name t.0 u.0) xs))) t.1) e))

-- the type of a node that passes a test is among those whose nodes pass
type_kept : (p : List ℕ → Bool) (name : List ℕ) (xs : List (List ℕ × List ℕ)) → p name ≡ true → type_of (filter (λ (t : List ℕ × List ℕ). p t.0) xs) name ≡ type_of xs name
type_kept p name [] h = refl
type_kept p name (s ∷ xs) h = by (same_name name s.0) (p s.0) refl refl (type_kept p name xs h)
  where
    by : (a b : Bool) → same_name name s.0 ≡ a → p s.0 ≡ b → type_of (filter (λ (t : List ℕ × List ℕ). p t.0) xs) name ≡ type_of xs name → type_of (filter (λ (t : List ℕ × List ℕ). p t.0) (s ∷ xs)) name ≡ type_of (s ∷ xs) name
    by true true d e rest = rw (e, d) refl
    by true false d e rest = absurd (true≢false (sym h ∙ (ap p (same_name-exact name s.0 d) ∙ e)))
    by false true d e rest = rw (e, d) rest
    by false false d e rest = rw (e, d) rest

any_kept : (p : List ℕ → Bool) (t : List ℕ × List ℕ) (xs : List (List ℕ × List ℕ)) → list_any (same_both t) (filter (λ (s : List ℕ × List ℕ). p s.0) xs) ≡ (list_any (same_both t) xs && p t.0)
any_kept p t xs = is_member-filter (eq_by_cmp_equiv both_total) (λ (s : List ℕ × List ℕ). p s.0) t (λ s k. ap (λ (u : List ℕ × List ℕ). p u.0) (both_exact t s (is_eq-Equal (both_cmp t s) k))) xs

either_and : (h a b : Bool) → (h || (a && h)) ≡ (true && h)
either_and true a b = refl
either_and false true b = refl
either_and false false b = refl

any_one_typed : (t : List ℕ × List ℕ) (types : List (List ℕ × List ℕ)) (name : List ℕ) → same_name t.0 name ≡ true → list_any (same_both t) (typed_node types name) ≡ has (type_of types t.0) t.1
any_one_typed t types name e = by (type_of types name) ∙ ap (λ z. has (type_of types z) t.1) (sym (same_name-exact t.0 name e))
  where
    by : (o : Option (List ℕ)) → list_any (same_both t) (option_map_or (λ kind. (name, kind) ∷ []) o []) ≡ has o t.1
    by None = refl
    by (Some kind) = or-false (same_both t (name, kind)) ∙ same_first t (name, kind) e

none_typed : (t : List ℕ × List ℕ) (types : List (List ℕ × List ℕ)) (name : List ℕ) → same_name t.0 name ≡ false → list_any (same_both t) (typed_node types name) ≡ false
none_typed t types name e = by (type_of types name)
  where
    by : (o : Option (List ℕ)) → list_any (same_both t) (option_map_or (λ kind. (name, kind) ∷ []) o []) ≡ false
    by None = refl
    by (Some kind) = or-false (same_both t (name, kind)) ∙ other_name t (name, kind) e

any_typed : (t : List ℕ × List ℕ) (types : List (List ℕ × List ℕ)) (names : List (List ℕ)) → list_any (same_both t) (flat_map (typed_node types) names) ≡ (list_any (same_name t.0) names && has (type_of types t.0) t.1)
any_typed t types [] = refl
any_typed t types (name ∷ names) = by (same_name t.0 name) refl (any_typed t types names)
  where
    by : (b : Bool) → same_name t.0 name ≡ b → list_any (same_both t) (flat_map (typed_node types) names) ≡ (list_any (same_name t.0) names && has (type_of types t.0) t.1)
        → list_any (same_both t) (typed_node types name ++ flat_map (typed_node types) names) ≡ ((same_name t.0 name || list_any (same_name t.0) names) && has (type_of types t.0) t.1)
    by true e rest =
        list_any-append (same_both t) (typed_node types name) (flat_map (typed_node types) names)
        ∙ ((λ i. any_one_typed t types name e i || rest i)
        ∙ (either_and (has (type_of types t.0) t.1) (list_any (same_name t.0) names) true ∙ sym (ap (λ b. (b || list_any (same_name t.0) names) && has (type_of types t.0) t.1) e)))
    by false e rest =
        list_any-append (same_both t) (typed_node types name) (flat_map (typed_node types) names)
        ∙ ((λ i. none_typed t types name e i || rest i) ∙ sym (ap (λ b. (b || list_any (same_name t.0) names) && has (type_of types t.0) t.1) e))

each_typed : (name : List ℕ) (types : List (List ℕ × List ℕ)) (names : List (List ℕ)) → AllByRecursion (λ y. same_name name y ≡ false) names → AllByRecursion (λ (t : List ℕ × List ℕ). same_name name t.0 ≡ false) (flat_map (typed_node types) names)
each_typed name types [] h = tt
each_typed name types (y ∷ ys) h = each_append (λ (t : List ℕ × List ℕ). same_name name t.0 ≡ false) (typed_node types y) (flat_map (typed_node types) ys) (one (type_of types y)) (each_typed name types ys h.1)
  where
    one : (o : Option (List ℕ)) → AllByRecursion (λ (t : List ℕ × List ℕ). same_name name t.0 ≡ false) (option_map_or (λ kind. (y, kind) ∷ []) o [])
    one None = tt
    one (Some kind) = (h.0, tt)

distinct_typed : (types : List (List ℕ × List ℕ)) (names : List (List ℕ)) → IsDistinct same_name names → IsDistinct (λ (s t : List ℕ × List ℕ). same_name s.0 t.0) (flat_map (typed_node types) names)
distinct_typed types [] h = IsDistinct-from_apart (λ (s t : List ℕ × List ℕ). same_name s.0 t.0) [] (λ i j d less below. absurd (omega arith))
distinct_typed types (name ∷ names) h = one (type_of types name) (distinct_typed types names (IsDistinct-tail same_name name names h))
  where
    one : (o : Option (List ℕ)) → IsDistinct (λ (s t : List ℕ × List ℕ). same_name s.0 t.0) (flat_map (typed_node types) names) → IsDistinct (λ (s t : List ℕ × List ℕ). same_name s.0 t.0) (option_map_or (λ kind. (name, kind) ∷ []) o [] ++ flat_map (typed_node types) names)
    one None rest = rest
    one (Some kind) rest = IsDistinct-cons (λ (s t : List ℕ × List ℕ). same_name s.0 t.0) (name, kind) (flat_map (typed_node types) names) (each_typed name types names (IsDistinct-head same_name name names h)) rest

abbrev pub type_shown : TypedNode → List ℕ × List ℕ
type_shown t = (t.node.now, t.kind.now)

and_known : (p a h : Bool) → (p ≡ true → a ≡ true) → ((a && p) && h) ≡ (h && p)
and_known true a h k = ap (λ t. (t && true) && h) (k refl) ∙ both h
  where
    both : (h : Bool) → h ≡ (h && true)
    both true = refl
    both false = refl
and_known false true h k = none h
  where
    none : (h : Bool) → false ≡ (h && false)
    none true = refl
    none false = refl
and_known false false h k = none h
  where
    none : (h : Bool) → false ≡ (h && false)
    none true = refl
    none false = refl

and_same : (p a b : Bool) → (p ≡ true → a ≡ b) → (a && p) ≡ (b && p)
and_same true a b k = ap (λ t. t && true) (k refl)
and_same false true true k = refl
and_same false true false k = refl
and_same false false true k = refl
and_same false false false k = refl

-- the types of the named nodes, sorted, are those of the world
pub types_sorted : (c : Contents) (w : World) (shown : IsShown c w) (xs : List ShownEntity) → IsLawful (base_of c) → AreFound c w xs → (ts ys : List TypedNode)
    → types_listed ts ≡ flat_map (typed_node c.types) (filter (names_node w.events) c.nodes) → IsPermutation ts ys → IsSortedBy (λ (s t : TypedNode). is_lt (name_cmp s.node.now t.node.now)) ys → types_listed ys ≡ w.types
types_sorted c w shown xs lawful found ts ys is moved sorted =
    let names = filter (names_node w.events) c.nodes in
    let listed = flat_map (typed_node c.types) names in
    let base_types = (base_of c).types in
    let once : IsDistinct (λ (s t : List ℕ × List ℕ). same_name s.0 t.0) (types_listed ts) = subst (IsDistinct (λ (s t : List ℕ × List ℕ). same_name s.0 t.0)) (sym is) (distinct_typed c.types names (distinct_filter same_name (names_node w.events) c.nodes shown.indexed.node_names)) in
    let rise : Rises type_cmp (types_listed ys) = sorted_keys_rise type_shown type_cmp (on_total (λ (t : List ℕ × List ℕ). t.0) name_total) ts ys once moved sorted in
    rising_fixed both_cmp both_total both_exact (types_listed ys) w.types (both_rise (types_listed ys) rise) (both_rise w.types shown.lawful.types_rise)
    (λ t.
    any_map (same_both t) type_shown ys
    ∙ (sym (list_any-IsPermutation (λ (u : TypedNode). same_both t (type_shown u)) ts ys moved)
    ∙ (sym (any_map (same_both t) type_shown ts)
    ∙ (ap (list_any (same_both t)) is
    ∙ (any_typed t c.types names
    ∙ (ap (λ b. b && has (type_of c.types t.0) t.1) (is_member-filter name_equiv (names_node w.events) t.0 (λ n k. ap (names_node w.events) (same_name-exact t.0 n k)) c.nodes)
    ∙ (and_known (names_node w.events t.0) (list_any (same_name t.0) c.nodes) (has (type_of c.types t.0) t.1) (named_known c w shown xs found t.0)
    ∙ (and_same (names_node w.events t.0) (has (type_of c.types t.0) t.1) (has (type_of base_types t.0) t.1) (λ k. ap (λ o. has o t.1) (sym (type_kept (names_node (base_of c).events) t.0 c.types (named_base c w shown xs found t.0 k))))
    ∙ (ap (λ b. b && names_node w.events t.0) (sym (any_type t base_types lawful.types_rise))
    ∙ (sym (any_kept (names_node w.events) t base_types)
    ∙ sym (ap (list_any (same_both t)) shown.types)))))))))))

-- ---- types that are pushed

pub typed_is : (types : List (List ℕ × List ℕ)) (name kind : List ℕ) → type_of types name ≡ Some kind → typed_node types name ≡ (name, kind) ∷ []
typed_is types name kind e = ap (λ o. option_map_or (λ k. (name, k) ∷ []) o []) e

pub typed_push : (xs ys : List TypedNode) (t : TypedNode) (types : List (List ℕ × List ℕ)) (name kind : List ℕ) → ys ≡ xs ++ t ∷ [] → t.node.now ≡ name → t.kind.now ≡ kind → type_of types name ≡ Some kind → types_listed ys ≡ types_listed xs ++ typed_node types name
typed_push xs ys t types name kind more node is e =
    ap (map type_shown) more
    ∙ (map-append type_shown xs (t ∷ []) ∙ ap (λ zs. types_listed xs ++ zs) ((λ i. (node i, is i) ∷ []) ∙ sym (typed_is types name kind e)))

pub typed_more : (c : Contents) (p : List ℕ → Bool) (n : ℕ) (b : Bool) (old new : List (List ℕ × List ℕ)) → n < length c.nodes → b ≡ p (name_at c.nodes n) → old ≡ flat_map (typed_node c.types) (filter p (take n c.nodes))
    → new ≡ old ++ cond b (typed_node c.types (name_at c.nodes n)) [] → new ≡ flat_map (typed_node c.types) (filter p (take (n + 1) c.nodes))
typed_more c p n b old new lt is before more =
    more
    ∙ ((λ i. before i ++ cond (is i) (typed_node c.types name) [])
    ∙ (ap (λ ts. flat_map (typed_node c.types) (filter p (take n c.nodes)) ++ ts) (one (p name))
    ∙ (sym (flat_map-append (typed_node c.types) (filter p (take n c.nodes)) (filter p (name ∷ [])))
    ∙ ap (flat_map (typed_node c.types)) (sym (filter-append p (take n c.nodes) (name ∷ [])) ∙ ap (filter p) (sym (take_more c.nodes n [] lt))))))
  where
    name : List ℕ
    name = name_at c.nodes n

    one : (t : Bool) → cond t (typed_node c.types (name_at c.nodes n)) [] ≡ flat_map (typed_node c.types) (cond t (name_at c.nodes n ∷ []) [])
    one true = sym (append-nil (typed_node c.types (name_at c.nodes n)))
    one false = refl

-- no flag is set
pub marked_none : (c : Contents) (n : ℕ) (flags : List Bool) → flags ≡ replicate n false → n ≡ length c.nodes → AreMarked c [] flags
marked_none c n flags is len = record {
  len = ap length is ∙ (length-replicate n false ∙ len);
  marked = λ i below. ap (λ fs. get_or fs i false) is ∙ get_or-replicate n i false false (omega (arith, len, below));
}

pub marked_more : (c : Contents) (xs : List ShownEntity) (i : ℕ) (one : ShownEntity) (flags : List Bool) → i < length xs → one ≡ get_or xs i one → AreMarked c (entities_of (take i xs) ++ entity_shown one ∷ []) flags → AreMarked c (entities_of (take (i + 1) xs)) flags
marked_more c xs i one flags lt is h =
    subst (λ es. AreMarked c es flags) (sym (ap entities_of (take_more xs i one lt ∙ ap (λ z. take i xs ++ z ∷ []) (sym is)) ∙ map-append entity_shown (take i xs) (one ∷ []))) h

pub marked_all : (c : Contents) (xs : List ShownEntity) (i : ℕ) (flags : List Bool) → i ≡ length xs → AreMarked c (entities_of (take i xs)) flags → AreMarked c (entities_of xs) flags
marked_all c xs i flags is h = subst (λ es. AreMarked c (entities_of es) flags) (ap (λ m. take m xs) is ∙ take-length xs) h

pub copies_more : (ts : List TypedNode) (i : ℕ) (one : TypedNode) (old new : List (List ℕ × List ℕ)) (node kind : List ℕ) → i < length ts → one ≡ get_or ts i one → node ≡ one.node.now → kind ≡ one.kind.now → old ≡ types_listed (take i ts) → new ≡ old ++ (node, kind) ∷ [] → new ≡ types_listed (take (i + 1) ts)
copies_more ts i one old new node kind lt is a b before more =
    more
    ∙ ((λ k. before k ++ (a k, b k) ∷ [])
    ∙ (sym (map-append type_shown (take i ts) (one ∷ [])) ∙ ap types_listed (ap (λ z. take i ts ++ z ∷ []) is ∙ sym (take_more ts i one lt))))

pub copies_all : (ts : List TypedNode) (i : ℕ) (old : List (List ℕ × List ℕ)) → i ≡ length ts → old ≡ types_listed (take i ts) → old ≡ types_listed ts
copies_all ts i old is h = h ∙ ap types_listed (ap (λ m. take m ts) is ∙ take-length ts)

pub types_all : (c : Contents) (p : List ℕ → Bool) (n : ℕ) (old : List (List ℕ × List ℕ)) → n ≡ length c.nodes → old ≡ flat_map (typed_node c.types) (filter p (take n c.nodes)) → old ≡ flat_map (typed_node c.types) (filter p c.nodes)
types_all c p n old is h = h ∙ ap (λ ns. flat_map (typed_node c.types) (filter p ns)) (ap (λ m. take m c.nodes) is ∙ take-length c.nodes)
