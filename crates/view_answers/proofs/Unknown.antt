-- Names that a store does not have: what they name has no event and no value.
use Rattle.std.proofs.Common.{◌≡◌, ℕ, zero, suc, ◌-◌, ◌<◌, ℤ, Bool, true, false, ◌||◌, ◌&&◌, List, [], ◌∷◌, None, Some, length, cond, map, take, drop, get_or, slice_range, refl, sym, ◌∙◌, ap, arith}
use Rattle.std.specs.Prelude.{position}
use Rattle.std.specs.List.{cons_option, filter_map, fold, last_or, AllByRecursion}
use Rattle.std.proofs.lemmas.Bool.{true≢false, cond_both}
use Rattle.std.proofs.lemmas.List.{get_or-map, length-map}
use Rattle.std.proofs.lemmas.List.Elements.{recursion_from_All}
use Rattle.std.proofs.lemmas.List.Quantifiers.{position-Some}
use Rattle.graph_model.specs.declared.properties.Value.{Value}
use Rattle.graph_model.specs.declared.properties.ValueType.{ValueType}
use Rattle.graph_model.specs.declared.events.EdgeName.{EdgeName}
use Rattle.graph_model.specs.declared.events.Entity.{Entity}
use Rattle.graph_model.specs.declared.events.Entity.TheVariants.{Node, Edge}
use Rattle.graph_model.specs.declared.events.Event.{Event}
use Rattle.graph_model.specs.declared.events.Model.{Model}
use Rattle.graph_model.specs.declared.events.Model.TheVariants.{Event as Instants, Persistent}
use Rattle.graph_model.specs.Interval.{is_inside}
use Rattle.graph_model.specs.Compare.{live_events, value_of}
use Rattle.graph_model.specs.Entity.{entity_of, props_of, same_entity}
use Rattle.graph_model.specs.Names.{same_name}
use Rattle.graph_model.specs.Presence.{alive_at, lives_at}
use Rattle.graph_model.specs.Props.{has_key, overwrite, prop_value, put_prop}
use Rattle.graph_model.specs.Spell.{spell}
use Rattle.graph_model.specs.Window.{carried_events, last_props}
use Rattle.graph_model.specs.World.{World, events_of}
use Rattle.world_laws.proofs.Carried.{each_live, props-update_of}
use Rattle.world_laws.proofs.Distinct.{any-put_prop, prop_value-none}
use Rattle.world_laws.proofs.Filters.{each_append}
use Rattle.world_laws.proofs.Order.{same_entity-exact, same_name-exact}
use Rattle.time_history.specs.declared.updates.Kind.{Kind}
use Rattle.time_history.specs.declared.updates.Kind.TheVariants.{Node as OfNode, Add, Delete}
use Rattle.time_history.specs.declared.updates.Update.{Update}
use Rattle.time_history.specs.declared.span.Span.{Span}
use Rattle.time_history.specs.Asked.{AreNamed}
use Rattle.time_history.specs.Telling.{events_told, with_key_names, what_told}
use Rattle.graph_store.specs.Contents.{Contents, edge_entities, edge_name, key_names_for, name_at}
use Rattle.graph_store.specs.Keys.{key_name}
use Rattle.graph_store.specs.declared.edges.EdgeParts.{EdgeParts}
use Rattle.graph_store.proofs.Listed.{list_any-place}
use Rattle.graph_store.proofs.Readers.{none_found, one_found}
use Rattle.view_trait.specs.Meaning.{IsShown, Tells, Shows, edge_at, edge_named, knows, node_at}
use Rattle.view_trait.proofs.Found.{spelled_is}
use Rattle.view_trait.proofs.Pairs.{unknown_shows_nothing}

-- ---- names with a number, and names with none

pub no_node : (c : Contents) (w : World) (name : List ℕ) → IsShown c w → position (same_name name) c.nodes ≡ None → events_of w (Node name) ≡ []
no_node c w name h e = unknown_shows_nothing c w (Node name) h (none_found (same_name name) c.nodes e)

pub no_edge : (c : Contents) (w : World) (edge : EdgeName) → IsShown c w → position (same_entity (Edge edge)) (edge_entities c.nodes c.layers c.edges) ≡ None → events_of w (Edge edge) ≡ []
no_edge c w edge h e = unknown_shows_nothing c w (Edge edge) h (none_found (same_entity (Edge edge)) (edge_entities c.nodes c.layers c.edges) e)

pub node_known : (c : Contents) (name : List ℕ) (n : ℕ) → position (same_name name) c.nodes ≡ Some n → knows c (Node name) ≡ true
node_known c name n e = one_found (same_name name) c.nodes n [] e

pub node_named : (c : Contents) (name : List ℕ) (n : ℕ) → position (same_name name) c.nodes ≡ Some n → (n < length c.nodes) × (node_at c n ≡ Node name)
node_named c name n e =
    let r = position-Some (same_name name) c.nodes n [] e in
    (r.0, ap Node (sym (same_name-exact name (name_at c.nodes n) r.1)))

pub edge_known : (c : Contents) (edge : EdgeName) (e : ℕ) → position (same_entity (Edge edge)) (edge_entities c.nodes c.layers c.edges) ≡ Some e → knows c (Edge edge) ≡ true
edge_known c edge e h = one_found (same_entity (Edge edge)) (edge_entities c.nodes c.layers c.edges) e (Edge edge) h

pub edge_numbered : (c : Contents) (edge : EdgeName) (e : ℕ) → position (same_entity (Edge edge)) (edge_entities c.nodes c.layers c.edges) ≡ Some e → (e < length c.edges) × (edge_at c e ≡ Edge edge)
edge_numbered c edge e h =
    let f : EdgeParts → Entity = λ (p : EdgeParts). Edge (edge_name c.nodes c.layers p) in
    let blank : EdgeParts = record { src = 0; dst = 0; layer = 0 } in
    let r = position-Some (same_entity (Edge edge)) (map f c.edges) e (f blank) h in
    let n = length-map c.edges f in
    let lt : e < length c.edges = (let k = r.0 in omega (arith, n)) in
    (lt, sym (same_entity-exact (Edge edge) (get_or (map f c.edges) e (f blank)) r.1 ∙ get_or-map f c.edges e blank (f blank) lt))

pub key_numbered : (keys : List (List ℕ × ValueType)) (key : List ℕ) (k : ℕ) → position (same_name key) (map (λ (p : List ℕ × ValueType). p.0) keys) ≡ Some k → (k < length keys) × (key_name keys k ≡ key)
key_numbered keys key k e =
    let r = position-Some (same_name key) (map (λ (p : List ℕ × ValueType). p.0) keys) k [] e in
    let n = length-map keys (λ (p : List ℕ × ValueType). p.0) in
    ((let lt = r.0 in omega (arith, n)), sym (same_name-exact key (key_name keys k) r.1))

-- the names of a table are other names than one that it does not have
other_key : (keys : List (List ℕ × ValueType)) (key : List ℕ) → position (same_name key) (map (λ (p : List ℕ × ValueType). p.0) keys) ≡ None → (k : ℕ) → k < length keys → same_name key (key_name keys k) ≡ false
other_key keys key e k lt = by (same_name key (key_name keys k)) refl
  where
    by : (t : Bool) → same_name key (key_name keys k) ≡ t → same_name key (key_name keys k) ≡ false
    by true same =
        let n = length-map keys (λ (p : List ℕ × ValueType). p.0) in
        absurd (true≢false (sym (list_any-place (same_name key) (map (λ (p : List ℕ × ValueType). p.0) keys) k [] (omega (arith, n)) same) ∙ none_found (same_name key) (map (λ (p : List ℕ × ValueType). p.0) keys) e))
    by false other = other

-- ---- events without a key

neither : (a b : Bool) → (a || b) ≡ false → (a ≡ false) × (b ≡ false)
neither true b h = cc
neither false b h = (refl, h)

each_taken : {X : Type 0} (P : X → Type 0) (n : ℕ) (xs : List X) → AllByRecursion P xs → AllByRecursion P (take n xs)
each_taken P zero xs h = tt
each_taken P (suc n) [] h = tt
each_taken P (suc n) (x ∷ xs) h = (h.0, each_taken P n xs h.1)

each_dropped : {X : Type 0} (P : X → Type 0) (n : ℕ) (xs : List X) → AllByRecursion P xs → AllByRecursion P (drop n xs)
each_dropped P zero xs h = h
each_dropped P (suc n) [] h = tt
each_dropped P (suc n) (x ∷ xs) h = each_dropped P n xs h.1

module _ (key : List ℕ) where
  Lacks : Event → Type 0
  Lacks x = has_key key (props_of x) ≡ false

  overwritten : (old new : List (List ℕ × Value)) → has_key key old ≡ false → has_key key new ≡ false → has_key key (overwrite old new) ≡ false
  overwritten [] new h k = k
  overwritten (p ∷ old) new h k =
      let both = neither (same_name key p.0) (has_key key old) h in
      let rest = overwritten old new both.1 k in
      cond_both (has_key p.0 (overwrite old new)) (overwrite old new) (put_prop p (overwrite old new)) (λ ps. has_key key ps ≡ false) (λ e. rest)
      (λ e. any-put_prop (λ (q : List ℕ × Value). same_name key q.0) p (overwrite old new) ∙ (λ i. both.0 i || rest i))

  folded : (ps : List (List ℕ × Value)) (xs : List Event) → has_key key ps ≡ false → AllByRecursion Lacks xs → has_key key (fold (λ old x. overwrite old (props_of x)) ps xs) ≡ false
  unfolding Lacks
  folded ps [] h k = h
  folded ps (x ∷ xs) h k = folded (overwrite ps (props_of x)) xs (overwritten ps (props_of x) h k.0) k.1

  carried_lacks : (lo : ℤ) (xs : List Event) → AllByRecursion Lacks xs → AllByRecursion Lacks (carried_events lo xs)
  unfolding Lacks
  carried_lacks lo [] h = tt
  carried_lacks lo (x ∷ xs) h = (ap (has_key key) (props-update_of (entity_of x) (last_props (x ∷ xs))) ∙ folded [] (x ∷ xs) refl h, tt)

  spelled_lacks : (h : List Event) (from to : ℕ) (over : Bool) (lo : ℤ) → AllByRecursion Lacks h → AllByRecursion Lacks (spell h from to over lo)
  spelled_lacks h from to over lo k =
      each_append Lacks (cond over (carried_events lo (live_events (take from h))) []) (slice_range h from to)
      (cond_both over (carried_events lo (live_events (take from h))) [] (AllByRecursion Lacks) (λ e. carried_lacks lo (live_events (take from h)) (each_live Lacks (take from h) (each_taken Lacks from h k))) (λ e. tt))
      (each_taken Lacks (to - from) (drop from h) (each_dropped Lacks from h k))

  nothing_set : (xs : List Event) → AllByRecursion Lacks xs → filter_map (λ x. prop_value key (props_of x)) xs ≡ []
  unfolding Lacks
  nothing_set [] h = refl
  nothing_set (x ∷ xs) h = ap (λ o. cons_option o (filter_map (λ y. prop_value key (props_of y)) xs)) (prop_value-none key (props_of x) h.0) ∙ nothing_set xs h.1

  no_value : (xs : List Event) → AllByRecursion Lacks xs → value_of key xs ≡ None
  no_value xs h = ap (last_or None) (nothing_set (live_events xs) (each_live Lacks xs h))

  module _ (names : ℕ → List ℕ) (n : ℕ) (other : (k : ℕ) → k < n → same_name key (names k) ≡ false) where
    named_lack : (ps : List (ℕ × Value)) → AllByRecursion (λ (p : ℕ × Value). p.0 < n) ps → has_key key (with_key_names names ps) ≡ false
    named_lack [] h = refl
    named_lack (p ∷ ps) h = any-put_prop (λ (q : List ℕ × Value). same_name key q.0) (names p.0, p.1) (with_key_names names ps) ∙ (λ i. other p.0 h.0 i || named_lack ps h.1 i)

    told_lacks : (x : Entity) (us : List Update) → AllByRecursion (λ (u : Update). AllByRecursion (λ (p : ℕ × Value). p.0 < n) u.props) us → AllByRecursion Lacks (events_told x names us)
    unfolding Lacks
    told_lacks x [] h = tt
    told_lacks x (u ∷ us) h = (one x u.kind (with_key_names names u.props) (named_lack u.props h.0), told_lacks x us h.1)
      where
        one : (y : Entity) (kind : Kind) (ps : List (List ℕ × Value)) → has_key key ps ≡ false → has_key key (props_of (record { time = u.time; order = u.order; what = what_told y kind ps })) ≡ false
        one (Node name) kind ps k = k
        one (Edge edge) OfNode ps k = k
        one (Edge edge) Add ps k = k
        one (Edge edge) Delete ps k = refl

-- a key that the store does not have has no value in any world over it
pub no_key : (c : Contents) (w : World) (x : Entity) (us : List Update) (s : Span) (keys : List (List ℕ × ValueType)) (key : List ℕ) → Tells c x us → Shows c w x s → AreNamed (key_name keys) (length keys) us
    → position (same_name key) (map (λ (p : List ℕ × ValueType). p.0) keys) ≡ None → ((k : ℕ) → key_names_for c x k ≡ key_name keys k) → value_of key (events_of w x) ≡ None
no_key c w x us s keys key t h are e same =
    let other = λ (k : ℕ) (lt : k < length keys). ap (same_name key) (same k) ∙ other_key keys key e k lt in
    let below = recursion_from_All (λ (u : Update). AllByRecursion (λ (p : ℕ × Value). p.0 < length keys) u.props) us (λ k d lt. recursion_from_All (λ (p : ℕ × Value). p.0 < length keys) (get_or us k d).props (are.below k d lt)) in
    let told = told_lacks key (key_names_for c x) (length keys) other x us below in
    ap (value_of key) (sym (spelled_is c w x us s t h)) ∙ no_value key (spell (events_told x (key_names_for c x) us) s.from s.to s.carried w.bounds.lo) (spelled_lacks key (events_told x (key_names_for c x) us) s.from s.to s.carried w.bounds.lo told)

-- where an entity has no event, it has no value and is never alive
pub nothing_has_no_value : (key : List ℕ) (xs : List Event) → xs ≡ [] → None ≡ value_of key xs
nothing_has_no_value key xs e = sym (ap (value_of key) e)

pub never_alive : (w : World) (edge : EdgeName) (m : ℤ) → events_of w (Edge edge) ≡ [] → false ≡ alive_at w edge m
never_alive w edge m e = sym (ap (λ xs. lives_at w.model w.bounds xs m) e ∙ nothing_lives w.model)
  where
    never : (b : Bool) → (b && false) ≡ false
    never true = refl
    never false = refl

    nothing_lives : (model : Model) → lives_at model w.bounds [] m ≡ false
    nothing_lives Instants = refl
    nothing_lives Persistent = never (is_inside w.bounds m)

-- what is asked of an edge by its number is asked of the edge that it names
pub alive_named : (c : Contents) (w : World) (edge : EdgeName) (e : ℕ) (m : ℤ) → edge_at c e ≡ Edge edge → alive_at w (edge_named c e) m ≡ alive_at w edge m
alive_named c w edge e m is = ap (λ (x : Entity). lives_at w.model w.bounds (events_of w x) m) is
