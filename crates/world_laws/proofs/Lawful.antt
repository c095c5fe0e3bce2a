-- Views of lawful worlds are lawful, and have no more events.
use Rattle.std.proofs.Common.{◌≡◌, ℕ, ℤ, ◌+ℤ◌, pos, Bool, true, false, not, ◌&&◌, ◌||◌, List, [], ◌∷◌, ◌++◌, refl, sym, ◌∙◌, ap, subst}
use Rattle.std.specs.Bool.{beq}
use Rattle.std.specs.List.{filter, list_any, list_all, AllByRecursion, fold}
use Rattle.std.proofs.lemmas.Bool.{cond_both, and_parts, and_from}
use Rattle.std.specs.Cmp.{eq_by_cmp_equiv}
use Rattle.std.specs.Ordering.{is_lt}
use lib.Signed.{≤ℤ_refl}
use Rattle.graph_model.specs.declared.properties.Value.{Value}
use Rattle.graph_model.specs.declared.properties.Value.TheVariants.{Int, Flag, Text}
use Rattle.graph_model.specs.declared.queries.Op.{Op}
use Rattle.graph_model.specs.declared.queries.Op.TheVariants.{Window, At, Before, After, Layers, ExcludeLayers, Subgraph, ExcludeNodes, EdgesWhere, NodesWhere, Valid, NodeTypes}
use Rattle.graph_model.specs.declared.events.Entity.{Entity}
use Rattle.graph_model.specs.declared.events.Event.{Event}
use Rattle.graph_model.specs.declared.events.Model.{Model}
use Rattle.graph_model.specs.declared.events.Model.TheVariants.{Event as Instants, Persistent}
use Rattle.graph_model.specs.Props.{overwrite, put_prop, KeysRise}
use Rattle.graph_model.specs.Names.{name_cmp, same_name}
use Rattle.graph_model.specs.Rising.{Rises}
use Rattle.graph_model.specs.Interval.{Interval, cut, is_empty, is_inside, earliest, latest}
use Rattle.graph_model.specs.Entity.{entity_of, is_about, about, entities, is_node, props_of, update_of}
use Rattle.graph_model.specs.Compare.{live_events}
use Rattle.world_laws.proofs.Values.{KeysRise-last_props}
use Rattle.graph_model.specs.World.{World, IsLawful, event_cmp, arrange, names_node, type_cmp, types_in, allows, types_agree, props_agree, same_type}
use Rattle.graph_model.specs.Window.{window, window_list, is_early, is_within, carried_events, all_carried, last_props}
use Rattle.graph_model.specs.Keep.{keep, in_layers, outside_layers, among_nodes, apart_from_nodes, among_types, edge_holds, node_holds, is_valid}
use Rattle.graph_model.specs.Stack.{view, apply}
use Rattle.world_laws.proofs.Filters.{each_kept, kept_pass, each_weaker, each_append, each_two, each_flat_map}
use Rattle.world_laws.proofs.Named.{Rises-filter}
use Rattle.world_laws.proofs.InOrder.{each_in_order}
use Rattle.world_laws.proofs.Order.{same_entity-exact, name_total}
use Rattle.world_laws.proofs.Times.{le_test, cut_ordered, inside_test, not_empty}
use Rattle.world_laws.proofs.Carried.{each_live, subject-update_of, props-update_of}
use Rattle.world_laws.proofs.Windows.{arranged_window_list}
use Rattle.world_laws.proofs.Kept.{arranged_kept}

-- between a test of all items and what holds of each
pub each_passes : {X : Type 0} (p : X → Bool) (xs : List X) → list_all p xs ≡ true → AllByRecursion (λ x. p x ≡ true) xs
each_passes p [] h = tt
each_passes p (x ∷ xs) h = let k = and_parts (p x) (list_all p xs) h in (k.0, each_passes p xs k.1)

pub all_pass : {X : Type 0} (p : X → Bool) (xs : List X) → AllByRecursion (λ x. p x ≡ true) xs → list_all p xs ≡ true
all_pass p [] h = refl
all_pass p (x ∷ xs) h = and_from (p x) (list_all p xs) h.0 (all_pass p xs h.1)

pub all_kept : {X : Type 0} (p q : X → Bool) (xs : List X) → list_all p xs ≡ true → list_all p (filter q xs) ≡ true
all_kept {X} p q xs h = all_pass p (filter q xs) (each_kept (λ (x : X). p x ≡ true) q xs (each_passes p xs h))

-- a test of all pairs holds of the pairs of a filtered list
pub pairs_kept : {X : Type 0} (r : X → X → Bool) (q : X → Bool) (xs : List X) → list_all (λ x. list_all (r x) xs) xs ≡ true → list_all (λ x. list_all (r x) (filter q xs)) (filter q xs) ≡ true
pairs_kept {X} r q xs h =
    all_pass (λ x. list_all (r x) (filter q xs)) (filter q xs)
    (each_kept (λ (x : X). list_all (r x) (filter q xs) ≡ true) q xs
    (each_weaker (λ (x : X). list_all (r x) xs ≡ true) (λ (x : X). list_all (r x) (filter q xs) ≡ true) (λ x k. all_kept (r x) q xs k) xs (each_passes (λ x. list_all (r x) xs) xs h)))

-- the types that a view keeps are of nodes that its events name
pub types_in_named : (xs : List Event) (types : List (List ℕ × List ℕ)) → list_all (λ (t : List ℕ × List ℕ). names_node xs t.0) (types_in xs types) ≡ true
types_in_named xs types = all_pass (λ (t : List ℕ × List ℕ). names_node xs t.0) (types_in xs types) (kept_pass (λ (t : List ℕ × List ℕ). names_node xs t.0) types)

-- and rise by node as before
pub types_in_rise : (xs : List Event) (types : List (List ℕ × List ℕ)) → Rises type_cmp types → Rises type_cmp (types_in xs types)
types_in_rise xs types h = Rises-filter type_cmp (λ (t : List ℕ × List ℕ). names_node xs t.0) types h

pub IsLawful-keep : (p : Entity → Bool) (w : World) → IsLawful w → IsLawful (keep p w)
IsLawful-keep p w h = record {
  bounds = h.bounds;
  arranged = arranged_kept p w.events h.arranged;
  inside = all_kept (λ x. is_inside w.bounds x.time) (λ x. p (entity_of x)) w.events h.inside;
  allowed = all_kept (allows w.model) (λ x. p (entity_of x)) w.events h.allowed;
  rising = each_kept (λ x. KeysRise (props_of x)) (λ x. p (entity_of x)) w.events h.rising;
  typed = pairs_kept types_agree (λ x. p (entity_of x)) w.events h.typed;
  types_rise = types_in_rise (filter (λ x. p (entity_of x)) w.events) w.types h.types_rise;
  types_named = types_in_named (filter (λ x. p (entity_of x)) w.events) w.types;
}

-- ---- windows

always : {X : Type 0} (xs : List X) → list_all (λ (x : X). true) xs ≡ true
always [] = refl
always (x ∷ xs) = always xs

-- a test of all pairs, the other way round
pub all_swap : {X Y : Type 0} (r : X → Y → Bool) (xs : List X) (ys : List Y) → list_all (λ x. list_all (r x) ys) xs ≡ true → list_all (λ y. list_all (λ x. r x y) xs) ys ≡ true
all_swap r [] ys h = always ys
all_swap {X} {Y} r (x ∷ xs) ys h =
    let k = and_parts (list_all (r x) ys) (list_all (λ z. list_all (r z) ys) xs) h in
    all_pass (λ y. r x y && list_all (λ z. r z y) xs) ys
    (each_two (λ (y : Y). r x y ≡ true) (λ (y : Y). list_all (λ z. r z y) xs ≡ true) (λ (y : Y). (r x y && list_all (λ z. r z y) xs) ≡ true) (λ y p q. and_from (r x y) (list_all (λ z. r z y) xs) p q)
    ys (each_passes (r x) ys k.0) (each_passes (λ y. list_all (λ z. r z y) xs) ys (all_swap r xs ys k.1)))

both_true : (a b : Bool) → (a ≡ true → b ≡ true) → (b ≡ true → a ≡ true) → a ≡ b
both_true true b h k = sym (h refl)
both_true false true h k = k refl
both_true false false h k = refl

pub same_type-sym : (a b : Value) → same_type a b ≡ same_type b a
same_type-sym (Int a) (Int b) = refl
same_type-sym (Int a) (Flag b) = refl
same_type-sym (Int a) (Text b) = refl
same_type-sym (Flag a) (Int b) = refl
same_type-sym (Flag a) (Flag b) = refl
same_type-sym (Flag a) (Text b) = refl
same_type-sym (Text a) (Int b) = refl
same_type-sym (Text a) (Flag b) = refl
same_type-sym (Text a) (Text b) = refl

same_name-sym : (a b : List ℕ) → same_name a b ≡ same_name b a
same_name-sym a b = (eq_by_cmp_equiv name_total).symm a b

-- the values of two properties have one type where their keys are one
abbrev pub agree : List ℕ × Value → List ℕ × Value → Bool
agree p q = not (same_name p.0 q.0) || same_type p.1 q.1

pub agree-sym : (p q : List ℕ × Value) → agree p q ≡ agree q p
agree-sym p q = let m = same_name-sym p.0 q.0 in let t = same_type-sym p.1 q.1 in λ k. not (m k) || t k

props_agree_back : (ps qs : List (List ℕ × Value)) → props_agree ps qs ≡ true → props_agree qs ps ≡ true
props_agree_back ps qs h = subst (λ (b : Bool). b ≡ true) (λ k. list_all (λ q. list_all (λ p. agree-sym p q k) ps) qs) (all_swap agree ps qs h)

props_agree-sym : (ps qs : List (List ℕ × Value)) → props_agree ps qs ≡ props_agree qs ps
props_agree-sym ps qs = both_true (props_agree ps qs) (props_agree qs ps) (props_agree_back ps qs) (props_agree_back qs ps)

beq-sym : (a b : Bool) → beq a b ≡ beq b a
beq-sym true true = refl
beq-sym true false = refl
beq-sym false true = refl
beq-sym false false = refl

pub types_agree-sym : (x y : Event) → types_agree x y ≡ types_agree y x
types_agree-sym x y = let m = beq-sym (is_node (entity_of x)) (is_node (entity_of y)) in let t = props_agree-sym (props_of x) (props_of y) in λ k. not (m k) || t k

-- an event of another kind, or all of whose properties pass a test
abbrev sets_only : Bool → (List ℕ × Value → Bool) → Event → Bool
sets_only b t x = not (beq (is_node (entity_of x)) b) || list_all t (props_of x)

all_put : (t : List ℕ × Value → Bool) (p : List ℕ × Value) (qs : List (List ℕ × Value)) → t p ≡ true → list_all t qs ≡ true → list_all t (put_prop p qs) ≡ true
all_put t p [] h k = and_from (t p) true h refl
all_put t p (q ∷ qs) h k =
    let m = and_parts (t q) (list_all t qs) k in
    cond_both (is_lt (name_cmp p.0 q.0)) (p ∷ q ∷ qs) (q ∷ put_prop p qs) (λ ps. list_all t ps ≡ true)
    (λ e. and_from (t p) (list_all t (q ∷ qs)) h k)
    (λ e. and_from (t q) (list_all t (put_prop p qs)) m.0 (all_put t p qs h m.1))

all_overwrite : (t : List ℕ × Value → Bool) (old new : List (List ℕ × Value)) → list_all t old ≡ true → list_all t new ≡ true → list_all t (overwrite old new) ≡ true
all_overwrite t [] new h k = k
all_overwrite t (p ∷ old) new h k =
    let m = and_parts (t p) (list_all t old) h in
    let rest : list_all t (overwrite old new) ≡ true = all_overwrite t old new m.1 k in
    cond_both (list_any (λ q. same_name p.0 q.0) (overwrite old new)) (overwrite old new) (put_prop p (overwrite old new)) (λ ps. list_all t ps ≡ true)
    (λ e. rest) (λ e. all_put t p (overwrite old new) m.0 rest)

all_folded : (t : List ℕ × Value → Bool) (old : List (List ℕ × Value)) (xs : List Event) → list_all t old ≡ true → AllByRecursion (λ x. list_all t (props_of x) ≡ true) xs → list_all t (fold (λ ps x. overwrite ps (props_of x)) old xs) ≡ true
all_folded t old [] h k = h
all_folded t old (x ∷ xs) h k = all_folded t (overwrite old (props_of x)) xs (all_overwrite t old (props_of x) h k.0) k.1

-- what is carried sets only what the events set
carried_sets_cases : (b : Bool) (t : List ℕ × Value → Bool) (e : Entity) (xs : List Event) → AllByRecursion (λ x. entity_of x ≡ e) xs → AllByRecursion (λ x. sets_only b t x ≡ true) xs
    → (other : Bool) → not (beq (is_node e) b) ≡ other → (other || list_all t (last_props xs)) ≡ true
carried_sets_cases b t e xs own h true k = refl
carried_sets_cases b t e xs own h false k =
    all_folded t [] xs refl (each_two (λ x. entity_of x ≡ e) (λ x. sets_only b t x ≡ true) (λ x. list_all t (props_of x) ≡ true)
    (λ x p q. subst (λ (s : Bool). (s || list_all t (props_of x)) ≡ true) (ap (λ z. not (beq (is_node z) b)) p ∙ k) q) xs own h)

carried_sets : (b : Bool) (t : List ℕ × Value → Bool) (lo : ℤ) (e : Entity) (xs : List Event) → AllByRecursion (λ x. entity_of x ≡ e) xs → AllByRecursion (λ x. sets_only b t x ≡ true) xs → AllByRecursion (λ x. sets_only b t x ≡ true) (carried_events lo xs)
carried_sets b t lo e [] own h = tt
carried_sets b t lo e (x ∷ xs) own h =
    let k = carried_sets_cases b t e (x ∷ xs) own h (not (beq (is_node e) b)) refl in
    let m : entity_of (record { time = lo; order = 0; what = update_of (entity_of x) (last_props (x ∷ xs)) }) ≡ e = subject-update_of (entity_of x) (last_props (x ∷ xs)) ∙ own.0 in
    let n = props-update_of (entity_of x) (last_props (x ∷ xs)) in
    (subst (λ (s : Bool). s ≡ true) (λ i. not (beq (is_node (sym m i)) b) || list_all t (sym n i)) k, tt)

each_all_carried : (b : Bool) (t : List ℕ × Value → Bool) (lo : ℤ) (early : List Event) → AllByRecursion (λ x. sets_only b t x ≡ true) early → AllByRecursion (λ x. sets_only b t x ≡ true) (all_carried lo early)
each_all_carried b t lo early h =
    each_flat_map (λ x. sets_only b t x ≡ true) (λ e. carried_events lo (live_events (about e early)))
    (λ e. carried_sets b t lo e (live_events (about e early))
    (each_live (λ x. entity_of x ≡ e) (about e early) (each_weaker (λ x. is_about e x ≡ true) (λ x. entity_of x ≡ e) (λ x p. sym (same_entity-exact e (entity_of x) p)) (about e early) (kept_pass (is_about e) early)))
    (each_live (λ x. sets_only b t x ≡ true) (about e early) (each_kept (λ x. sets_only b t x ≡ true) (is_about e) early h)))
    (entities early)

-- a window shows no property that its world does not have
each_window_list : (b : Bool) (t : List ℕ × Value → Bool) (model : Model) (i : Interval) (xs : List Event) → AllByRecursion (λ x. sets_only b t x ≡ true) xs → AllByRecursion (λ x. sets_only b t x ≡ true) (window_list model i xs)
each_window_list b t Instants i xs h = each_kept (λ x. sets_only b t x ≡ true) (is_within i) xs h
each_window_list b t Persistent i xs h =
    let parts = all_carried i.lo (filter (is_early i) xs) ++ filter (is_within i) xs in
    cond_both (is_empty i) [] (arrange parts) (AllByRecursion (λ x. sets_only b t x ≡ true)) (λ e. tt)
    (λ e. each_in_order event_cmp (λ x. sets_only b t x ≡ true) parts
    (each_append (λ x. sets_only b t x ≡ true) (all_carried i.lo (filter (is_early i) xs)) (filter (is_within i) xs)
    (each_all_carried b t i.lo (filter (is_early i) xs) (each_kept (λ x. sets_only b t x ≡ true) (is_early i) xs h))
    (each_kept (λ x. sets_only b t x ≡ true) (is_within i) xs h)))

typed_window_list : (model : Model) (i : Interval) (xs : List Event) → list_all (λ x. list_all (types_agree x) xs) xs ≡ true → list_all (λ x. list_all (types_agree x) (window_list model i xs)) (window_list model i xs) ≡ true
typed_window_list model i xs h =
    let ys = window_list model i xs in
    let column : list_all (λ y. list_all (λ x. types_agree x y) ys) xs ≡ true =
    all_pass (λ y. list_all (λ x. types_agree x y) ys) xs (each_weaker (λ y. list_all (λ x. types_agree x y) xs ≡ true) (λ y. list_all (λ x. types_agree x y) ys ≡ true)
    (λ y k. all_pass (λ x. types_agree x y) ys (each_window_list (is_node (entity_of y)) (λ p. list_all (agree p) (props_of y)) model i xs (each_passes (λ x. types_agree x y) xs k)))
    xs (each_passes (λ y. list_all (λ x. types_agree x y) xs) xs (all_swap types_agree xs xs h))) in
    all_pass (λ x. list_all (types_agree x) ys) ys (each_weaker (λ x. list_all (λ y. types_agree x y) xs ≡ true) (λ x. list_all (types_agree x) ys ≡ true)
    (λ x k. subst (λ (s : Bool). s ≡ true) (λ j. list_all (λ y. types_agree-sym y x j) ys)
    (all_pass (λ y. types_agree y x) ys (each_window_list (is_node (entity_of x)) (λ p. list_all (agree p) (props_of x)) model i xs
    (each_passes (λ y. types_agree y x) xs (subst (λ (s : Bool). s ≡ true) (λ j. list_all (λ y. types_agree-sym x y j) xs) k)))))
    ys (each_passes (λ x. list_all (λ y. types_agree x y) xs) ys (all_swap (λ y x. types_agree x y) xs ys column)))

carried_inside : (i : Interval) → is_empty i ≡ false → (xs : List Event) → AllByRecursion (λ x. is_within i x ≡ true) (carried_events i.lo xs)
carried_inside i e [] = tt
carried_inside i e (x ∷ xs) = (inside_test i i.lo (≤ℤ_refl i.lo) (not_empty i e), tt)

-- the events of a window are inside it
inside_window_list : (model : Model) (i : Interval) (xs : List Event) → AllByRecursion (λ x. is_within i x ≡ true) (window_list model i xs)
inside_window_list Instants i xs = kept_pass (is_within i) xs
inside_window_list Persistent i xs =
    let parts = all_carried i.lo (filter (is_early i) xs) ++ filter (is_within i) xs in
    cond_both (is_empty i) [] (arrange parts) (AllByRecursion (λ x. is_within i x ≡ true)) (λ e. tt)
    (λ e. each_in_order event_cmp (λ x. is_within i x ≡ true) parts
    (each_append (λ x. is_within i x ≡ true) (all_carried i.lo (filter (is_early i) xs)) (filter (is_within i) xs)
    (each_flat_map (λ x. is_within i x ≡ true) (λ b. carried_events i.lo (live_events (about b (filter (is_early i) xs)))) (λ b. carried_inside i e (live_events (about b (filter (is_early i) xs)))) (entities (filter (is_early i) xs)))
    (kept_pass (is_within i) xs)))

allowed_window_list : (model : Model) (i : Interval) (xs : List Event) → list_all (allows model) xs ≡ true → list_all (allows model) (window_list model i xs) ≡ true
allowed_window_list Instants i xs h = all_kept (allows Instants) (is_within i) xs h
allowed_window_list Persistent i xs h = always (window_list Persistent i xs)

carried_rising : (lo : ℤ) (xs : List Event) → AllByRecursion (λ x. KeysRise (props_of x)) xs → AllByRecursion (λ x. KeysRise (props_of x)) (carried_events lo xs)
carried_rising lo [] h = tt
carried_rising lo (x ∷ xs) h = (subst KeysRise (sym (props-update_of (entity_of x) (last_props (x ∷ xs)))) (KeysRise-last_props (x ∷ xs) h), tt)

-- the properties in a window rise by key
rising_window_list : (model : Model) (i : Interval) (xs : List Event) → AllByRecursion (λ x. KeysRise (props_of x)) xs → AllByRecursion (λ x. KeysRise (props_of x)) (window_list model i xs)
rising_window_list Instants i xs h = each_kept (λ x. KeysRise (props_of x)) (is_within i) xs h
rising_window_list Persistent i xs h =
    let early = filter (is_early i) xs in
    let parts = all_carried i.lo early ++ filter (is_within i) xs in
    cond_both (is_empty i) [] (arrange parts) (AllByRecursion (λ x. KeysRise (props_of x))) (λ e. tt)
    (λ e. each_in_order event_cmp (λ x. KeysRise (props_of x)) parts
    (each_append (λ x. KeysRise (props_of x)) (all_carried i.lo early) (filter (is_within i) xs)
    (each_flat_map (λ x. KeysRise (props_of x)) (λ b. carried_events i.lo (live_events (about b early)))
    (λ b. carried_rising i.lo (live_events (about b early)) (each_live (λ x. KeysRise (props_of x)) (about b early) (each_kept (λ x. KeysRise (props_of x)) (is_about b) early (each_kept (λ x. KeysRise (props_of x)) (is_early i) xs h)))) (entities early))
    (each_kept (λ x. KeysRise (props_of x)) (is_within i) xs h)))

pub IsLawful-window : (w : World) (a b : ℤ) → IsLawful w → IsLawful (window w a b)
IsLawful-window w a b h =
    let i = cut w.bounds a b in
    record {
      bounds = le_test i.lo i.hi (cut_ordered w.bounds a b);
      arranged = arranged_window_list w.model i w.events h.arranged;
      inside = all_pass (is_within i) (window_list w.model i w.events) (inside_window_list w.model i w.events);
      allowed = allowed_window_list w.model i w.events h.allowed;
      rising = rising_window_list w.model i w.events h.rising;
      typed = typed_window_list w.model i w.events h.typed;
      types_rise = types_in_rise (window_list w.model i w.events) w.types h.types_rise;
      types_named = types_in_named (window_list w.model i w.events) w.types;
    }

pub IsLawful-view : (w : World) (op : Op) → IsLawful w → IsLawful (view w op)
IsLawful-view w (Window a b) h = IsLawful-window w a b h
IsLawful-view w (At t) h = IsLawful-window w t (t +ℤ pos 1) h
IsLawful-view w (Before t) h = IsLawful-window w earliest t h
IsLawful-view w (After t) h = IsLawful-window w (t +ℤ pos 1) latest h
IsLawful-view w (Layers names) h = IsLawful-keep (in_layers names) w h
IsLawful-view w (ExcludeLayers names) h = IsLawful-keep (outside_layers names) w h
IsLawful-view w (Subgraph names) h = IsLawful-keep (among_nodes names) w h
IsLawful-view w (ExcludeNodes names) h = IsLawful-keep (apart_from_nodes names) w h
IsLawful-view w (EdgesWhere key c v) h = IsLawful-keep (edge_holds w key c v) w h
IsLawful-view w (NodesWhere key c v) h = IsLawful-keep (node_holds w key c v) w h
IsLawful-view w Valid h = IsLawful-keep (is_valid w) w h
IsLawful-view w (NodeTypes names) h = IsLawful-keep (among_types w.types names) w h

-- the world of a stack of views is lawful
pub IsLawful-apply : (ops : List Op) (w : World) → IsLawful w → IsLawful (apply ops w)
IsLawful-apply [] w h = h
IsLawful-apply (op ∷ ops) w h = IsLawful-apply ops (view w op) (IsLawful-view w op h)
