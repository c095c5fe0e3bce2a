-- What a view shows of a world that can be printed can be printed.
use Rattle.std.proofs.Common.{◌≡◌, ◌<◌, ◌≤◌, ◌^◌, ◌&&◌, ◌≤ℤ◌, ◌<ℤ◌, ◌+ℤ◌, pos, ℕ, ℤ, Bool, true, false, List, [], ◌∷◌, ◌++◌, map, length, Option, None, Some, refl, sym, ◌∙◌, ap, subst, arith}
use Rattle.std.specs.Prelude.{IsTrue, int_le, int_lt}
use Rattle.std.specs.Int.{int_max, int_min}
use Rattle.std.specs.List.{AllByRecursion, Contains, filter, flat_map, fold, list_all, range_with_len}
use Rattle.std.specs.declared.cmp.Ordering.TheVariants.{Less}
use Rattle.std.proofs.lemmas.Bool.{and_from, and_parts, cond_both}
use Rattle.std.proofs.lemmas.Int.{clamps, ints}
use Rattle.std.proofs.lemmas.List.{length-map}
use Rattle.graph_model.specs.declared.properties.Value.{Value}
use Rattle.graph_model.specs.declared.events.Entity.{Entity}
use Rattle.graph_model.specs.declared.events.Entity.TheVariants.{Node, Edge}
use Rattle.graph_model.specs.declared.events.What.{What}
use Rattle.graph_model.specs.declared.events.What.TheVariants as what
use Rattle.graph_model.specs.declared.events.Event.{Event}
use Rattle.graph_model.specs.declared.events.Model.{Model}
use Rattle.graph_model.specs.declared.events.Model.TheVariants.{Event as Instants, Persistent}
use Rattle.graph_model.specs.declared.queries.Each.{Each}
use Rattle.graph_model.specs.declared.queries.Op.{Op}
use Rattle.graph_model.specs.declared.queries.Op.TheVariants.{Window, At, Before, After, Layers, ExcludeLayers, Subgraph, ExcludeNodes, EdgesWhere, NodesWhere, Valid, NodeTypes}
use Rattle.graph_model.specs.Accepting.{EdgeKeys, NodeKeys, distinct, edge_events, key_names, layer_names, layers_in, node_events}
use Rattle.graph_model.specs.Compare.{live_events}
use Rattle.graph_model.specs.Entity.{about, entities, entity_of, is_about, is_node, names_in, props_of, subject, update_of, what_props}
use Rattle.graph_model.specs.Interval.{Interval, cut, earliest, is_empty, is_inside, latest}
use Rattle.graph_model.specs.Keep.{keep, in_layers, outside_layers, among_nodes, apart_from_nodes, among_types, edge_holds, node_holds, is_valid}
use Rattle.graph_model.specs.Names.{name_cmp}
use Rattle.graph_model.specs.Props.{KeysRise, has_key, overwrite, put_prop}
use Rattle.graph_model.specs.Range.{is_bound, is_moment, op_in_range}
use Rattle.graph_model.specs.Rising.{Rises}
use Rattle.graph_model.specs.Stack.{apply, view}
use Rattle.graph_model.specs.Window.{all_carried, carried_events, is_early, is_within, last_props, window, window_list}
use Rattle.graph_model.specs.Windows.{bounded, last_time, window_count, window_end, window_start, windows, windows_from}
use Rattle.graph_model.specs.World.{IsLawful, World, arrange, event_cmp, names_node, remake, types_in}
use Rattle.world_laws.proofs.Carried.{each_live, props-update_of, subject-update_of}
use Rattle.world_laws.proofs.Counts.{length_filter_le, length_window_list}
use Rattle.world_laws.proofs.Filters.{each_append, each_flat_map, each_kept, each_two, each_weaker, kept_pass}
use Rattle.world_laws.proofs.InOrder.{each_in_order}
use Rattle.world_laws.proofs.Lawful.{IsLawful-keep, IsLawful-window, each_passes}
use Rattle.world_laws.proofs.Order.{same_entity-exact}
use Rattle.world_laws.proofs.Rows.{each_contained}
use Rattle.world_laws.proofs.Times.{cut_ordered, inside_hi, inside_lo, le_from_test, le_test, lt_from_test, lt_test}
use Rattle.event_rows.specs.Sayable.{IsSayable, IsSayableProp, IsSayableType, IsSayableWhat, are_bounds, is_edge_name}
use Rattle.graph_model.specs.TextForm.{is_name}
use Rattle.round_trip.specs.Printable.{IsPrintable}
use Rattle.world_laws.specs.Storable.{AreWithinLimits}
use Rattle.world_laws.proofs.Limits.{Among, IsIn, IsOf, IsTypeOf, each_mapped, each_own, each_own_type, rising_fewer, within_fewer}
use Rattle.round_trip.proofs.Sayings.{each-put}

-- ---- what is carried

each_overwritten : (R : List ℕ × Value → Type 0) (old new : List (List ℕ × Value)) → AllByRecursion R old → AllByRecursion R new → AllByRecursion R (overwrite old new)
each_overwritten R [] new h k = k
each_overwritten R (p ∷ old) new h k =
    let rest = each_overwritten R old new h.1 k in
    cond_both (has_key p.0 (overwrite old new)) (overwrite old new) (put_prop p (overwrite old new)) (AllByRecursion R) (λ e. rest) (λ e. each-put R p (overwrite old new) h.0 rest)

each_folded : (R : List ℕ × Value → Type 0) (old : List (List ℕ × Value)) (xs : List Event) → AllByRecursion R old → AllByRecursion (λ x. AllByRecursion R (props_of x)) xs → AllByRecursion R (fold (λ ps x. overwrite ps (props_of x)) old xs)
each_folded R old [] h k = h
each_folded R old (x ∷ xs) h k = each_folded R (overwrite old (props_of x)) xs (each_overwritten R old (props_of x) h k.0) k.1

-- the properties that are carried are among those of the events
each_last : (R : List ℕ × Value → Type 0) (xs : List Event) → AllByRecursion (λ x. AllByRecursion R (props_of x)) xs → AllByRecursion R (last_props xs)
each_last R xs h = each_folded R [] xs tt h

-- the event that stands for live events of an entity at a moment
abbrev carried_event : ℤ → Event → List Event → Event
carried_event lo x xs = record { time = lo; order = 0; what = update_of (entity_of x) (last_props (x ∷ xs)) }

-- what holds of an event that stands for others of which it holds
abbrev IsCarried : (Event → Type 0) → Type 0
IsCarried P = (lo : ℤ) (e : Entity) (x : Event) (xs : List Event) → AllByRecursion (λ y. entity_of y ≡ e) (x ∷ xs) → AllByRecursion P (x ∷ xs) → P (carried_event lo x xs)

each_carried : (P : Event → Type 0) → IsCarried P → (lo : ℤ) (e : Entity) (xs : List Event) → AllByRecursion (λ y. entity_of y ≡ e) xs → AllByRecursion P xs → AllByRecursion P (carried_events lo xs)
each_carried P over lo e [] own h = tt
each_carried P over lo e (x ∷ xs) own h = (over lo e x xs own h, tt)

-- holds of each event of a window
pub each_shown : (P : Event → Type 0) → IsCarried P → (model : Model) (i : Interval) (xs : List Event) → AllByRecursion P xs → AllByRecursion P (window_list model i xs)
each_shown P over Instants i xs h = each_kept P (is_within i) xs h
each_shown P over Persistent i xs h =
    let early = filter (is_early i) xs in
    let parts = all_carried i.lo early ++ filter (is_within i) xs in
    cond_both (is_empty i) [] (arrange parts) (AllByRecursion P) (λ e. tt)
    (λ e. each_in_order event_cmp P parts
    (each_append P (all_carried i.lo early) (filter (is_within i) xs)
    (each_flat_map P (λ b. carried_events i.lo (live_events (about b early)))
    (λ b. each_carried P over i.lo b (live_events (about b early))
    (each_live (λ x. entity_of x ≡ b) (about b early) (each_weaker (λ x. is_about b x ≡ true) (λ x. entity_of x ≡ b) (λ x p. sym (same_entity-exact b (entity_of x) p)) (about b early) (kept_pass (is_about b) early)))
    (each_live P (about b early) (each_kept P (is_about b) early (each_kept P (is_early i) xs h))))
    (entities early))
    (each_kept P (is_within i) xs h)))

-- the names and keys of a carried event are those of events
IsOf-carried_events : (ws : List Event) → IsCarried (IsOf ws)
IsOf-carried_events ws lo e x xs own h =
    let props = last_props (x ∷ xs) in
    let same : entity_of (carried_event lo x xs) ≡ entity_of x = subject-update_of (entity_of x) props in
    let kept : props_of (carried_event lo x xs) ≡ props = props-update_of (entity_of x) props in
    record {
      nodes = subst (λ z. Among (names_in z) (flat_map (λ (y : Event). names_in (entity_of y)) ws)) (sym same) h.0.nodes;
      layers = subst (λ z. Among (layers_in z) (layer_names ws)) (sym same) h.0.layers;
      node_keys = λ is. subst (AllByRecursion (λ (p : List ℕ × Value). IsIn (key_names (node_events ws)) p.0)) (sym kept)
          (each_last (λ (p : List ℕ × Value). IsIn (key_names (node_events ws)) p.0) (x ∷ xs)
          (each_two (λ y. entity_of y ≡ e) (IsOf ws) (λ y. AllByRecursion (λ (p : List ℕ × Value). IsIn (key_names (node_events ws)) p.0) (props_of y)) (λ y one k. k.node_keys (ap is_node (one ∙ (sym own.0 ∙ sym same)) ∙ is)) (x ∷ xs) own h));
      edge_keys = λ is. subst (AllByRecursion (λ (p : List ℕ × Value). IsIn (key_names (edge_events ws)) p.0)) (sym kept)
          (each_last (λ (p : List ℕ × Value). IsIn (key_names (edge_events ws)) p.0) (x ∷ xs)
          (each_two (λ y. entity_of y ≡ e) (IsOf ws) (λ y. AllByRecursion (λ (p : List ℕ × Value). IsIn (key_names (edge_events ws)) p.0) (props_of y)) (λ y one k. k.edge_keys (ap is_node (one ∙ (sym own.0 ∙ sym same)) ∙ is)) (x ∷ xs) own h));
    }

-- ---- what rows can say of an event but its time

abbrev is_sayable : Entity → Bool
is_sayable (Node name) = is_name name
is_sayable (Edge edge) = is_edge_name edge

record HasSayable (x : Event) : Type 0 where
  pub order : x.order < 2 ^ 32
  pub entity : IsTrue (is_sayable (entity_of x))
  pub props : AllByRecursion IsSayableProp (props_of x)

HasSayable-from : (bounds : Interval) (x : Event) → IsSayable bounds x → HasSayable x
HasSayable-from bounds x h = let (names_node, props) = parts x.what h.3 in record { order = h.2; entity = names_node; props = props }
  where
    parts : (w : What) → IsSayableWhat w → IsTrue (is_sayable (subject w)) × AllByRecursion IsSayableProp (what_props w)
    parts (what.Node name props) k = (k.0, k.1.2)
    parts (what.Add edge props) k = (k.0, k.1.2)
    parts (what.Delete edge) k = (k, tt)

HasSayable-carried_events : IsCarried HasSayable
HasSayable-carried_events lo e x xs own h =
    let props = last_props (x ∷ xs) in
    record {
      order = omega arith;
      entity = subst (λ z. IsTrue (is_sayable z)) (sym (subject-update_of (entity_of x) props)) h.0.entity;
      props = subst (AllByRecursion IsSayableProp) (sym (props-update_of (entity_of x) props)) (each_last IsSayableProp (x ∷ xs) (each_weaker HasSayable (λ y. AllByRecursion IsSayableProp (props_of y)) (λ y k. k.props) (x ∷ xs) h));
    }

sayable_what : (w : What) → IsTrue (is_sayable (subject w)) → KeysRise (what_props w) → length (what_props w) ≤ 256 → AllByRecursion IsSayableProp (what_props w) → IsSayableWhat w
sayable_what (what.Node name props) names_node rise few each = (names_node, (rise, few, each))
sayable_what (what.Add edge props) names_node rise few each = (names_node, (rise, few, each))
sayable_what (what.Delete edge) names_node rise few each = names_node

-- ---- how many properties an event has

keys_rise : (ps : List (List ℕ × Value)) → KeysRise ps → Rises name_cmp (map (λ (p : List ℕ × Value). p.0) ps)
keys_rise [] h = tt
keys_rise (p ∷ ps) h = (each p ps h.0, keys_rise ps h.1)
  where
    each : (p : List ℕ × Value) (ps : List (List ℕ × Value)) → AllByRecursion (λ (q : List ℕ × Value). name_cmp p.0 q.0 ≡ Less) ps → AllByRecursion (λ key. name_cmp p.0 key ≡ Less) (map (λ (q : List ℕ × Value). q.0) ps)
    each p [] k = tt
    each p (q ∷ ps) k = (k.0, each p ps k.1)

few_keys : (ps : List (List ℕ × Value)) (keys : List (List ℕ)) → KeysRise ps → AllByRecursion (λ (p : List ℕ × Value). IsIn keys p.0) ps → distinct keys ≤ 256 → length ps ≤ 256
few_keys ps keys rise each few =
    let size = length-map ps (λ (p : List ℕ × Value). p.0) in
    let fewer = rising_fewer (map (λ (p : List ℕ × Value). p.0) ps) keys (keys_rise ps rise) (each_mapped (λ (p : List ℕ × Value). p.0) keys ps each) in
    omega (arith, size, fewer, few)

-- an event has no more properties than there are keys of its kind
few_props : (xs : List Event) (ts : List (List ℕ × List ℕ)) (x : Event) → AreWithinLimits xs ts → IsOf xs x → KeysRise (props_of x) → length (props_of x) ≤ 256
few_props xs ts x within own rise = by (is_node (entity_of x)) refl
  where
    by : (b : Bool) → is_node (entity_of x) ≡ b → length (props_of x) ≤ 256
    by true is = few_keys (props_of x) (key_names (node_events xs)) rise (own.node_keys is) (within NodeKeys)
    by false is = few_keys (props_of x) (key_names (edge_events xs)) rise (own.edge_keys is) (within EdgeKeys)

-- ---- times

inside_moment : (i : Interval) (t : ℤ) → IsTrue (are_bounds i) → is_inside i t ≡ true → is_moment t ≡ true
inside_moment i t bounds inside =
    let (low, more) = and_parts (int_le earliest i.lo) (int_le i.lo i.hi && int_le i.hi latest) bounds in
    let (order, high) = and_parts (int_le i.lo i.hi) (int_le i.hi latest) more in
    let a = le_from_test earliest i.lo low in
    let b = le_from_test i.hi latest high in
    let c = inside_lo i t inside in
    let d = inside_hi i t inside in
    and_from (int_le earliest t) (int_lt t latest) (le_test earliest t (trans earliest i.lo t a c)) (lt_test t latest (before t i.hi latest d b))
  where
    trans : (x y z : ℤ) → x ≤ℤ y → y ≤ℤ z → x ≤ℤ z
    trans x y z h k = omega (arith, ints)

    before : (x y z : ℤ) → x <ℤ y → y ≤ℤ z → x <ℤ z
    before x y z h k = omega (arith, ints)

-- a part of bounds that begins in range is bounds
cut_bounds : (i : Interval) (a b : ℤ) → IsTrue (are_bounds i) → a ≤ℤ latest → IsTrue (are_bounds (cut i a b))
cut_bounds i a b bounds begins =
    let (low, more) = and_parts (int_le earliest i.lo) (int_le i.lo i.hi && int_le i.hi latest) bounds in
    let (order, high) = and_parts (int_le i.lo i.hi) (int_le i.hi latest) more in
    let first = le_from_test earliest i.lo low in
    let middle = le_from_test i.lo i.hi order in
    let last = le_from_test i.hi latest high in
    and_from (int_le earliest (cut i a b).lo) (int_le (cut i a b).lo (cut i a b).hi && int_le (cut i a b).hi latest) (le_test earliest (cut i a b).lo (above earliest i.lo a first))
    (and_from (int_le (cut i a b).lo (cut i a b).hi) (int_le (cut i a b).hi latest) (le_test (cut i a b).lo (cut i a b).hi (cut_ordered i a b)) (le_test (cut i a b).hi latest (below latest i.lo i.hi a b middle last begins)))
  where
    above : (e lo a : ℤ) → e ≤ℤ lo → e ≤ℤ int_max lo a
    above e lo a h = omega (arith, ints, clamps)

    below : (l lo hi a b : ℤ) → lo ≤ℤ hi → hi ≤ℤ l → a ≤ℤ l → int_max (int_max lo a) (int_min hi b) ≤ℤ l
    below l lo hi a b h k m = omega (arith, ints, clamps)

-- ---- a world made of another

-- what is so of events that a view shows
record AreShown (w : World) (xs : List Event) : Type 0 where
  pub few : length xs ≤ length w.events
  pub own : AllByRecursion (IsOf w.events) xs
  pub sayable : AllByRecursion HasSayable xs

events_sayable : (w : World) (bounds : Interval) (xs : List Event) → AreWithinLimits w.events w.types → IsTrue (are_bounds bounds) → AllByRecursion (λ x. is_inside bounds x.time ≡ true) xs → AllByRecursion (λ x. KeysRise (props_of x)) xs
    → AllByRecursion (IsOf w.events) xs → AllByRecursion HasSayable xs → AllByRecursion (IsSayable bounds) xs
events_sayable w bounds [] within is inside rise own sayable = tt
events_sayable w bounds (x ∷ xs) within is inside rise own sayable = (
  (inside_moment bounds x.time is inside.0, inside.0, sayable.0.order, sayable_what x.what sayable.0.entity rise.0 (few_props w.events w.types x within own.0 rise.0) sayable.0.props),
  events_sayable w bounds xs within is inside.1 rise.1 own.1 sayable.1,
)

remade : (w : World) (bounds : Interval) (xs : List Event) → IsPrintable w → IsLawful (remake w bounds xs) → IsTrue (are_bounds bounds) → AreShown w xs → IsPrintable (remake w bounds xs)
remade w bounds xs h lawful is shown = record {
  storable = record { lawful = lawful; limits = within_fewer w.events w.types xs (types_in xs w.types) h.storable.limits shown.few shown.own (each_kept (IsTypeOf w.types) (λ (t : List ℕ × List ℕ). names_node xs t.0) w.types (each_own_type w.types)) };
  bounds = is;
  types = each_kept IsSayableType (λ (t : List ℕ × List ℕ). names_node xs t.0) w.types h.types;
  events = events_sayable w bounds xs h.storable.limits is (each_passes (λ x. is_inside bounds x.time) xs lawful.inside) lawful.rising shown.own shown.sayable;
}

all_sayable : (w : World) → IsPrintable w → AllByRecursion HasSayable w.events
all_sayable w h = each_weaker (IsSayable w.bounds) HasSayable (λ x k. HasSayable-from w.bounds x k) w.events h.events

pub keep_printable : (p : Entity → Bool) (w : World) → IsPrintable w → IsPrintable (keep p w)
keep_printable p w h =
    let t : Event → Bool = λ x. p (entity_of x) in
    remade w w.bounds (filter t w.events) h (IsLawful-keep p w h.storable.lawful) h.bounds (record { few = length_filter_le t w.events; own = each_kept (IsOf w.events) t w.events (each_own w.events); sayable = each_kept HasSayable t w.events (all_sayable w h) })

pub window_printable : (w : World) (a b : ℤ) → a ≤ℤ latest → IsPrintable w → IsPrintable (window w a b)
window_printable w a b begins h =
    let i = cut w.bounds a b in
    remade w i (window_list w.model i w.events) h (IsLawful-window w a b h.storable.lawful) (cut_bounds w.bounds a b h.bounds begins)
    (record { few = length_window_list w.model i w.events; own = each_shown (IsOf w.events) (IsOf-carried_events w.events) w.model i w.events (each_own w.events); sayable = each_shown HasSayable HasSayable-carried_events w.model i w.events (all_sayable w h) })

-- ---- views, stacks and windows

bound_below : (t : ℤ) → is_bound t ≡ true → t ≤ℤ latest
bound_below t h = le_from_test t latest (and_parts (int_le earliest t) (int_le t latest) h).1

moment_below : (t : ℤ) → is_moment t ≡ true → t <ℤ latest
moment_below t h = lt_from_test t latest (and_parts (int_le earliest t) (int_lt t latest) h).1

no_more : (t u : ℤ) → t <ℤ u → t ≤ℤ u
no_more t u h = omega (arith, ints)

one_more : (t u : ℤ) → t <ℤ u → (t +ℤ pos 1) ≤ℤ u
one_more t u h = omega (arith, ints)

pub view_printable : (w : World) (op : Op) → op_in_range op ≡ true → IsPrintable w → IsPrintable (view w op)
view_printable w (Window a b) r h = window_printable w a b (bound_below a (and_parts (is_bound a) (is_bound b) r).0) h
view_printable w (At t) r h = window_printable w t (t +ℤ pos 1) (no_more t latest (moment_below t r)) h
view_printable w (Before t) r h = window_printable w earliest t (le_from_test earliest latest refl) h
view_printable w (After t) r h = window_printable w (t +ℤ pos 1) latest (one_more t latest (moment_below t r)) h
view_printable w (Layers names) r h = keep_printable (in_layers names) w h
view_printable w (ExcludeLayers names) r h = keep_printable (outside_layers names) w h
view_printable w (Subgraph names) r h = keep_printable (among_nodes names) w h
view_printable w (ExcludeNodes names) r h = keep_printable (apart_from_nodes names) w h
view_printable w (EdgesWhere key c v) r h = keep_printable (edge_holds w key c v) w h
view_printable w (NodesWhere key c v) r h = keep_printable (node_holds w key c v) w h
view_printable w Valid r h = keep_printable (is_valid w) w h
view_printable w (NodeTypes names) r h = keep_printable (among_types w.types names) w h

pub stack_printable : (w : World) (ops : List Op) → list_all op_in_range ops ≡ true → IsPrintable w → IsPrintable (apply ops w)
stack_printable w [] r h = h
stack_printable w (op ∷ ops) r h = let (one, more) = and_parts (op_in_range op) (list_all op_in_range ops) r in stack_printable (view w op) ops more (view_printable w op one h)

bounded_below : (t : ℤ) → bounded t ≤ℤ latest
bounded_below t = below earliest latest t (le_from_test earliest latest refl)
  where
    below : (e l t : ℤ) → e ≤ℤ l → int_max e (int_min t l) ≤ℤ l
    below e l t h = omega (arith, ints, clamps)

windows_at : (w : World) (each : Each) (first : ℤ) (ks : List ℕ) → IsPrintable w → AllByRecursion IsPrintable (map (λ k. window w (bounded (window_start each first k)) (bounded (window_end each first k))) ks)
windows_at w each first [] h = tt
windows_at w each first (k ∷ ks) h = (window_printable w (bounded (window_start each first k)) (bounded (window_end each first k)) (bounded_below (window_start each first k)) h, windows_at w each first ks h)

windows_printable_from : (w : World) (each : Each) (xs : List Event) → IsPrintable w → AllByRecursion IsPrintable (windows_from w each xs)
windows_printable_from w each [] h = tt
windows_printable_from w each (x ∷ xs) h = windows_at w each x.time (range_with_len 0 (window_count each x.time (last_time x.time xs))) h

pub windows_printable : (w v : World) (each : Option Each) → IsPrintable w → Contains (windows w each) v → IsPrintable v
windows_printable w v None h k = each_contained IsPrintable (w ∷ []) v (h, tt) k
windows_printable w v (Some each) h k = each_contained IsPrintable (windows_from w each w.events) v (windows_printable_from w each w.events h) k
