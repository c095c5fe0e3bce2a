-- Worlds that show what the accepted events say stay so under views.
use Rattle.std.proofs.Common.{◌≡◌, ℕ, ℤ, Bool, true, false, List, [], ◌∷◌, ◌++◌, cond, map, Some, None, refl, sym, ◌∙◌, ap, subst}
use Rattle.std.specs.Option.{option_map}
use Rattle.std.specs.List.{filter, find, list_any, last_or, flat_map, AllByRecursion}
use Rattle.std.proofs.lemmas.Bool.{cond_both, or_parts}
use Rattle.std.proofs.lemmas.List.{map-append}
use Rattle.std.proofs.lemmas.List.Folds.{list_any-append}
use Rattle.graph_model.specs.declared.properties.Value.{Value}
use Rattle.graph_model.specs.declared.events.EdgeName.{EdgeName}
use Rattle.graph_model.specs.declared.events.Entity.{Entity}
use Rattle.graph_model.specs.declared.events.Entity.TheVariants.{Node, Edge}
use Rattle.graph_model.specs.declared.events.Event.{Event}
use Rattle.graph_model.specs.declared.events.Model.{Model}
use Rattle.graph_model.specs.declared.events.Model.TheVariants.{Event as Instants, Persistent}
use Rattle.graph_model.specs.declared.queries.Op.{Op}
use Rattle.graph_model.specs.declared.queries.Op.TheVariants.{Window, At, Before, After, Layers, ExcludeLayers, Subgraph, ExcludeNodes, EdgesWhere, NodesWhere, Valid, NodeTypes}
use Rattle.graph_model.specs.Names.{same_name}
use Rattle.graph_model.specs.Interval.{Interval, cut, is_empty, earliest, latest}
use Rattle.graph_model.specs.Props.{KeysRise, prop_value}
use Rattle.graph_model.specs.Entity.{entity_of, is_node, is_about, about, props_of}
use Rattle.graph_model.specs.Compare.{live_events, last_value, value_of}
use Rattle.graph_model.specs.Accepting.{key_names}
use Rattle.graph_model.specs.World.{World, IsLawful, event_cmp, events_of}
use Rattle.graph_model.specs.Window.{window, carried_events, last_props, is_early, is_within, clip_list}
use Rattle.graph_model.specs.Keep.{keep, in_layers, outside_layers, among_nodes, apart_from_nodes, among_types, edge_holds, node_holds, is_valid}
use Rattle.graph_model.specs.Stack.{view, apply}
use Rattle.std.specs.Prelude.{pos, ◌+ℤ◌, not}
use Rattle.world_laws.proofs.Filters.{filter_again, each_kept, each_append}
use Rattle.world_laws.proofs.InOrder.{each_in_order}
use Rattle.world_laws.proofs.Listed.{about-arrange}
use Rattle.world_laws.proofs.ListItems.{no_images}
use Rattle.world_laws.proofs.Order.{same_entity-exact}
use Rattle.world_laws.proofs.Carried.{each_live, props-update_of}
use Rattle.world_laws.proofs.Named.{names_node-window_list, names_node-filter}
use Rattle.world_laws.proofs.Values.{last_props_value}
use Rattle.world_laws.proofs.Windows.{events_of-window}
use Rattle.graph_store.specs.Contents.{Contents, base_of}
use Rattle.view_trait.specs.Drawn.{LacksKey, IsDrawn}
use Rattle.view_trait.proofs.Shown.{IsShown-window, IsShown-keep, events_of-keep}
use Rattle.view_trait.specs.Meaning.{IsShown}

-- ---- keys that have no value

pub last_none : (key : List ℕ) (xs : List Event) → LacksKey key xs → last_value key xs ≡ None
last_none key xs h = ap (last_or None) (no_images (λ (x : Event). prop_value key (props_of x)) xs h)

-- an entity whose events give a key no value has none
pub value_none : (key : List ℕ) (xs : List Event) → LacksKey key xs → value_of key xs ≡ None
value_none key xs h = last_none key (live_events xs) (each_live (λ (x : Event). prop_value key (props_of x) ≡ None) xs h)

carried_lacks : (key : List ℕ) (lo : ℤ) (xs : List Event) → AllByRecursion (λ (x : Event). KeysRise (props_of x)) xs → LacksKey key xs → LacksKey key (carried_events lo xs)
carried_lacks key lo [] r h = tt
carried_lacks key lo (x ∷ xs) r h = (ap (prop_value key) (props-update_of (entity_of x) (last_props (x ∷ xs))) ∙ (last_props_value key (x ∷ xs) r ∙ last_none key (x ∷ xs) h), tt)

clip_lacks : (key : List ℕ) (model : Model) (i : Interval) (xs : List Event) → AllByRecursion (λ (x : Event). KeysRise (props_of x)) xs → LacksKey key xs → LacksKey key (clip_list model i xs)
clip_lacks key Instants i xs r h = each_kept (λ (x : Event). prop_value key (props_of x) ≡ None) (is_within i) xs h
clip_lacks key Persistent i xs r h =
    let lacks = λ (x : Event). prop_value key (props_of x) ≡ None in
    let rises = λ (x : Event). KeysRise (props_of x) in
    let early = filter (is_early i) xs in
    cond_both (is_empty i) [] (carried_events i.lo (live_events early) ++ filter (is_within i) xs) (LacksKey key) (λ e. tt)
    (λ e. each_append lacks (carried_events i.lo (live_events early)) (filter (is_within i) xs)
    (carried_lacks key i.lo (live_events early) (each_live rises early (each_kept rises (is_early i) xs r)) (each_live lacks early (each_kept lacks (is_early i) xs h)))
    (each_kept lacks (is_within i) xs h))

none_lacks : (key : List ℕ) (ps : List (List ℕ × Value)) → list_any (same_name key) (map (λ (p : List ℕ × Value). p.0) ps) ≡ false → prop_value key ps ≡ None
none_lacks key [] h = refl
none_lacks key (p ∷ ps) h = let k = or_parts (same_name key p.0) (list_any (same_name key) (map (λ (q : List ℕ × Value). q.0) ps)) h in first (same_name key p.0) k.0 (none_lacks key ps k.1)
  where
    first : (t : Bool) → t ≡ false → prop_value key ps ≡ None → option_map (λ (q : List ℕ × Value). q.1) (cond t (Some p) (find (λ (q : List ℕ × Value). same_name key q.0) ps)) ≡ None
    first true e rest = cc
    first false e rest = rest

-- what no key of events is has no value in them
lacks_unnamed : (key : List ℕ) (xs : List Event) → list_any (same_name key) (key_names xs) ≡ false → LacksKey key xs
lacks_unnamed key [] h = tt
lacks_unnamed key (x ∷ xs) h =
    let split = ap (list_any (same_name key)) (map-append (λ (p : List ℕ × Value). p.0) (props_of x) (flat_map props_of xs)) ∙ list_any-append (same_name key) (map (λ (p : List ℕ × Value). p.0) (props_of x)) (key_names xs) in
    let k = or_parts (list_any (same_name key) (map (λ (p : List ℕ × Value). p.0) (props_of x))) (list_any (same_name key) (key_names xs)) (sym split ∙ h) in
    (none_lacks key (props_of x) k.0, lacks_unnamed key xs k.1)

own_is_node : (name : List ℕ) (x : Event) → is_about (Node name) x ≡ true → is_node (entity_of x) ≡ true
own_is_node name x h = ap is_node (sym (same_entity-exact (Node name) (entity_of x) h))

own_is_edge : (edge : EdgeName) (x : Event) → is_about (Edge edge) x ≡ true → not (is_node (entity_of x)) ≡ true
own_is_edge edge x h = ap (λ e. not (is_node e)) (sym (same_entity-exact (Edge edge) (entity_of x) h))

base_lacks : (key : List ℕ) (e : Entity) (q : Event → Bool) (c : Contents) → ((x : Event) → is_about e x ≡ true → q x ≡ true) → list_any (same_name key) (key_names (filter q c.accepted)) ≡ false → LacksKey key (events_of (base_of c) e)
base_lacks key e q c own h =
    let lacks = λ (x : Event). prop_value key (props_of x) ≡ None in
    let some : LacksKey key (about e c.accepted) = subst (LacksKey key) (filter_again q (is_about e) own c.accepted) (each_kept lacks (is_about e) (filter q c.accepted) (lacks_unnamed key (filter q c.accepted) h)) in
    subst (LacksKey key) (sym (about-arrange e c.accepted)) (each_in_order event_cmp lacks (about e c.accepted) some)

-- ---- the base world, and what views leave of a world

pub IsDrawn-base : (c : Contents) → IsShown c (base_of c) → IsDrawn c (base_of c)
IsDrawn-base c h = record {
  shown = h;
  nodes = λ name e. e;
  node_keys = λ key name e. base_lacks key (Node name) (λ (x : Event). is_node (entity_of x)) c (own_is_node name) e;
  edge_keys = λ key edge e. base_lacks key (Edge edge) (λ (x : Event). not (is_node (entity_of x))) c (own_is_edge edge) e;
}

window_lacks : (key : List ℕ) (w : World) (a b : ℤ) (e : Entity) → IsLawful w → LacksKey key (events_of w e) → LacksKey key (events_of (window w a b) e)
window_lacks key w a b e h k =
    subst (LacksKey key) (sym (events_of-window w a b e h)) (clip_lacks key w.model (cut w.bounds a b) (events_of w e) (each_kept (λ (x : Event). KeysRise (props_of x)) (is_about e) w.events h.rising) k)

pub IsDrawn-window : (c : Contents) (w : World) (a b : ℤ) → IsDrawn c w → IsDrawn c (window w a b)
IsDrawn-window c w a b h = record {
  shown = IsShown-window c w a b h.shown;
  nodes = λ name e. h.nodes name (names_node-window_list w.model (cut w.bounds a b) w.events name e);
  node_keys = λ key name e. window_lacks key w a b (Node name) h.shown.lawful (h.node_keys key name e);
  edge_keys = λ key edge e. window_lacks key w a b (Edge edge) h.shown.lawful (h.edge_keys key edge e);
}

keep_lacks : (key : List ℕ) (p : Entity → Bool) (w : World) (e : Entity) → LacksKey key (events_of w e) → LacksKey key (events_of (keep p w) e)
keep_lacks key p w e h = subst (LacksKey key) (sym (events_of-keep p w e)) (cond_both (p e) (events_of w e) [] (LacksKey key) (λ t. h) (λ t. tt))

pub IsDrawn-keep : (p : Entity → Bool) (c : Contents) (w : World) → IsDrawn c w → IsDrawn c (keep p w)
IsDrawn-keep p c w h = record {
  shown = IsShown-keep p c w h.shown;
  nodes = λ name e. h.nodes name (names_node-filter (λ (x : Event). p (entity_of x)) w.events name e);
  node_keys = λ key name e. keep_lacks key p w (Node name) (h.node_keys key name e);
  edge_keys = λ key edge e. keep_lacks key p w (Edge edge) (h.edge_keys key edge e);
}

pub IsDrawn-view : (c : Contents) (w : World) (op : Op) → IsDrawn c w → IsDrawn c (view w op)
IsDrawn-view c w (Window a b) h = IsDrawn-window c w a b h
IsDrawn-view c w (At t) h = IsDrawn-window c w t (t +ℤ pos 1) h
IsDrawn-view c w (Before t) h = IsDrawn-window c w earliest t h
IsDrawn-view c w (After t) h = IsDrawn-window c w (t +ℤ pos 1) latest h
IsDrawn-view c w (Layers names) h = IsDrawn-keep (in_layers names) c w h
IsDrawn-view c w (ExcludeLayers names) h = IsDrawn-keep (outside_layers names) c w h
IsDrawn-view c w (Subgraph names) h = IsDrawn-keep (among_nodes names) c w h
IsDrawn-view c w (ExcludeNodes names) h = IsDrawn-keep (apart_from_nodes names) c w h
IsDrawn-view c w (EdgesWhere key cmp v) h = IsDrawn-keep (edge_holds w key cmp v) c w h
IsDrawn-view c w (NodesWhere key cmp v) h = IsDrawn-keep (node_holds w key cmp v) c w h
IsDrawn-view c w Valid h = IsDrawn-keep (is_valid w) c w h
IsDrawn-view c w (NodeTypes names) h = IsDrawn-keep (among_types w.types names) c w h

pub IsDrawn-apply : (c : Contents) (ops : List Op) (w : World) → IsDrawn c w → IsDrawn c (apply ops w)
IsDrawn-apply c [] w h = h
IsDrawn-apply c (op ∷ ops) w h = IsDrawn-apply c ops (view w op) (IsDrawn-view c w op h)
