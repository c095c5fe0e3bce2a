-- What ready views show is what the views show that they were made of.
use Rattle.std.proofs.Common.{◌≡◌, ℕ, ◌^◌, ◌<◌, Bool, true, false, not, ◌&&◌, List, [], ◌∷◌, ◌++◌, length, map, get_or, Option, Some, None, nat_lt, refl, sym, ◌∙◌, ap, subst, arith}
use Rattle.std.specs.Prelude.{is_some, position, slice_get}
use Rattle.std.specs.Int.{bit_not, w64}
use Rattle.std.specs.List.{list_any, list_all, AllByRecursion}
use Rattle.std.proofs.lemmas.Bool.{or_left, or_right}
use Rattle.std.proofs.lemmas.Bool.Decides.{nat_tests}
use Rattle.std.proofs.lemmas.List.{length-map}
use Rattle.std.proofs.lemmas.List.Quantifiers.{position-Some}
use Rattle.std.proofs.lemmas.Option.{get_or_from_slice_get}
use Rattle.graph_model.specs.declared.properties.Value.{Value}
use Rattle.graph_model.specs.declared.properties.ValueType.{ValueType}
use Rattle.graph_model.specs.declared.events.EdgeName.{EdgeName}
use Rattle.graph_model.specs.declared.events.Entity.{Entity}
use Rattle.graph_model.specs.declared.events.Entity.TheVariants.{Node, Edge}
use Rattle.graph_model.specs.declared.events.Event.{Event}
use Rattle.graph_model.specs.declared.queries.Cmp.{Cmp}
use Rattle.graph_model.specs.declared.queries.Op.{Op}
use Rattle.graph_model.specs.Names.{same_name}
use Rattle.graph_model.specs.Entity.{entity_of, is_about}
use Rattle.graph_model.specs.Compare.{value_of, holds}
use Rattle.graph_model.specs.Accepting.{key_names, node_events, edge_events}
use Rattle.graph_model.specs.World.{World, names_node, events_of, remake, types_in}
use Rattle.graph_model.specs.Keep.{keep, is_named, in_layers, outside_layers, among_nodes, apart_from_nodes, has_type, among_types, edge_holds, node_holds}
use Rattle.graph_model.specs.Stack.{view, apply}
use Rattle.world_laws.proofs.Filters.{filter_same, filter_again, each_weaker}
use Rattle.world_laws.proofs.Lawful.{each_passes}
use Rattle.world_laws.proofs.Listed.{each_any, has_event}
use Rattle.world_laws.proofs.Named.{among_types_same}
use Rattle.world_laws.proofs.Order.{same_name-exact, same_entity-refl}
use Rattle.world_laws.proofs.ListItems.{each_at}
use Rattle.graph_store.specs.EdgeParts.{parts_at}
use Rattle.graph_store.specs.Keys.{key_name}
use Rattle.graph_store.specs.Contents.{Contents, name_at, base_of}
use Rattle.graph_store.specs.Indexed.{IsIndexed}
use Rattle.view_trait.specs.declared.ready_ops.ReadyOp.{ReadyOp}
use Rattle.view_trait.specs.Meaning.{IsShown, knows}
use Rattle.view_trait.specs.Numbered.{has_bit, is_listed, layers_numbered, nodes_numbered, layer_world, node_world}
use Rattle.view_trait.specs.Filtered.{key_holds, edge_passes, node_passes, edge_filtered, node_filtered}
use Rattle.view_trait.specs.Ready.{ready_view, ready_apply}
use Rattle.view_trait.specs.Drawn.{LacksKey, IsDrawn, Selects}
use Rattle.view_trait.proofs.Pairs.{any_place, edge_number}
use Rattle.view_trait.proofs.Kept.{layer_chosen, node_chosen, layers_dropped}
use Rattle.view_trait.proofs.Drawn.{value_none}

-- ---- tests that agree on the events of a world

keep_same : (p q : Entity → Bool) (w : World) → AllByRecursion (λ (x : Event). p (entity_of x) ≡ q (entity_of x)) w.events → keep p w ≡ keep q w
keep_same p q w h = ap (remake w w.bounds) (filter_same (λ (x : Event). p (entity_of x)) (λ (x : Event). q (entity_of x)) w.events h)

pub keep_known : (p q : Entity → Bool) (c : Contents) (w : World) → IsShown c w → ((x : Entity) → knows c x ≡ true → p x ≡ q x) → keep p w ≡ keep q w
keep_known p q c w h same = keep_same p q w (each_weaker (λ (x : Event). knows c (entity_of x) ≡ true) (λ (x : Event). p (entity_of x) ≡ q (entity_of x)) (λ x k. same (entity_of x) k) w.events h.known)

-- ---- layers

same_layer : (c : Contents) (bits : ℕ) (names : List (List ℕ)) (edge : EdgeName) → IsIndexed c → Selects c.layers names (has_bit bits) → knows c (Edge edge) ≡ true → is_named (layers_numbered c bits) edge.layer ≡ is_named names edge.layer
same_layer c bits names edge h s k =
    let r = edge_number c edge k in
    let within = (h.within r.0 r.1).2 in
    subst (λ (e : EdgeName). is_named (layers_numbered c bits) e.layer ≡ is_named names e.layer) r.2 (layer_chosen c bits (parts_at c.edges r.0).layer h within ∙ s (parts_at c.edges r.0).layer within)

pub ready_layers : (c : Contents) (bits : ℕ) (names : List (List ℕ)) (w : World) → IsShown c w → Selects c.layers names (has_bit bits) → layer_world c bits w ≡ keep (in_layers names) w
ready_layers c bits names w h s = keep_known (in_layers (layers_numbered c bits)) (in_layers names) c w h same
  where
    same : (x : Entity) → knows c x ≡ true → in_layers (layers_numbered c bits) x ≡ in_layers names x
    same (Node name) k = refl
    same (Edge edge) k = same_layer c bits names edge h.indexed s k

pub ready_other_layers : (c : Contents) (bits : ℕ) (names : List (List ℕ)) (w : World) → bits < 2 ^ 64 → IsShown c w → Selects c.layers names (has_bit bits) → layer_world c (bit_not w64 bits) w ≡ keep (outside_layers names) w
ready_other_layers c bits names w few h s = layers_dropped c bits w few h ∙ keep_known (outside_layers (layers_numbered c bits)) (outside_layers names) c w h same
  where
    same : (x : Entity) → knows c x ≡ true → outside_layers (layers_numbered c bits) x ≡ outside_layers names x
    same (Node name) k = refl
    same (Edge edge) k = ap not (same_layer c bits names edge h.indexed s k)

-- ---- nodes

-- numbers that say of each node what a test of its name says
abbrev Tests : Contents → List ℕ → (List ℕ → Bool) → Type 0
Tests c numbers test = (n : ℕ) → n < length c.nodes → is_listed numbers n ≡ test (name_at c.nodes n)

same_node : (c : Contents) (numbers : List ℕ) (test : List ℕ → Bool) (name : List ℕ) → IsIndexed c → Tests c numbers test → knows c (Node name) ≡ true → is_named (nodes_numbered c numbers) name ≡ test name
same_node c numbers test name h s k =
    let r = any_place (same_name name) c.nodes [] k in
    let is : name ≡ name_at c.nodes r.0 = same_name-exact name (get_or c.nodes r.0 []) r.2 in
    subst (λ z. is_named (nodes_numbered c numbers) z ≡ test z) (sym is) (node_chosen c numbers r.0 h r.1 ∙ s r.0 r.1)

same_source : (c : Contents) (numbers : List ℕ) (test : List ℕ → Bool) (edge : EdgeName) → IsIndexed c → Tests c numbers test → knows c (Edge edge) ≡ true → is_named (nodes_numbered c numbers) edge.src ≡ test edge.src
same_source c numbers test edge h s k =
    let r = edge_number c edge k in
    let within = (h.within r.0 r.1).0 in
    subst (λ (e : EdgeName). is_named (nodes_numbered c numbers) e.src ≡ test e.src) r.2 (node_chosen c numbers (parts_at c.edges r.0).src h within ∙ s (parts_at c.edges r.0).src within)

same_destination : (c : Contents) (numbers : List ℕ) (test : List ℕ → Bool) (edge : EdgeName) → IsIndexed c → Tests c numbers test → knows c (Edge edge) ≡ true → is_named (nodes_numbered c numbers) edge.dst ≡ test edge.dst
same_destination c numbers test edge h s k =
    let r = edge_number c edge k in
    let within = (h.within r.0 r.1).1 in
    subst (λ (e : EdgeName). is_named (nodes_numbered c numbers) e.dst ≡ test e.dst) r.2 (node_chosen c numbers (parts_at c.edges r.0).dst h within ∙ s (parts_at c.edges r.0).dst within)

pub ready_nodes : (c : Contents) (numbers : List ℕ) (names : List (List ℕ)) (w : World) → IsShown c w → Selects c.nodes names (is_listed numbers) → node_world c true numbers w ≡ keep (among_nodes names) w
ready_nodes c numbers names w h s = keep_known (among_nodes (nodes_numbered c numbers)) (among_nodes names) c w h same
  where
    same : (x : Entity) → knows c x ≡ true → among_nodes (nodes_numbered c numbers) x ≡ among_nodes names x
    same (Node name) k = same_node c numbers (is_named names) name h.indexed s k
    same (Edge edge) k = let a = same_source c numbers (is_named names) edge h.indexed s k in let b = same_destination c numbers (is_named names) edge h.indexed s k in λ i. a i && b i

pub ready_other_nodes : (c : Contents) (numbers : List ℕ) (names : List (List ℕ)) (w : World) → IsShown c w → Selects c.nodes names (is_listed numbers) → node_world c false numbers w ≡ keep (apart_from_nodes names) w
ready_other_nodes c numbers names w h s = keep_known (apart_from_nodes (nodes_numbered c numbers)) (apart_from_nodes names) c w h same
  where
    same : (x : Entity) → knows c x ≡ true → apart_from_nodes (nodes_numbered c numbers) x ≡ apart_from_nodes names x
    same (Node name) k = ap not (same_node c numbers (is_named names) name h.indexed s k)
    same (Edge edge) k = let a = same_source c numbers (is_named names) edge h.indexed s k in let b = same_destination c numbers (is_named names) edge h.indexed s k in λ i. not (a i) && not (b i)

-- ---- types

each_has_event : (xs : List Event) → AllByRecursion (λ (x : Event). has_event (entity_of x) xs ≡ true) xs
each_has_event [] = tt
each_has_event (x ∷ xs) = (
  or_left (is_about (entity_of x) x) (has_event (entity_of x) xs) (same_entity-refl (entity_of x)),
  each_weaker (λ (y : Event). has_event (entity_of y) xs ≡ true) (λ (y : Event). has_event (entity_of y) (x ∷ xs) ≡ true) (λ y h. or_right (is_about (entity_of y) x) (has_event (entity_of y) xs) h) xs (each_has_event xs),
)

types_are : (c : Contents) (w : World) → IsDrawn c w → w.types ≡ types_in w.events c.types
types_are c w h = h.shown.types ∙ filter_again (λ (t : List ℕ × List ℕ). names_node (base_of c).events t.0) (λ (t : List ℕ × List ℕ). names_node w.events t.0) (λ t e. h.nodes t.0 e) c.types

types_of_store : (c : Contents) (names : List (List ℕ)) (w : World) → IsDrawn c w → keep (among_types w.types names) w ≡ keep (among_types c.types names) w
types_of_store c names w h =
    ap (λ ts. keep (among_types ts names) w) (types_are c w h)
    ∙ keep_same (among_types (types_in w.events c.types) names) (among_types c.types names) w
    (each_weaker (λ (x : Event). has_event (entity_of x) w.events ≡ true) (λ (x : Event). among_types (types_in w.events c.types) names (entity_of x) ≡ among_types c.types names (entity_of x)) (λ x k. among_types_same w.events c.types names (entity_of x) k) w.events (each_has_event w.events))

pub ready_types : (c : Contents) (numbers : List ℕ) (names : List (List ℕ)) (w : World) → IsDrawn c w → ((n : ℕ) → n < length c.nodes → is_listed numbers n ≡ has_type c.types names (name_at c.nodes n)) → node_world c true numbers w ≡ keep (among_types w.types names) w
ready_types c numbers names w h s = keep_known (among_nodes (nodes_numbered c numbers)) (among_types c.types names) c w h.shown same ∙ sym (types_of_store c names w h)
  where
    same : (x : Entity) → knows c x ≡ true → among_nodes (nodes_numbered c numbers) x ≡ among_types c.types names x
    same (Node name) k = same_node c numbers (has_type c.types names) name h.shown.indexed s k
    same (Edge edge) k = let a = same_source c numbers (has_type c.types names) edge h.shown.indexed s k in let b = same_destination c numbers (has_type c.types names) edge h.shown.indexed s k in λ i. a i && b i

-- ---- values

key_is : (keys : List (List ℕ × ValueType)) (key : List ℕ) (k : ℕ) → position (same_name key) (map (λ (p : List ℕ × ValueType). p.0) keys) ≡ Some k → (k < length keys) × (key_name keys k ≡ key)
key_is keys key k h =
    let names = map (λ (p : List ℕ × ValueType). p.0) keys in
    let r = position-Some (same_name key) names k [] h in
    let n = length-map keys (λ (p : List ℕ × ValueType). p.0) in
    let lt : k < length keys = (let a = r.0 in omega (arith, n, a)) in
    (lt, sym (same_name-exact key (get_or names k []) r.1))

same_value : (keys : List (List ℕ × ValueType)) (key : List ℕ) (number : Option ℕ) (cmp : Cmp) (v : Value) (xs : List Event) → number ≡ position (same_name key) (map (λ (p : List ℕ × ValueType). p.0) keys) → (number ≡ None → LacksKey key xs)
    → key_holds keys number cmp v xs ≡ holds (value_of key xs) cmp v
same_value keys key None cmp v xs is lack = sym (ap (λ o. holds o cmp v) (value_none key xs (lack refl)))
same_value keys key (Some k) cmp v xs is lack =
    let r = key_is keys key k (sym is) in
    let lt = r.0 in
    let t : nat_lt k (length keys) ≡ true = grind (arith, nat_tests, lt) in
    ap (λ b. b && holds (value_of (key_name keys k) xs) cmp v) t ∙ ap (λ n. holds (value_of n xs) cmp v) r.1

no_key : (number : Option ℕ) (known : Bool) → is_some number ≡ known → number ≡ None → known ≡ false
no_key number known h e = sym h ∙ ap is_some e

pub ready_edges : (c : Contents) (w : World) (key : List ℕ) (number : Option ℕ) (cmp : Cmp) (v : Value) → IsDrawn c w → number ≡ position (same_name key) (map (λ (p : List ℕ × ValueType). p.0) c.edge_keys) → is_some number ≡ list_any (same_name key) (key_names (edge_events c.accepted))
    → edge_filtered c w number cmp v ≡ keep (edge_holds w key cmp v) w
ready_edges c w key number cmp v h is known = keep_same (edge_passes c w number cmp v) (edge_holds w key cmp v) w (each_any (λ (x : Event). edge_passes c w number cmp v (entity_of x) ≡ edge_holds w key cmp v (entity_of x)) (λ x. same (entity_of x)) w.events)
  where
    same : (e : Entity) → edge_passes c w number cmp v e ≡ edge_holds w key cmp v e
    same (Node name) = refl
    same (Edge edge) = same_value c.edge_keys key number cmp v (events_of w (Edge edge)) is (λ none. h.edge_keys key edge (no_key number (list_any (same_name key) (key_names (edge_events c.accepted))) known none))

pub ready_filtered_nodes : (c : Contents) (w : World) (key : List ℕ) (number : Option ℕ) (cmp : Cmp) (v : Value) → IsDrawn c w → number ≡ position (same_name key) (map (λ (p : List ℕ × ValueType). p.0) c.node_keys) → is_some number ≡ list_any (same_name key) (key_names (node_events c.accepted))
    → node_filtered c w number cmp v ≡ keep (node_holds w key cmp v) w
ready_filtered_nodes c w key number cmp v h is known = keep_same (node_passes c w number cmp v) (node_holds w key cmp v) w (each_any (λ (x : Event). node_passes c w number cmp v (entity_of x) ≡ node_holds w key cmp v (entity_of x)) (λ x. same (entity_of x)) w.events)
  where
    of_node : (name : List ℕ) → key_holds c.node_keys number cmp v (events_of w (Node name)) ≡ holds (value_of key (events_of w (Node name))) cmp v
    of_node name = same_value c.node_keys key number cmp v (events_of w (Node name)) is (λ none. h.node_keys key name (no_key number (list_any (same_name key) (key_names (node_events c.accepted))) known none))

    same : (e : Entity) → node_passes c w number cmp v e ≡ node_holds w key cmp v e
    same (Node name) = of_node name
    same (Edge edge) = let a = of_node edge.src in let b = of_node edge.dst in λ i. a i && b i

-- ---- one view more

pub ready_apply-push : (c : Contents) (ops : List ReadyOp) (op : ReadyOp) (w : World) → ready_apply c (ops ++ op ∷ []) w ≡ ready_view c (ready_apply c ops w) op
ready_apply-push c [] op w = refl
ready_apply-push c (first ∷ ops) op w = ready_apply-push c ops op (ready_view c w first)

pub apply-push : (ops : List Op) (op : Op) (w : World) → apply (ops ++ op ∷ []) w ≡ view (apply ops w) op
apply-push [] op w = refl
apply-push (first ∷ ops) op w = apply-push ops op (view w first)

pub passes_at : {X : Type 0} (p : X → Bool) (xs : List X) (i : ℕ) (x : X) → list_all p xs ≡ true → i < length xs → slice_get xs i ≡ Some x → p x ≡ true
passes_at {X} p xs i x h lt is = subst (λ y. p y ≡ true) (get_or_from_slice_get xs i x x is) (each_at (λ (y : X). p y ≡ true) xs i x (each_passes p xs h) lt)
