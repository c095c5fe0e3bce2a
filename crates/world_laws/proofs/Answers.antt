-- The answers to the questions that need no walk.
use Rattle.std.proofs.Common.{◌≡◌, ℕ, suc, zero, ◌+◌, ◌<◌, ℤ, add-zero, zero-add, Bool, true, false, ◌||◌, List, [], ◌∷◌, map, Option, Some, None, inl, inr, refl, sym, ◌∙◌, ap, subst, arith}
use Rattle.std.specs.Prelude.{◌↔◌, slice_get, codes, IsTrue}
use Rattle.std.specs.List.{Contains, AllByRecursion, list_any}
use Rattle.std.specs.declared.cmp.Ordering.{Ordering}
use Rattle.std.specs.declared.cmp.Ordering.TheVariants.{Less, Equal, Greater}
use Rattle.std.specs.Cmp.{nat_cmp_is}
use Rattle.std.specs.Ordering.{nat_cmp, ordering_then}
use Rattle.std.proofs.lemmas.Bool.{or_left, or_right, true≢false}
use Rattle.graph_model.specs.declared.properties.Value.{Value}
use Rattle.graph_model.specs.declared.events.EdgeName.{EdgeName}
use Rattle.graph_model.specs.declared.events.Entity.TheVariants.{Node, Edge}
use Rattle.graph_model.specs.declared.events.Event.{Event}
use Rattle.graph_model.specs.declared.queries.Ask.{Ask}
use Rattle.graph_model.specs.declared.queries.Ask.TheVariants.{Nodes, Edges, Events, Degree, NodeHistory, EdgeHistory, NodeValue, EdgeValue, EdgeAlive}
use Rattle.graph_model.specs.Rising.{Rises}
use Rattle.graph_model.specs.Names.{name_cmp, same_name}
use Rattle.graph_model.specs.Entity.{edge_cmp, same_edge}
use Rattle.graph_model.specs.World.{World, events_of}
use Rattle.graph_model.specs.Compare.{value_of}
use Rattle.graph_model.specs.Presence.{node_present, nodes, edges, alive_at}
use Rattle.graph_model.specs.Answer.{Row, NodeRow, EdgeRow, MomentRow, ValueRow, AliveRow, row_cmp, RowsRise, IsFact, AreTheFacts, IsAnswer, degree_row, extent_row, edge_kind, history_rows, value_rows}
use Rattle.world_laws.proofs.Order.{same_name-refl, same_name-exact, same_edge-exact, same_edge-refl}
use Rattle.world_laws.proofs.Rows.{contains_cases, contains_first, contains_later, contains_none}
use Rattle.world_laws.proofs.Filters.{each_weaker}
use Rattle.world_laws.proofs.ListItems.{each_map}
use Rattle.world_laws.proofs.Members.{nodes_has, nodes_rise, edges_has, edges_rise}

pub Rises-map : {X Y : Type 0} (cmp : X → X → Ordering) (cmp' : Y → Y → Ordering) (f : X → Y) → ((x y : X) → cmp x y ≡ Less → cmp' (f x) (f y) ≡ Less) → (xs : List X) → Rises cmp xs → Rises cmp' (map f xs)
Rises-map cmp cmp' f k [] h = tt
Rises-map cmp cmp' f k (x ∷ xs) h = (each_map (λ y. cmp' (f x) y ≡ Less) f xs (each_weaker (λ y. cmp x y ≡ Less) (λ y. cmp' (f x) (f y) ≡ Less) (k x) xs h.0), Rises-map cmp cmp' f k xs h.1)

pub contains_map : {X Y : Type 0} (f : X → Y) (xs : List X) (y : Y) → Contains (map f xs) y → (x : X) × Contains xs x × (y ≡ f x)
contains_map f [] y c = absurd (contains_none y c)
contains_map f (x ∷ xs) y c = elim (contains_cases (f x) (map f xs) y c) [
  | inl e ↦ (x, contains_first x xs, sym e)
  | inr d ↦ let r = contains_map f xs y d in (r.0, contains_later x xs r.0 r.1, r.2)
]

pub map_contains : {X Y : Type 0} (f : X → Y) (xs : List X) (x : X) → Contains xs x → Contains (map f xs) (f x)
map_contains f [] x c = absurd (contains_none x c)
map_contains f (y ∷ ys) x c = elim (contains_cases y ys x c) [
  | inl e ↦ subst (λ z. Contains (map f (y ∷ ys)) (f z)) e (contains_first (f y) (map f ys))
  | inr d ↦ contains_later (f y) (map f ys) (f x) (map_contains f ys x d)
]

pub any_contained : {X : Type 0} (p : X → Bool) (xs : List X) (x : X) → Contains xs x → p x ≡ true → list_any p xs ≡ true
any_contained p [] x c h = absurd (contains_none x c)
any_contained p (y ∷ ys) x c h = elim (contains_cases y ys x c) [
  | inl e ↦ or_left (p y) (list_any p ys) (ap p e ∙ h)
  | inr d ↦ or_right (p y) (list_any p ys) (any_contained p ys x d h)
]

pub contained_any : {X : Type 0} (p : X → Bool) (x : X) → ((y : X) → p y ≡ true → x ≡ y) → (xs : List X) → list_any p xs ≡ true → Contains xs x
contained_any p x exact [] h = absurd (true≢false (sym h))
contained_any p x exact (y ∷ ys) h = step (contained_any p x exact ys) (p y) refl h
  where
    step : (list_any p ys ≡ true → Contains ys x) → (t : Bool) → p y ≡ t → (t || list_any p ys) ≡ true → Contains (y ∷ ys) x
    step f true e h = subst (λ z. Contains (y ∷ ys) z) (sym (exact y e)) (contains_first y ys)
    step f false e h = contains_later y ys x (f h)

pub less_then : (o : Ordering) → o ≡ Less → ordering_then (ordering_then o Equal) (nat_cmp 0 0) ≡ Less
less_then o h = ap (λ p. ordering_then (ordering_then p Equal) (nat_cmp 0 0)) h

-- one row for each present node
node_rows : (w : World) (f : List ℕ → Row) (row : Row) → Contains (map f (nodes w)) row ↔ ((node : List ℕ) × IsTrue (node_present w node) × (row ≡ f node))
node_rows w f row = (
  λ c. let r = contains_map f (nodes w) row c in (r.0, sym (nodes_has w r.0) ∙ any_contained (same_name r.0) (nodes w) r.0 r.1 (same_name-refl r.0), r.2),
  λ r. subst (λ z. Contains (map f (nodes w)) z) (sym r.2) (map_contains f (nodes w) r.0 (contained_any (same_name r.0) r.0 (same_name-exact r.0) (nodes w) (nodes_has w r.0 ∙ r.1))),
)

pub answer_nodes : (w : World) → IsAnswer w Nodes (map NodeRow (nodes w))
answer_nodes w = record { rise = Rises-map name_cmp row_cmp NodeRow (λ x y. less_then (name_cmp x y)) (nodes w) (nodes_rise w); exact = node_rows w NodeRow }

pub answer_degree : (w : World) → IsAnswer w Degree (map (degree_row w) (nodes w))
answer_degree w = record { rise = Rises-map name_cmp row_cmp (degree_row w) (λ x y. less_then (name_cmp x y)) (nodes w) (nodes_rise w); exact = node_rows w (degree_row w) }

-- a question with one fact
one_row : (w : World) (ask : Ask) (row : Row) → ((r : Row) → (r ≡ row) ↔ IsFact w ask r) → AreTheFacts w ask (row ∷ [])
one_row w ask row same = record {
  rise = (tt, tt);
  exact = λ r. (λ c. elim (contains_cases row [] r c) [ inl e ↦ (same r).0 (sym e) | inr d ↦ absurd (contains_none r d) ], λ h. subst (λ z. Contains (row ∷ []) z) (sym ((same r).1 h)) (contains_first row []));
}

-- a question with none
no_row : (w : World) (ask : Ask) → ((r : Row) → IsFact w ask r → ⊥) → AreTheFacts w ask []
no_row w ask none = record { rise = tt; exact = λ r. (λ c. absurd (contains_none r c), λ h. absurd (none r h)) }

pub answer_events : (w : World) → IsAnswer w Events (extent_row w.events ∷ [])
answer_events w = one_row w Events (extent_row w.events) (λ row. (λ h. h, λ h. h))

pub answer_alive : (w : World) (edge : EdgeName) (m : ℤ) → IsAnswer w (EdgeAlive edge m) (AliveRow (alive_at w edge m) ∷ [])
answer_alive w edge m = one_row w (EdgeAlive edge m) (AliveRow (alive_at w edge m)) (λ row. (λ h. h, λ h. h))

value_facts : (w : World) (ask : Ask) (o : Option Value) → ((row : Row) → IsFact w ask row ↔ ((v : Value) × (o ≡ Some v) × (row ≡ ValueRow v))) → AreTheFacts w ask (value_rows o)
value_facts w ask None same = no_row w ask (λ row h. let e = ((same row).0 h).1 in cc)
value_facts w ask (Some v) same = one_row w ask (ValueRow v) (λ row. (λ e. (same row).1 (v, refl, e), λ h. let r = (same row).0 h in let e : v ≡ r.0 = cc_some r.1 in r.2 ∙ ap ValueRow (sym e)))
  where
    cc_some : {u : Value} → Some v ≡ Some u → v ≡ u
    cc_some e = cc

pub answer_node_value : (w : World) (node key : List ℕ) → IsAnswer w (NodeValue node key) (value_rows (value_of key (events_of w (Node node))))
answer_node_value w node key = value_facts w (NodeValue node key) (value_of key (events_of w (Node node))) (λ row. (λ h. h, λ h. h))

pub answer_edge_value : (w : World) (edge : EdgeName) (key : List ℕ) → IsAnswer w (EdgeValue edge key) (value_rows (value_of key (events_of w (Edge edge))))
answer_edge_value w edge key = value_facts w (EdgeValue edge key) (value_of key (events_of w (Edge edge))) (λ row. (λ h. h, λ h. h))

-- one row for each present edge
edge_less : (x y : EdgeName) → edge_cmp x y ≡ Less → row_cmp (EdgeRow x) (EdgeRow y) ≡ Less
edge_less x y h = step (name_cmp x.src y.src) (name_cmp x.dst y.dst) (name_cmp x.layer y.layer) h
  where
    step : (a b c : Ordering) → ordering_then a (ordering_then b c) ≡ Less → ordering_then (ordering_then a (ordering_then b (ordering_then c Equal))) (nat_cmp 0 0) ≡ Less
    step Less b c h = refl
    step Equal Less c h = refl
    step Equal Equal Less h = refl
    step Equal Equal Equal h = cc
    step Equal Equal Greater h = cc
    step Equal Greater c h = cc
    step Greater b c h = cc

pub answer_edges : (w : World) → IsAnswer w Edges (map EdgeRow (edges w))
answer_edges w = record {
  rise = Rises-map edge_cmp row_cmp EdgeRow edge_less (edges w) (edges_rise w);
  exact = λ row. (
    λ c. let r = contains_map EdgeRow (edges w) row c in (r.0, sym (edges_has w r.0) ∙ any_contained (same_edge r.0) (edges w) r.0 r.1 (same_edge-refl r.0), r.2),
    λ r. subst (λ z. Contains (map EdgeRow (edges w)) z) (sym r.2) (map_contains EdgeRow (edges w) r.0 (contained_any (same_edge r.0) r.0 (same_edge-exact r.0) (edges w) (edges_has w r.0 ∙ r.1))),
  );
}

-- ---- histories

history_places : (kind : Event → List ℕ) (j k : ℕ) (t : ℤ) (bs : List ℕ) (xs : List Event) → j < k → AllByRecursion (λ row. row_cmp (MomentRow j t bs) row ≡ Less) (history_rows kind k xs)
history_places kind j k t bs [] h = tt
history_places kind j k t bs (x ∷ xs) h = (ap (ordering_then Equal) (sym (nat_cmp_is j k Less h)), history_places kind j (suc k) t bs xs (omega arith))

history_rise : (kind : Event → List ℕ) (k : ℕ) (xs : List Event) → RowsRise (history_rows kind k xs)
history_rise kind k [] = tt
history_rise kind k (x ∷ xs) = (history_places kind k (suc k) x.time (kind x) xs (omega arith), history_rise kind (suc k) xs)

history_exact : (kind : Event → List ℕ) (k : ℕ) (xs : List Event) (row : Row) → Contains (history_rows kind k xs) row → (j : ℕ) × ((x : Event) × (slice_get xs j ≡ Some x) × (row ≡ MomentRow (k + j) x.time (kind x)))
history_exact kind k [] row c = absurd (contains_none row c)
history_exact kind k (x ∷ xs) row c = elim (contains_cases (MomentRow k x.time (kind x)) (history_rows kind (suc k) xs) row c) [
  | inl e ↦ (0, (x, refl, sym e ∙ ap (λ n. MomentRow n x.time (kind x)) (omega arith)))
  | inr d ↦ let r = history_exact kind (suc k) xs row d in (suc r.0, (r.1.0, r.1.1, r.1.2 ∙ ap (λ n. MomentRow n r.1.0.time (kind r.1.0)) (omega arith)))
]

history_has : (kind : Event → List ℕ) (k j : ℕ) (xs : List Event) (x : Event) → slice_get xs j ≡ Some x → Contains (history_rows kind k xs) (MomentRow (k + j) x.time (kind x))
history_has kind k j [] x e = absurd (none_some e)
  where
    none_some : {x : Event} → None ≡ Some x → ⊥
    none_some e = cc
history_has kind k zero (y ∷ ys) x e =
    let s : y ≡ x = some_same e in
    subst (λ row. Contains (history_rows kind k (y ∷ ys)) row) (ap (λ n. MomentRow n y.time (kind y)) (sym (add-zero k)) ∙ ap (λ z. MomentRow (k + 0) z.time (kind z)) s) (contains_first (MomentRow k y.time (kind y)) (history_rows kind (suc k) ys))
  where
    some_same : Some y ≡ Some x → y ≡ x
    some_same e = cc
history_has kind k (suc j) (y ∷ ys) x e =
    subst (λ row. Contains (history_rows kind k (y ∷ ys)) row) (ap (λ n. MomentRow n x.time (kind x)) (omega arith))
    (contains_later (MomentRow k y.time (kind y)) (history_rows kind (suc k) ys) (MomentRow (suc k + j) x.time (kind x)) (history_has kind (suc k) j ys x e))

-- the history of an entity, from place 0 on
history_facts : (kind : Event → List ℕ) (xs : List Event) (row : Row) → Contains (history_rows kind 0 xs) row ↔ ((k : ℕ) × ((x : Event) × (slice_get xs k ≡ Some x) × (row ≡ MomentRow k x.time (kind x))))
history_facts kind xs row = (
  λ c. let r = history_exact kind 0 xs row c in (r.0, (r.1.0, r.1.1, r.1.2 ∙ ap (λ n. MomentRow n r.1.0.time (kind r.1.0)) (zero-add r.0))),
  λ r. subst (λ z. Contains (history_rows kind 0 xs) z) (ap (λ n. MomentRow n r.1.0.time (kind r.1.0)) (zero-add r.0) ∙ sym r.1.2) (history_has kind 0 r.0 xs r.1.0 r.1.1),
)

pub answer_node_history : (w : World) (node : List ℕ) → IsAnswer w (NodeHistory node) (history_rows (λ x. codes "node") 0 (events_of w (Node node)))
answer_node_history w node = record { rise = history_rise (λ x. codes "node") 0 (events_of w (Node node)); exact = history_facts (λ x. codes "node") (events_of w (Node node)) }

pub answer_edge_history : (w : World) (edge : EdgeName) → IsAnswer w (EdgeHistory edge) (history_rows edge_kind 0 (events_of w (Edge edge)))
answer_edge_history w edge = record { rise = history_rise edge_kind 0 (events_of w (Edge edge)); exact = history_facts edge_kind (events_of w (Edge edge)) }
