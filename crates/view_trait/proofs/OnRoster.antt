-- The nodes and edges on a roster: each is there once, and each that has an event in a world that the roster covers is there.
use Rattle.std.proofs.Common.{◌≡◌, ℕ, zero, suc, ◌+◌, ◌<◌, ◌≤◌, true, false, ◌&&◌, List, [], ◌∷◌, ◌++◌, cond, length, map, take, get_or, refl, sym, ◌∙◌, ap, subst, arith, inl, inr}
use Rattle.std.specs.Prelude.{◌==◌, nat_lt, slice_get, Some}
use Rattle.std.specs.List.{list_any, filter, flat_map, range_with_len, AllByRecursion, IsDistinct}
use Rattle.std.specs.Ordering.{nat_cmp}
use Rattle.std.specs.declared.cmp.Ordering.TheVariants.{Less}
use Rattle.std.proofs.lemmas.Bool.{cases_Bool, and_from, eqb-true, lt-ltb, ltb-true, or_parts, true≢false}
use Rattle.std.proofs.lemmas.Bool.Decides.{nat_tests}
use Rattle.std.proofs.lemmas.List.{map-append}
use Rattle.std.proofs.lemmas.List.Elements.{filter_more}
use Rattle.std.proofs.lemmas.List.Folds.{list_any-append}
use Rattle.std.proofs.lemmas.Map.Keys.{IsDistinct-cons, IsDistinct-from_apart}
use Rattle.std.proofs.lemmas.Option.{get_or_from_slice_get}
use Rattle.graph_model.specs.declared.events.EdgeName.{EdgeName}
use Rattle.graph_model.specs.declared.events.Entity.{Entity}
use Rattle.graph_model.specs.declared.events.Entity.TheVariants.{Node, Edge}
use Rattle.graph_model.specs.Entity.{same_entity}
use Rattle.graph_model.specs.Names.{same_name}
use Rattle.graph_model.specs.Rising.{Rises}
use Rattle.graph_model.specs.World.{World, arrange, events_of}
use Rattle.world_laws.proofs.Filters.{any_weaker, each_two, each_weaker, kept_pass}
use Rattle.world_laws.proofs.Listed.{each_any}
use Rattle.world_laws.proofs.ListItems.{any_map, each_map}
use Rattle.world_laws.proofs.Members.{any_filter}
use Rattle.world_laws.proofs.Named.{Rises-filter}
use Rattle.world_laws.proofs.Order.{same_entity-exact, same_entity-refl, same_name-exact, same_name-refl}
use Rattle.graph_store.specs.declared.edges.EdgeParts.{EdgeParts}
use Rattle.graph_store.specs.EdgeParts.{same_parts, parts_at}
use Rattle.graph_store.specs.Contents.{Contents, name_at}
use Rattle.graph_store.specs.Indexed.{IsIndexed}
use Rattle.graph_store.proofs.Listed.{one_place}
use Rattle.view_trait.specs.Coverage.{Covers, edges_among, edges_on, entities_on, nodes_among, nodes_on}
use Rattle.view_trait.specs.Meaning.{IsShown, edge_at, edge_named, knows, node_at}
use Rattle.view_trait.specs.Numbered.{is_listed}
use Rattle.view_trait.specs.declared.rosters.Roster.{Roster}
use Rattle.view_trait.proofs.Entities.{world_of_entities}
use Rattle.view_trait.proofs.NodePairs.{distinct_append}
use Rattle.view_trait.proofs.Pairs.{any_place, edge_number, no_parts, same_number, unknown_shows_nothing}
use Rattle.view_trait.proofs.Rising.{less_from, less_is}

-- ---- numbers that rise

range_above : (x a n : ℕ) → x < a → AllByRecursion (λ y. nat_cmp x y ≡ Less) (range_with_len a n)
range_above x a zero lt = tt
range_above x a (suc n) lt = (less_is x a lt, range_above x (a + 1) n (omega arith))

pub range_rises : (a n : ℕ) → Rises nat_cmp (range_with_len a n)
range_rises a zero = tt
range_rises a (suc n) = (range_above a (a + 1) n (omega arith), range_rises (a + 1) n)

from_least : (k : ℕ) (xs : List ℕ) (i : ℕ) → AllByRecursion (λ y. k ≤ y) xs → Rises nat_cmp xs → i < length xs → k + i ≤ get_or xs i 0
from_least k [] i least h lt = absurd (omega arith)
from_least k (x ∷ xs) zero least h lt = let first = least.0 in omega arith
from_least k (x ∷ xs) (suc i) least h lt =
    let first = least.0 in
    let more = from_least (k + 1) xs i (each_weaker (λ y. nat_cmp x y ≡ Less) (λ y. k + 1 ≤ y) (λ y e. let less = less_from x y e in omega arith) xs h.0) h.1 (omega arith) in
    omega arith

-- a number that rises with others is no less than its place
pub no_less : (xs : List ℕ) (i n : ℕ) → Rises nat_cmp xs → i < length xs → slice_get xs i ≡ Some n → i ≤ n
no_less xs i n h lt here =
    let least = from_least 0 xs i (each_any (λ y. 0 ≤ y) (λ y. omega arith) xs) h lt in
    let is = get_or_from_slice_get xs i n 0 here in
    omega (arith, least, is)

-- ---- entities by their numbers, where those that are below a count name different ones

module _ (f : ℕ → Entity) (m : ℕ) where
  abbrev named : List ℕ → List Entity
  named ns = map f (filter (λ n. nat_lt n m) ns)

  -- one number more
  named_more : (ns : List ℕ) (i n : ℕ) → i < length ns → slice_get ns i ≡ Some n → named (take (i + 1) ns) ≡ named (take i ns) ++ named (n ∷ [])
  named_more ns i n lt here =
      ap (map f) (filter_more (λ k. nat_lt k m) ns i 0 lt ∙ ap (λ k. filter (λ k. nat_lt k m) (take i ns) ++ cond (nat_lt k m) (k ∷ []) []) (get_or_from_slice_get ns i n 0 here))
      ∙ map-append f (filter (λ k. nat_lt k m) (take i ns)) (cond (nat_lt n m) (n ∷ []) [])

  -- an entity that is not among those of numbers has no number among them
  unlisted : (ns : List ℕ) (n : ℕ) → list_any (same_entity (f n)) (named ns) ≡ false → n < m → is_listed ns n ≡ false
  unlisted ns n none lt = elim (cases_Bool (is_listed ns n)) [
    | inl on ↦
        absurd (true≢false (sym (any_map (same_entity (f n)) f (filter (λ k. nat_lt k m) ns)
        ∙ (any_filter (λ k. nat_lt k m) (λ k. same_entity (f n) (f k)) ns
        ∙ any_weaker (λ k. k == n) (λ k. nat_lt k m && same_entity (f n) (f k))
        (λ k e. subst (λ z. (nat_lt z m && same_entity (f n) (f z)) ≡ true) (sym (eqb-true k n e)) (and_from (nat_lt n m) (same_entity (f n) (f n)) (lt-ltb n m lt) (same_entity-refl (f n)))) ns on)) ∙ none))
    | inr off ↦ off
  ]

  module _ (apart : (i j : ℕ) → i < m → j < m → f i ≡ f j → i ≡ j) where
    differs : (i j : ℕ) → nat_lt i m ≡ true → nat_lt j m ≡ true → nat_cmp i j ≡ Less → same_entity (f i) (f j) ≡ false
    differs i j a b less = elim (cases_Bool (same_entity (f i) (f j))) [
      | inl same ↦ absurd (let is = apart i j (ltb-true i m a) (ltb-true j m b) (same_entity-exact (f i) (f j) same) in let lt = less_from i j less in omega (arith, is, lt))
      | inr other ↦ other
    ]

    distinct_images : (ns : List ℕ) → AllByRecursion (λ n. nat_lt n m ≡ true) ns → Rises nat_cmp ns → IsDistinct same_entity (map f ns)
    distinct_images [] below rise = IsDistinct-from_apart same_entity [] (λ i j d less lt. absurd (omega arith))
    distinct_images (n ∷ ns) below rise =
        IsDistinct-cons same_entity (f n) (map f ns)
        (each_map (λ y. same_entity (f n) y ≡ false) f ns
        (each_two (λ k. nat_lt k m ≡ true) (λ k. nat_cmp n k ≡ Less) (λ k. same_entity (f n) (f k) ≡ false) (λ k b less. differs n k below.0 b less) ns below.1 rise.0))
        (distinct_images ns below.1 rise.1)

    distinct_named : (ns : List ℕ) → Rises nat_cmp ns → IsDistinct same_entity (named ns)
    distinct_named ns rise = distinct_images (filter (λ n. nat_lt n m) ns) (kept_pass (λ n. nat_lt n m) ns) (Rises-filter nat_cmp (λ n. nat_lt n m) ns rise)

pub nodes_more : (c : Contents) (ns : List ℕ) (i n : ℕ) → i < length ns → slice_get ns i ≡ Some n → nodes_among c (take (i + 1) ns) ≡ nodes_among c (take i ns) ++ nodes_among c (n ∷ [])
nodes_more c ns i n lt here = named_more (node_at c) (length c.nodes) ns i n lt here

pub edges_more : (c : Contents) (es : List ℕ) (i e : ℕ) → i < length es → slice_get es i ≡ Some e → edges_among c (take (i + 1) es) ≡ edges_among c (take i es) ++ edges_among c (e ∷ [])
edges_more c es i e lt here = named_more (edge_at c) (length c.edges) es i e lt here

-- ---- the entities of a store

abbrev named_node : Entity → List ℕ
named_node (Node name) = name
named_node (Edge edge) = []

abbrev named_edge : EdgeName → Entity → EdgeName
named_edge other (Node name) = other
named_edge other (Edge edge) = edge

-- each number names one node, and one edge
pub nodes_apart : (c : Contents) → IsIndexed c → (i j : ℕ) → i < length c.nodes → j < length c.nodes → node_at c i ≡ node_at c j → i ≡ j
nodes_apart c h i j a b e = same_number c i j h a b (ap named_node e)

own_parts : (p : EdgeParts) → same_parts p p ≡ true
own_parts p = grind (arith, nat_tests)

pub edges_apart : (c : Contents) → IsIndexed c → (i j : ℕ) → i < length c.edges → j < length c.edges → edge_at c i ≡ edge_at c j → i ≡ j
edges_apart c h i j a b same =
    let p = h.within i a in
    let q = h.within j b in
    let e : edge_named c i ≡ edge_named c j = ap (named_edge (edge_named c i)) same in
    let src : (parts_at c.edges i).src ≡ (parts_at c.edges j).src = same_number c _ _ h p.0 q.0 (ap (λ (n : EdgeName). n.src) e) in
    let dst : (parts_at c.edges i).dst ≡ (parts_at c.edges j).dst = same_number c _ _ h p.1 q.1 (ap (λ (n : EdgeName). n.dst) e) in
    let layer : (parts_at c.edges i).layer ≡ (parts_at c.edges j).layer = one_place same_name same_name-refl c.layers _ _ [] h.layer_names p.2 q.2 (ap (λ (n : EdgeName). n.layer) e) in
    one_place same_parts own_parts c.edges i j no_parts h.edges a b (λ k. record { src = src k; dst = dst k; layer = layer k })

node_number : (c : Contents) (name : List ℕ) → knows c (Node name) ≡ true → (n : ℕ) × (n < length c.nodes) × (name_at c.nodes n ≡ name)
node_number c name h = let r = any_place (same_name name) c.nodes [] h in (r.0, r.1, sym (same_name-exact name (name_at c.nodes r.0) r.2))

-- ---- those on a roster

-- no node is an edge
nodes_no_edges : (c : Contents) (ns es : List ℕ) → AllByRecursion (λ x. AllByRecursion (λ y. same_entity x y ≡ false) (edges_among c es)) (nodes_among c ns)
nodes_no_edges c ns es =
    each_map (λ x. AllByRecursion (λ y. same_entity x y ≡ false) (edges_among c es)) (node_at c) (filter (λ n. nat_lt n (length c.nodes)) ns)
    (each_any (λ n. AllByRecursion (λ y. same_entity (node_at c n) y ≡ false) (edges_among c es))
    (λ n. each_map (λ y. same_entity (node_at c n) y ≡ false) (edge_at c) (filter (λ e. nat_lt e (length c.edges)) es) (each_any (λ e. same_entity (node_at c n) (edge_at c e) ≡ false) (λ e. refl) (filter (λ e. nat_lt e (length c.edges)) es)))
    (filter (λ n. nat_lt n (length c.nodes)) ns))

pub distinct_on : (c : Contents) (r : Roster) → IsIndexed c → Rises nat_cmp (nodes_on c r) → Rises nat_cmp (edges_on c r) → IsDistinct same_entity (entities_on c r)
distinct_on c r h nodes edges =
    distinct_append same_entity (nodes_among c (nodes_on c r)) (edges_among c (edges_on c r))
    (distinct_named (node_at c) (length c.nodes) (nodes_apart c h) (nodes_on c r) nodes)
    (distinct_named (edge_at c) (length c.edges) (edges_apart c h) (edges_on c r) edges)
    (nodes_no_edges c (nodes_on c r) (edges_on c r))

-- what is not on a roster has no event in a world that it covers
pub nothing_off : (c : Contents) (w : World) (r : Roster) → IsShown c w → Covers c w r → (x : Entity) → list_any (same_entity x) (entities_on c r) ≡ false → events_of w x ≡ []
nothing_off c w r shown covers x off = elim (cases_Bool (knows c x)) [
  | inl known ↦ of_known x (or_parts (list_any (same_entity x) (nodes_among c (nodes_on c r))) (list_any (same_entity x) (edges_among c (edges_on c r))) (sym (list_any-append (same_entity x) (nodes_among c (nodes_on c r)) (edges_among c (edges_on c r))) ∙ off)) known
  | inr unknown ↦ unknown_shows_nothing c w x shown unknown
]
  where
    of_known : (e : Entity) → (list_any (same_entity e) (nodes_among c (nodes_on c r)) ≡ false) × (list_any (same_entity e) (edges_among c (edges_on c r)) ≡ false) → knows c e ≡ true → events_of w e ≡ []
    of_known (Node name) none known =
        let n = node_number c name known in
        let is : node_at c n.0 ≡ Node name = ap Node n.2 in
        subst (λ e. events_of w e ≡ []) is (covers.nodes n.0 n.1 (unlisted (node_at c) (length c.nodes) (nodes_on c r) n.0 (subst (λ e. list_any (same_entity e) (nodes_among c (nodes_on c r)) ≡ false) (sym is) none.0) n.1))
    of_known (Edge edge) none known =
        let e = edge_number c edge known in
        let is : edge_at c e.0 ≡ Edge edge = ap Edge e.2 in
        subst (λ x. events_of w x ≡ []) is (covers.edges e.0 e.1 (unlisted (edge_at c) (length c.edges) (edges_on c r) e.0 (subst (λ x. list_any (same_entity x) (edges_among c (edges_on c r)) ≡ false) (sym is) none.1) e.1))

-- so a world is the events of what is on a roster that covers it, arranged
pub world_on : (c : Contents) (w : World) (r : Roster) → IsShown c w → Covers c w r → Rises nat_cmp (nodes_on c r) → Rises nat_cmp (edges_on c r) → arrange (flat_map (events_of w) (entities_on c r)) ≡ w.events
world_on c w r shown covers nodes edges =
    world_of_entities w (entities_on c r) shown.lawful.arranged (distinct_on c r shown.indexed nodes edges) (nothing_off c w r shown covers)
