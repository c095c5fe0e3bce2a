-- One more view on a list of views.
use Rattle.std.proofs.Common.{◌≡◌, ℕ, zero, suc, ℤ, ◌+◌, true, false, inl, inr, List, [], ◌∷◌, ◌++◌, Some, None, refl, sym, ◌∙◌, ap, arith, length, take, map}
use Rattle.std.specs.Prelude.{slice_get, bit_and}
use Rattle.std.specs.List.{list_all}
use Rattle.std.proofs.lemmas.Bool.{and_parts}
use Rattle.std.proofs.lemmas.List.{take_more}
use Rattle.std.proofs.lemmas.Option.{slice_get_within, get_or_from_slice_get, some_pair_parts}
use Rattle.std.proofs.Math.Seq.{take-length}
use Rattle.graph_model.specs.World.{World}
use Rattle.graph_model.specs.Window.{window}
use Rattle.graph_model.specs.Keep.{keep}
use Rattle.graph_model.specs.Searches.{Searches, ViewKind, searches, searches_over, searches_with}
use Rattle.graph_store.specs.EdgeParts.{parts_at}
use Rattle.graph_store.specs.Contents.{Contents, base_of}
use Rattle.view_trait.specs.declared.ready_ops.ReadyOp.{ReadyOp}
use Rattle.view_trait.specs.declared.ready_ops.ReadyOp.TheVariants.{Window, Layers, Subgraph, ExcludeNodes, EdgesWhere, NodesWhere, Valid}
use Rattle.view_trait.specs.Meaning.{IsShown, HasLayers}
use Rattle.view_trait.specs.Ready.{ready_view, ready_apply, ready_kind, in_range}
use Rattle.view_trait.proofs.Shown.{HasLayers-window}
use Rattle.view_trait.proofs.Kept.{both_bits}
use Rattle.entity_tests.specs.Tests.{PassesLayers, end_searches}
use Rattle.entity_tests.specs.Ready.{by_ends, keeps_entity}
use Rattle.entity_tests.proofs.Layers.{HasLayers-kept}
use Rattle.stack_view.specs.Below.{below, searches_below, moments_of, bounds_with, own_searches}
use Rattle.stack_view.specs.Shown.{IsShown-after}

-- ---- lists

take_one : {X : Type 0} (xs : List X) (i : ℕ) (x : X) → slice_get xs i ≡ Some x → take (i + 1) xs ≡ take i xs ++ x ∷ []
take_one xs i x h = take_more xs i x (slice_get_within xs i x h) ∙ ap (λ y. take i xs ++ y ∷ []) (get_or_from_slice_get xs i x x h)

map-push : {X Y : Type 0} (f : X → Y) (xs : List X) (x : X) → map f (xs ++ x ∷ []) ≡ map f xs ++ f x ∷ []
map-push f [] x = refl
map-push f (y ∷ ys) x = ap (λ zs. f y ∷ zs) (map-push f ys x)

pub item_in_range : (ops : List ReadyOp) (i : ℕ) (op : ReadyOp) → slice_get ops i ≡ Some op → list_all in_range ops ≡ true → in_range op ≡ true
item_in_range [] i op h k = cc
item_in_range (o ∷ ops) zero op h k = let e : o ≡ op = cc in ap in_range (sym e) ∙ (and_parts (in_range o) (list_all in_range ops) k).0
item_in_range (o ∷ ops) (suc i) op h k = item_in_range ops i op h (and_parts (in_range o) (list_all in_range ops) k).1

-- ---- worlds

ready_apply-push : (c : Contents) (ops : List ReadyOp) (op : ReadyOp) (w : World) → ready_apply c (ops ++ op ∷ []) w ≡ ready_view c (ready_apply c ops w) op
ready_apply-push c [] op w = refl
ready_apply-push c (o ∷ ops) op w = ready_apply-push c ops op (ready_view c w o)

pub below_more : (c : Contents) (ops : List ReadyOp) (i : ℕ) (op : ReadyOp) → slice_get ops i ≡ Some op → below c ops (i + 1) ≡ ready_view c (below c ops i) op
below_more c ops i op h = ap (λ os. ready_apply c os (base_of c)) (take_one ops i op h) ∙ ready_apply-push c (take i ops) op (base_of c)

pub below_all : (c : Contents) (ops : List ReadyOp) (n : ℕ) → n ≡ length ops → below c ops n ≡ ready_apply c ops (base_of c)
below_all c ops n e = ap (λ m. below c ops m) e ∙ ap (λ os. ready_apply c os (base_of c)) (take-length ops)

pub IsShown-below : (c : Contents) (ops : List ReadyOp) (i : ℕ) → IsShown c (base_of c) → IsShown c (below c ops i)
IsShown-below c ops i h = IsShown-after c (take i ops) (base_of c) h

-- a window, and a view that keeps entities
pub is_window : (c : Contents) (w : World) (op : ReadyOp) (a b : ℤ) → moments_of op ≡ Some (a, b) → ready_view c w op ≡ window w a b
is_window c w (Window p q) a b h = let e = some_pair_parts p a q b h in ap (λ t. window w t q) e.0 ∙ ap (window w a) e.1
is_window c w (Layers bits) a b h = cc
is_window c w (Subgraph nodes) a b h = cc
is_window c w (ExcludeNodes nodes) a b h = cc
is_window c w (EdgesWhere key cmp v) a b h = cc
is_window c w (NodesWhere key cmp v) a b h = cc
is_window c w Valid a b h = cc

pub is_keep : (c : Contents) (w : World) (op : ReadyOp) → moments_of op ≡ None → ready_view c w op ≡ keep (keeps_entity c w op) w
is_keep c w (Window a b) h = cc
is_keep c w (Layers bits) h = refl
is_keep c w (Subgraph nodes) h = refl
is_keep c w (ExcludeNodes nodes) h = refl
is_keep c w (EdgesWhere key cmp v) h = refl
is_keep c w (NodesWhere key cmp v) h = refl
is_keep c w Valid h = refl

-- ---- bounds and layers

pub bounds_after : (c : Contents) (w : World) (op : ReadyOp) → (ready_view c w op).bounds ≡ bounds_with w.bounds op
bounds_after c w (Window a b) = refl
bounds_after c w (Layers bits) = refl
bounds_after c w (Subgraph nodes) = refl
bounds_after c w (ExcludeNodes nodes) = refl
bounds_after c w (EdgesWhere key cmp v) = refl
bounds_after c w (NodesWhere key cmp v) = refl
bounds_after c w Valid = refl

pub HasLayers-after : (c : Contents) (w : World) (op : ReadyOp) (kept bits : ℕ) → IsShown c w → HasLayers c w kept → PassesLayers (λ s v. keeps_entity s v op) bits → HasLayers c (ready_view c w op) (bit_and kept bits)
HasLayers-after c w (Window a b) kept bits shown h k = record {
  none = λ e within n.
      elim (both_bits kept bits (parts_at c.edges e).layer n) [
        | inl z ↦ (HasLayers-window c w a b kept shown h).none e within z
        | inr z ↦ absurd (let q : true ≡ false = k.none c w e shown within z in cc)
      ];
}
HasLayers-after c w (Layers bs) kept bits shown h k = HasLayers-kept (λ s v. keeps_entity s v (Layers bs)) c w kept bits shown h k
HasLayers-after c w (Subgraph nodes) kept bits shown h k = HasLayers-kept (λ s v. keeps_entity s v (Subgraph nodes)) c w kept bits shown h k
HasLayers-after c w (ExcludeNodes nodes) kept bits shown h k = HasLayers-kept (λ s v. keeps_entity s v (ExcludeNodes nodes)) c w kept bits shown h k
HasLayers-after c w (EdgesWhere key cmp v) kept bits shown h k = HasLayers-kept (λ s u. keeps_entity s u (EdgesWhere key cmp v)) c w kept bits shown h k
HasLayers-after c w (NodesWhere key cmp v) kept bits shown h k = HasLayers-kept (λ s u. keeps_entity s u (NodesWhere key cmp v)) c w kept bits shown h k
HasLayers-after c w Valid kept bits shown h k = HasLayers-kept (λ s v. keeps_entity s v Valid) c w kept bits shown h k

-- ---- searches

searches_over-push : (s : Searches) (ks : List ViewKind) (k : ViewKind) → searches_over s (ks ++ k ∷ []) ≡ searches_with (searches_over s ks) k
searches_over-push s [] k = refl
searches_over-push s (j ∷ ks) k = searches_over-push (searches_with s j) ks k

searches_more : (ops : List ReadyOp) (i : ℕ) (op : ReadyOp) → slice_get ops i ≡ Some op → searches_below ops (i + 1) ≡ searches_with (searches_below ops i) (ready_kind op)
searches_more ops i op h =
    ap (λ os. searches (map ready_kind os)) (take_one ops i op h)
    ∙ (ap searches (map-push ready_kind (take i ops) op) ∙ searches_over-push (record { nodes = 0; edges = 0 }) (map ready_kind (take i ops)) (ready_kind op))

pub searches_all : (ops : List ReadyOp) (n : ℕ) → n ≡ length ops → searches_below ops n ≡ searches (map ready_kind ops)
searches_all ops n e = ap (searches_below ops) e ∙ ap (λ os. searches (map ready_kind os)) (take-length ops)

nodes_with : (s : Searches) (op : ReadyOp) → (searches_with s (ready_kind op)).nodes ≡ s.nodes + own_searches op
nodes_with s (Window a b) = refl
nodes_with s (Layers bits) = omega arith
nodes_with s (Subgraph nodes) = omega arith
nodes_with s (ExcludeNodes nodes) = omega arith
nodes_with s (EdgesWhere key cmp v) = omega arith
nodes_with s (NodesWhere key cmp v) = omega arith
nodes_with s Valid = omega arith

edges_with : (s : Searches) (op : ReadyOp) → (searches_with s (ready_kind op)).edges ≡ (end_searches (by_ends op) s + s.edges) + own_searches op
edges_with s (Window a b) = omega arith
edges_with s (Layers bits) = omega arith
edges_with s (Subgraph nodes) = omega arith
edges_with s (ExcludeNodes nodes) = omega arith
edges_with s (EdgesWhere key cmp v) = omega arith
edges_with s (NodesWhere key cmp v) = omega arith
edges_with s Valid = omega arith

pub node_searches_more : (ops : List ReadyOp) (i : ℕ) (op : ReadyOp) → slice_get ops i ≡ Some op → (searches_below ops (i + 1)).nodes ≡ (searches_below ops i).nodes + own_searches op
node_searches_more ops i op h = ap (λ (s : Searches). s.nodes) (searches_more ops i op h) ∙ nodes_with (searches_below ops i) op

pub edge_searches_more : (ops : List ReadyOp) (i : ℕ) (op : ReadyOp) → slice_get ops i ≡ Some op → (searches_below ops (i + 1)).edges ≡ (end_searches (by_ends op) (searches_below ops i) + (searches_below ops i).edges) + own_searches op
edge_searches_more ops i op h = ap (λ (s : Searches). s.edges) (searches_more ops i op h) ∙ edges_with (searches_below ops i) op
