-- What the merged views of a run show, one view more at a time.
use Rattle.std.proofs.Common.{◌≡◌, ℕ, ℤ, ◌<◌, Bool, true, false, not, ◌&&◌, List, [], ◌∷◌, ◌++◌, length, Option, Some, None, get_or, refl, sym, ◌∙◌, ap, subst, arith, inl, inr, eqb}
use Rattle.std.specs.Prelude.{bit_and, min}
use Rattle.std.specs.Int.{bit_at}
use Rattle.std.proofs.lemmas.Bool.{cases_Bool, eqb-true, eqb-false, ne_eqb}
use Rattle.std.proofs.lemmas.Bool.Decides.{nat_tests}
use Rattle.std.proofs.lemmas.Nat.Bits.{bit_at_and, bit_at-lt}
use Rattle.graph_model.specs.declared.events.EdgeName.{EdgeName}
use Rattle.graph_model.specs.declared.events.Entity.{Entity}
use Rattle.graph_model.specs.declared.events.Entity.TheVariants.{Node, Edge}
use Rattle.graph_model.specs.Names.{same_name}
use Rattle.graph_model.specs.Keep.{keep, in_layers}
use Rattle.graph_model.specs.Window.{window}
use Rattle.graph_model.specs.World.{World, IsLawful}
use Rattle.world_laws.proofs.Order.{same_name-exact}
use Rattle.world_laws.proofs.Windows.{window_twice}
use Rattle.world_laws.proofs.Kept.{keep-window, keep_both, keep_comm}
use Rattle.graph_store.specs.EdgeParts.{parts_at}
use Rattle.graph_store.specs.Contents.{Contents, name_at}
use Rattle.graph_store.specs.Indexed.{IsIndexed}
use Rattle.view_trait.specs.declared.ready_ops.ReadyOp.{ReadyOp}
use Rattle.view_trait.specs.Meaning.{IsShown, knows, node_at, edge_at}
use Rattle.view_trait.specs.Numbered.{has_bit, is_listed, keeps_number, chooses, layers_numbered, nodes_numbered, layer_world, node_world}
use Rattle.view_trait.specs.Ready.{ready_view, ready_apply}
use Rattle.view_trait.proofs.Kept.{layer_keeps, node_keeps, ends_keep}
use Rattle.view_trait.proofs.Pairs.{any_place, edge_number}
use Rattle.view_trait.proofs.ReadyWorlds.{keep_known}
use Rattle.view_trait.proofs.Shown.{IsShown-window, IsShown-keep}
use Rattle.fused_view.specs.declared.run.Run.{Run}
use Rattle.fused_view.specs.Runs.{narrowed, masked, passes, run_views, window_views, layer_views, kept_views, dropped_views}

-- ---- tests that agree on the nodes and edges of a store

known_each : (c : Contents) (p q : Entity → Bool) → ((n : ℕ) → n < length c.nodes → p (node_at c n) ≡ q (node_at c n)) → ((e : ℕ) → e < length c.edges → p (edge_at c e) ≡ q (edge_at c e)) → (x : Entity) → knows c x ≡ true → p x ≡ q x
known_each c p q nodes edges (Node name) k =
    let r = any_place (same_name name) c.nodes [] k in
    let is : name ≡ name_at c.nodes r.0 = same_name-exact name (get_or c.nodes r.0 []) r.2 in
    subst (λ z. p (Node z) ≡ q (Node z)) (sym is) (nodes r.0 r.1)
known_each c p q nodes edges (Edge edge) k =
    let r = edge_number c edge k in
    subst (λ (e : EdgeName). p (Edge e) ≡ q (Edge e)) r.2 (edges r.0 r.1)

pub keep_numbered : (c : Contents) (w : World) (p q : Entity → Bool) → IsShown c w → ((n : ℕ) → n < length c.nodes → p (node_at c n) ≡ q (node_at c n)) → ((e : ℕ) → e < length c.edges → p (edge_at c e) ≡ q (edge_at c e)) → keep p w ≡ keep q w
keep_numbered c w p q h nodes edges = keep_known p q c w h (known_each c p q nodes edges)

-- ---- what each merged view shows

abbrev window_piece : Option (ℤ × ℤ) → World → World
window_piece None w = w
window_piece (Some ends) w = window w ends.0 ends.1

abbrev layer_piece : Contents → Option ℕ → World → World
layer_piece c None w = w
layer_piece c (Some bits) w = layer_world c bits w

abbrev node_piece : Contents → Bool → Option (List ℕ) → World → World
node_piece c keeps None w = w
node_piece c keeps (Some nodes) w = node_world c keeps nodes w

-- what a run shows
abbrev pub run_world : Contents → Run → World → World
run_world c r w = node_piece c false r.dropped (node_piece c true r.kept (layer_piece c r.layers (window_piece r.window w)))

pub ready_apply-append : (c : Contents) (xs ys : List ReadyOp) (w : World) → ready_apply c (xs ++ ys) w ≡ ready_apply c ys (ready_apply c xs w)
ready_apply-append c [] ys w = refl
ready_apply-append c (op ∷ xs) ys w = ready_apply-append c xs ys (ready_view c w op)

windows_show : (c : Contents) (o : Option (ℤ × ℤ)) (rest : List ReadyOp) (w : World) → ready_apply c (window_views o ++ rest) w ≡ ready_apply c rest (window_piece o w)
windows_show c None rest w = refl
windows_show c (Some ends) rest w = refl

layers_show : (c : Contents) (o : Option ℕ) (rest : List ReadyOp) (w : World) → ready_apply c (layer_views o ++ rest) w ≡ ready_apply c rest (layer_piece c o w)
layers_show c None rest w = refl
layers_show c (Some bits) rest w = refl

kept_show : (c : Contents) (o : Option (List ℕ)) (rest : List ReadyOp) (w : World) → ready_apply c (kept_views o ++ rest) w ≡ ready_apply c rest (node_piece c true o w)
kept_show c None rest w = refl
kept_show c (Some nodes) rest w = refl

dropped_show : (c : Contents) (o : Option (List ℕ)) (w : World) → ready_apply c (dropped_views o) w ≡ node_piece c false o w
dropped_show c None w = refl
dropped_show c (Some nodes) w = refl

pub run_shows : (c : Contents) (r : Run) (w : World) → ready_apply c (run_views r) w ≡ run_world c r w
run_shows c r w =
    let first = window_piece r.window w in
    let second = layer_piece c r.layers first in
    let third = node_piece c true r.kept second in
    windows_show c r.window (layer_views r.layers ++ (kept_views r.kept ++ dropped_views r.dropped)) w
    ∙ (layers_show c r.layers (kept_views r.kept ++ dropped_views r.dropped) first
    ∙ (kept_show c r.kept (dropped_views r.dropped) second
    ∙ dropped_show c r.dropped third))

-- ---- these are worlds over the store

shown_window : (c : Contents) (o : Option (ℤ × ℤ)) (w : World) → IsShown c w → IsShown c (window_piece o w)
shown_window c None w h = h
shown_window c (Some ends) w h = IsShown-window c w ends.0 ends.1 h

shown_layers : (c : Contents) (o : Option ℕ) (w : World) → IsShown c w → IsShown c (layer_piece c o w)
shown_layers c None w h = h
shown_layers c (Some bits) w h = IsShown-keep (in_layers (layers_numbered c bits)) c w h

shown_nodes : (c : Contents) (keeps : Bool) (o : Option (List ℕ)) (w : World) → IsShown c w → IsShown c (node_piece c keeps o w)
shown_nodes c keeps None w h = h
shown_nodes c keeps (Some nodes) w h = IsShown-keep (chooses keeps (nodes_numbered c nodes)) c w h

-- ---- windows and tests go past them

window_past_layers : (c : Contents) (o : Option ℕ) (w : World) (a b : ℤ) → IsShown c w → window (layer_piece c o w) a b ≡ layer_piece c o (window w a b)
window_past_layers c None w a b h = refl
window_past_layers c (Some bits) w a b h = sym (keep-window (in_layers (layers_numbered c bits)) w a b h.lawful)

window_past_nodes : (c : Contents) (keeps : Bool) (o : Option (List ℕ)) (w : World) (a b : ℤ) → IsShown c w → window (node_piece c keeps o w) a b ≡ node_piece c keeps o (window w a b)
window_past_nodes c keeps None w a b h = refl
window_past_nodes c keeps (Some nodes) w a b h = sym (keep-window (chooses keeps (nodes_numbered c nodes)) w a b h.lawful)

test_past_nodes : (c : Contents) (keeps : Bool) (o : Option (List ℕ)) (w : World) (q : Entity → Bool) → keep q (node_piece c keeps o w) ≡ node_piece c keeps o (keep q w)
test_past_nodes c keeps None w q = refl
test_past_nodes c keeps (Some nodes) w q = keep_comm (chooses keeps (nodes_numbered c nodes)) q w

-- ---- a window more

narrow_piece : (o : Option (ℤ × ℤ)) (w : World) (a b : ℤ) → IsLawful w → window (window_piece o w) a b ≡ window_piece (Some (narrowed o (a, b))) w
narrow_piece None w a b h = refl
narrow_piece (Some ends) w a b h = window_twice w ends.0 ends.1 a b h

pub window_more : (c : Contents) (r : Run) (a b : ℤ) (w : World) → IsShown c w → run_world c (record { window = Some (narrowed r.window (a, b)); layers = r.layers; kept = r.kept; dropped = r.dropped }) w ≡ window (run_world c r w) a b
window_more c r a b w h =
    let first = window_piece r.window w in
    let second = layer_piece c r.layers first in
    let third = node_piece c true r.kept second in
    let shown_first = shown_window c r.window w h in
    let shown_second = shown_layers c r.layers first shown_first in
    let shown_third = shown_nodes c true r.kept second shown_second in
    sym (window_past_nodes c false r.dropped third a b shown_third
    ∙ ap (node_piece c false r.dropped) (window_past_nodes c true r.kept second a b shown_second
    ∙ ap (node_piece c true r.kept) (window_past_layers c r.layers first a b shown_first
    ∙ ap (layer_piece c r.layers) (narrow_piece r.window w a b h.lawful))))

-- ---- a view of layers more

least_one : (x y : ℕ) → x < 2 → y < 2 → eqb (min x y) 1 ≡ (eqb x 1 && eqb y 1)
least_one x y h k = elim (cases_Bool (eqb x 1)) [
  | inl e ↦ let one = eqb-true x 1 e in let is : min x y ≡ y = omega (arith, one, k) in ap (λ n. eqb n 1) is ∙ sym (ap (λ t. t && eqb y 1) e)
  | inr e ↦ let none = eqb-false x 1 e in ne_eqb (min x y) 1 (λ m. none (omega (arith, h, k, m))) ∙ sym (ap (λ t. t && eqb y 1) e)
]

both_bits : (a b l : ℕ) → (has_bit a l && has_bit b l) ≡ has_bit (bit_and a b) l
both_bits a b l = sym (ap (λ n. eqb n 1) (bit_at_and a b l) ∙ least_one (bit_at a l) (bit_at b l) (bit_at-lt a l) (bit_at-lt b l))

pub mask_piece : (c : Contents) (o : Option ℕ) (bits : ℕ) (w : World) → IsShown c w → layer_world c bits (layer_piece c o w) ≡ layer_world c (masked o bits) w
mask_piece c None bits w h = refl
mask_piece c (Some layers) bits w h =
    let p = in_layers (layers_numbered c layers) in
    let q = in_layers (layers_numbered c bits) in
    keep_both p q w
    ∙ keep_numbered c w (λ x. p x && q x) (in_layers (layers_numbered c (bit_and layers bits))) h (λ n lt. refl)
    (λ e lt. (λ i. layer_keeps c layers e h.indexed lt i && layer_keeps c bits e h.indexed lt i)
    ∙ (both_bits layers bits (parts_at c.edges e).layer ∙ sym (layer_keeps c (bit_and layers bits) e h.indexed lt)))

pub layers_more : (c : Contents) (r : Run) (bits : ℕ) (w : World) → IsShown c w → run_world c (record { window = r.window; layers = Some (masked r.layers bits); kept = r.kept; dropped = r.dropped }) w ≡ layer_world c bits (run_world c r w)
layers_more c r bits w h =
    let first = window_piece r.window w in
    let second = layer_piece c r.layers first in
    let third = node_piece c true r.kept second in
    let q = in_layers (layers_numbered c bits) in
    sym (test_past_nodes c false r.dropped third q
    ∙ ap (node_piece c false r.dropped) (test_past_nodes c true r.kept second q
    ∙ ap (node_piece c true r.kept) (mask_piece c r.layers bits first (shown_window c r.window w h))))

-- ---- a view of nodes more

-- a list says of each node what two lists say of it together
abbrev pub IsBoth : Bool → Option (List ℕ) → List ℕ → List ℕ → Type 0
IsBoth keeps o nodes both = (n : ℕ) → keeps_number keeps (is_listed both n) ≡ (passes keeps o n && keeps_number keeps (is_listed nodes n))

change_places : (a b d e : Bool) → ((a && b) && (d && e)) ≡ ((a && d) && (b && e))
change_places true true d e = refl
change_places true false true e = refl
change_places true false false e = refl
change_places false b d e = refl

node_pieces : (c : Contents) (keeps : Bool) (o : Option (List ℕ)) (nodes both : List ℕ) (w : World) → IsShown c w → IsBoth keeps o nodes both → node_world c keeps nodes (node_piece c keeps o w) ≡ node_world c keeps both w
node_pieces c keeps None nodes both w h rule =
    keep_numbered c w (chooses keeps (nodes_numbered c nodes)) (chooses keeps (nodes_numbered c both)) h
    (λ n lt. node_keeps c keeps nodes n h.indexed lt ∙ (sym (rule n) ∙ sym (node_keeps c keeps both n h.indexed lt)))
    (λ e lt.
    ends_keep c keeps nodes e h.indexed lt
    ∙ ((λ i. sym (rule (parts_at c.edges e).src) i && sym (rule (parts_at c.edges e).dst) i)
    ∙ sym (ends_keep c keeps both e h.indexed lt)))
node_pieces c keeps (Some old) nodes both w h rule =
    let p = chooses keeps (nodes_numbered c old) in
    let q = chooses keeps (nodes_numbered c nodes) in
    let has : ℕ → Bool = λ n. keeps_number keeps (is_listed old n) in
    let gets : ℕ → Bool = λ n. keeps_number keeps (is_listed nodes n) in
    keep_both p q w
    ∙ keep_numbered c w (λ x. p x && q x) (chooses keeps (nodes_numbered c both)) h
    (λ n lt.
    (λ i. node_keeps c keeps old n h.indexed lt i && node_keeps c keeps nodes n h.indexed lt i)
    ∙ (sym (rule n) ∙ sym (node_keeps c keeps both n h.indexed lt)))
    (λ e lt.
    let src = (parts_at c.edges e).src in
    let dst = (parts_at c.edges e).dst in
    (λ i. ends_keep c keeps old e h.indexed lt i && ends_keep c keeps nodes e h.indexed lt i)
    ∙ (change_places (has src) (has dst) (gets src) (gets dst)
    ∙ ((λ i. sym (rule src) i && sym (rule dst) i) ∙ sym (ends_keep c keeps both e h.indexed lt))))

pub kept_more : (c : Contents) (r : Run) (nodes both : List ℕ) (w : World) → IsShown c w → IsBoth true r.kept nodes both → run_world c (record { window = r.window; layers = r.layers; kept = Some both; dropped = r.dropped }) w ≡ node_world c true nodes (run_world c r w)
kept_more c r nodes both w h rule =
    let first = window_piece r.window w in
    let second = layer_piece c r.layers first in
    let third = node_piece c true r.kept second in
    let shown_second = shown_layers c r.layers first (shown_window c r.window w h) in
    sym (test_past_nodes c false r.dropped third (chooses true (nodes_numbered c nodes))
    ∙ ap (node_piece c false r.dropped) (node_pieces c true r.kept nodes both second shown_second rule))

pub dropped_more : (c : Contents) (r : Run) (nodes either : List ℕ) (w : World) → IsShown c w → IsBoth false r.dropped nodes either → run_world c (record { window = r.window; layers = r.layers; kept = r.kept; dropped = Some either }) w ≡ node_world c false nodes (run_world c r w)
dropped_more c r nodes either w h rule =
    let first = window_piece r.window w in
    let second = layer_piece c r.layers first in
    let third = node_piece c true r.kept second in
    let shown_second = shown_layers c r.layers first (shown_window c r.window w h) in
    sym (node_pieces c false r.dropped nodes either third (shown_nodes c true r.kept second shown_second) rule)
