-- What windows and views of layers come to.
use Rattle.std.proofs.Common.{◌≡◌, ℕ, ℤ, ◌-◌, ◌^◌, Bool, true, false, List, [], ◌∷◌, ◌++◌, Some, cond, refl, sym, ◌∙◌, ap, arith, inl, inr}
use Rattle.std.specs.Prelude.{bit_and, eqb, int_lt, int_le}
use Rattle.std.specs.Int.{bit_at, int_max, int_min}
use Rattle.std.specs.List.{filter, AllByRecursion}
use Rattle.std.proofs.lemmas.Bool.{cases_Bool}
use Rattle.std.proofs.lemmas.Nat.Bits.{bit_at_ones}
use Rattle.graph_model.specs.declared.events.Event.{Event}
use Rattle.graph_model.specs.declared.events.Model.{Model}
use Rattle.graph_model.specs.declared.events.Model.TheVariants.{Event as Instants, Persistent}
use Rattle.graph_model.specs.Interval.{Interval, cut, is_empty, is_inside}
use Rattle.graph_model.specs.Keep.{keep, in_layers}
use Rattle.graph_model.specs.Window.{is_early, is_within, all_carried, window, window_list}
use Rattle.graph_model.specs.World.{World, IsLawful, arrange, remake, names_node, types_in}
use Rattle.world_laws.proofs.Filters.{filter_all, filter_none, each_weaker}
use Rattle.world_laws.proofs.Kept.{keep-window}
use Rattle.world_laws.proofs.Lawful.{each_passes}
use Rattle.world_laws.proofs.Times.{empty_none, inside_lo, le_from_test, not_lt_test}
use Rattle.world_laws.proofs.Windows.{window_twice}
use Rattle.graph_store.specs.EdgeParts.{parts_at}
use Rattle.graph_store.specs.Contents.{Contents}
use Rattle.view_trait.specs.Meaning.{IsShown}
use Rattle.view_trait.specs.Numbered.{layers_numbered, layer_world}
use Rattle.view_trait.proofs.Kept.{layer_keeps}
use Rattle.view_trait.proofs.Shown.{IsShown-window}
use Rattle.fused_view.specs.declared.lanes.Lanes.{Lanes}
use Rattle.fused_view.specs.Lanes.{lane_world}
use Rattle.fused_view.proofs.Merged.{keep_numbered, mask_piece}

-- ---- a world is its own window of all its moments

same_either : {X : Type 0} (b : Bool) (x : X) → cond b x x ≡ x
same_either true x = refl
same_either false x = refl

cut_own : (i : Interval) → int_le i.lo i.hi ≡ true → cut i i.lo i.hi ≡ i
cut_own i h =
    let lo : int_max i.lo i.lo ≡ i.lo = same_either (int_lt i.lo i.lo) i.lo in
    let hi : int_min i.hi i.hi ≡ i.hi = same_either (int_lt i.hi i.hi) i.hi in
    let top : int_max i.lo i.hi ≡ i.hi = ap (λ b. cond b i.lo i.hi) (not_lt_test i.hi i.lo (le_from_test i.lo i.hi h)) in
    (λ k. record { lo = lo k; hi = int_max (lo k) (hi k) }) ∙ ap (λ t. record { lo = i.lo; hi = t }) top

-- nothing is early that is inside
none_early : (i : Interval) (x : Event) → is_inside i x.time ≡ true → is_early i x ≡ false
none_early i x h = not_lt_test x.time i.lo (inside_lo i x.time h)

-- where all is inside, a moment is
some_inside : (i : Interval) (xs : List Event) → AllByRecursion (λ (x : Event). is_inside i x.time ≡ true) xs → is_empty i ≡ true → xs ≡ []
some_inside i [] h e = refl
some_inside i (x ∷ xs) h e = absurd (let no : true ≡ false = sym h.0 ∙ empty_none i x.time e in cc)

own_list : (model : Model) (i : Interval) (xs : List Event) → arrange xs ≡ xs → AllByRecursion (λ (x : Event). is_inside i x.time ≡ true) xs → window_list model i xs ≡ xs
own_list Instants i xs arranged inside = filter_all (is_within i) xs inside
own_list Persistent i xs arranged inside =
    let early = filter_none (is_early i) xs (each_weaker (λ (x : Event). is_inside i x.time ≡ true) (λ (x : Event). is_early i x ≡ false) (none_early i) xs inside) in
    let shown : List Event = arrange (all_carried i.lo (filter (is_early i) xs) ++ filter (is_within i) xs) in
    let all : shown ≡ xs = ap (λ es. arrange (all_carried i.lo es ++ filter (is_within i) xs)) early ∙ (ap arrange (filter_all (is_within i) xs inside) ∙ arranged) in
    elim (cases_Bool (is_empty i)) [
      | inl e ↦ ap (λ b. cond b [] shown) e ∙ sym (some_inside i xs inside e)
      | inr e ↦ ap (λ b. cond b [] shown) e ∙ all
    ]

own_types : (w : World) → IsLawful w → types_in w.events w.types ≡ w.types
own_types w h = filter_all (λ (t : List ℕ × List ℕ). names_node w.events t.0) w.types (each_passes (λ (t : List ℕ × List ℕ). names_node w.events t.0) w.types h.types_named)

window_own : (w : World) → IsLawful w → window w w.bounds.lo w.bounds.hi ≡ w
window_own w h =
    let i = w.bounds in
    let list = own_list w.model i w.events h.arranged (each_passes (λ (x : Event). is_inside i x.time) w.events h.inside) in
    ap (λ j. remake w j (window_list w.model j w.events)) (cut_own i h.bounds)
    ∙ (ap (remake w i) list ∙ ap (λ types. record w { types = types }) (own_types w h))

-- ---- all layers

keep_each : (w : World) → IsLawful w → keep (λ x. true) w ≡ w
keep_each w h =
    ap (remake w w.bounds) (filter_all (λ (x : Event). true) w.events (each_weaker (λ (x : Event). is_inside w.bounds x.time ≡ true) (λ (x : Event). true ≡ true) (λ x k. refl) w.events (each_passes (λ (x : Event). is_inside w.bounds x.time) w.events h.inside)))
    ∙ ap (λ types. record w { types = types }) (own_types w h)

layers_all : (c : Contents) (w : World) → IsShown c w → layer_world c (2 ^ 64 - 1) w ≡ w
layers_all c w h =
    keep_numbered c w (in_layers (layers_numbered c (2 ^ 64 - 1))) (λ x. true) h (λ n lt. refl)
    (λ e lt.
    let p = (h.indexed.within e lt).2 in
    let f = h.few_layers in
    let one : bit_at (2 ^ 64 - 1) (parts_at c.edges e).layer ≡ 1 = bit_at_ones 64 (parts_at c.edges e).layer (omega arith) in
    layer_keeps c (2 ^ 64 - 1) e h.indexed lt ∙ ap (λ n. eqb n 1) one)
    ∙ keep_each w h.lawful

-- all moments of a world, and all layers
pub lanes_whole : (c : Contents) (w : World) → IsShown c w → lane_world c (record { from = w.bounds.lo; to = w.bounds.hi; layers = 2 ^ 64 - 1 }) w ≡ w
lanes_whole c w h = ap (layer_world c (2 ^ 64 - 1)) (window_own w h.lawful) ∙ layers_all c w h

-- ---- one view more

pub lanes_window : (c : Contents) (w : World) (l : Lanes) (a b : ℤ) → IsShown c w → lane_world c (record { from = int_max l.from a; to = int_min l.to b; layers = l.layers }) w ≡ window (lane_world c l w) a b
lanes_window c w l a b h =
    let first = window w l.from l.to in
    sym (sym (keep-window (in_layers (layers_numbered c l.layers)) first a b (IsShown-window c w l.from l.to h).lawful)
    ∙ ap (layer_world c l.layers) (window_twice w l.from l.to a b h.lawful))

pub lanes_layers : (c : Contents) (w : World) (l : Lanes) (bits : ℕ) → IsShown c w → lane_world c (record { from = l.from; to = l.to; layers = bit_and l.layers bits }) w ≡ layer_world c bits (lane_world c l w)
lanes_layers c w l bits h = sym (mask_piece c (Some l.layers) bits (window w l.from l.to) (IsShown-window c w l.from l.to h))
