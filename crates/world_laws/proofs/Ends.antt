-- Where windows begin and end.
use Rattle.std.proofs.Common.{◌≡◌, ℕ, ℤ, pos, negsuc, ◌+◌, ◌*◌, ◌≤◌, ◌+ℤ◌, ◌*ℤ◌, ◌≤ℤ◌, ◌<ℤ◌, ◌^◌, true, Some, refl, arith}
use Rattle.std.specs.Prelude.{neg_ℤ}
use Rattle.std.proofs.Math.Nat.{mul-le-mul_right}
use Rattle.std.proofs.lemmas.Int.{ints}
use Rattle.std.proofs.lemmas.Bool.{and_parts}
use Rattle.graph_model.specs.declared.queries.Op.{Op}
use Rattle.graph_model.specs.declared.queries.Op.TheVariants.{Window, At, Before, After, Layers, ExcludeLayers, Subgraph, ExcludeNodes, EdgesWhere, NodesWhere, Valid, NodeTypes}
use Rattle.graph_model.specs.declared.queries.Each.{Each}
use Rattle.graph_model.specs.declared.queries.Each.TheVariants.{Rolling, Expanding}
use Rattle.graph_model.specs.Interval.{earliest, latest}
use Rattle.graph_model.specs.Range.{is_step, each_in_range}
use Rattle.graph_model.specs.Searches.{kind_of_view, IsWindow}
use Rattle.graph_model.specs.Windows.{window_start, window_end, step_of}
use Rattle.world_laws.specs.Ends.{window_ends, IsWindowInRow}
use Rattle.world_laws.proofs.Times.{le_from_test}
use Rattle.world_laws.proofs.Rolling.{counted_windows}

pub ends_of_window : (op : Op) → kind_of_view op ≡ IsWindow → (ends : ℤ × ℤ) × (window_ends op ≡ Some ends)
ends_of_window (Window a b) h = ((a, b), refl)
ends_of_window (At t) h = ((t, t +ℤ pos 1), refl)
ends_of_window (Before t) h = ((earliest, t), refl)
ends_of_window (After t) h = ((t +ℤ pos 1, latest), refl)
ends_of_window (Layers names) h = cc
ends_of_window (ExcludeLayers names) h = cc
ends_of_window (Subgraph names) h = cc
ends_of_window (ExcludeNodes names) h = cc
ends_of_window (EdgesWhere key c v) h = cc
ends_of_window (NodesWhere key c v) h = cc
ends_of_window Valid h = cc
ends_of_window (NodeTypes names) h = cc

step_bounds : (s : ℤ) → is_step s ≡ true → (pos 1 ≤ℤ s) × (s ≤ℤ latest)
step_bounds s h = let k = and_parts _ _ h in (le_from_test (pos 1) s k.0, le_from_test s latest k.1)

each_step : (each : Each) → each_in_range each ≡ true → (pos 1 ≤ℤ step_of each) × (step_of each ≤ℤ latest)
each_step (Rolling width step) h = step_bounds step (and_parts (is_step width) (is_step step) h).1
each_step (Expanding step) h = step_bounds step h

-- a step more
one_step_more : (k : ℕ) (s : ℤ) → pos 1 ≤ℤ s → pos (k + 1) *ℤ s ≡ (pos k *ℤ s) +ℤ s
one_step_more k (pos s) h = omega (arith, ints)
one_step_more k (negsuc s) h = absurd (omega (arith, ints))

-- the end of a window is no more than a step past the last time
pub end_fits : (each : Each) (first last : ℤ) (k : ℕ) → IsWindowInRow each first last k → window_end each first k <ℤ pos (2 ^ 63)
end_fits each first last k h =
    let s = each_step each h.in_range in
    let low = s.0 in
    let high = s.1 in
    let below = h.ends in
    let reached = (counted_windows each first last k low h.order).0 h.counted in
    let more = one_step_more k (step_of each) low in
    omega (arith, ints)

product_bound : (k : ℕ) (s : ℤ) → pos 1 ≤ℤ s → pos 1 ≤ℤ (pos (k + 1) *ℤ s)
product_bound k (pos s) h = let m : 1 * s ≤ (k + 1) * s = mul-le-mul_right s (omega arith) in omega (arith, ints)
product_bound k (negsuc s) h = absurd (omega (arith, ints))

-- the beginning of a window is no more than a width before the first end
pub start_fits : (each : Each) (first last : ℤ) (k : ℕ) → IsWindowInRow each first last k → neg_ℤ (pos (2 ^ 63)) ≤ℤ window_start each first k
start_fits (Rolling width step) first last k h =
    let low = h.begins in
    let wide = (step_bounds width (and_parts (is_step width) (is_step step) h.in_range).0).1 in
    let far = product_bound k step (each_step (Rolling width step) h.in_range).0 in
    omega (arith, ints)
start_fits (Expanding step) first last k h = let low = h.begins in omega (arith, ints)
