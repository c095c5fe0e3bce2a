-- The places of windows in a row.
use Rattle.std.proofs.Common.{◌≡◌, ℕ, ℤ, suc, pos, negsuc, ◌+◌, ◌-◌, ◌<◌, ◌+ℤ◌, ◌*ℤ◌, ◌≤ℤ◌, ◌<ℤ◌, List, [], ◌∷◌, Some, true, map, length, refl, sym, ◌∙◌, ap, arith}
use Rattle.std.specs.List.{range_with_len}
use Rattle.std.proofs.lemmas.Int.{ints}
use Rattle.std.proofs.lemmas.Bool.{and_parts}
use Rattle.std.proofs.lemmas.List.FromFn.{length-map-range_with_len}
use Rattle.graph_model.specs.declared.events.Event.{Event}
use Rattle.graph_model.specs.declared.queries.Each.{Each}
use Rattle.graph_model.specs.declared.queries.Each.TheVariants.{Rolling, Expanding}
use Rattle.graph_model.specs.Interval.{earliest, latest}
use Rattle.graph_model.specs.Range.{is_step, each_in_range}
use Rattle.graph_model.specs.World.{World}
use Rattle.graph_model.specs.Window.{window}
use Rattle.graph_model.specs.Windows.{windows, windows_from, step_of, bounded, window_start, window_end, window_count, last_time}
use Rattle.world_laws.proofs.Times.{le_from_test}
use Rattle.world_laws.proofs.Rolling.{counted_windows}
use Rattle.window_ends.specs.Ends.{ends_at, ends_from, all_ends, windows_at, HaveEnds}

pub step_bounds : (s : ℤ) → is_step s ≡ true → (pos 1 ≤ℤ s) × (s ≤ℤ latest)
step_bounds s h = let k = and_parts _ _ h in (le_from_test (pos 1) s k.0, le_from_test s latest k.1)

pub each_step : (each : Each) → each_in_range each ≡ true → (pos 1 ≤ℤ step_of each) × (step_of each ≤ℤ latest)
each_step (Rolling width step) h = step_bounds step (and_parts (is_step width) (is_step step) h).1
each_step (Expanding step) h = step_bounds step h

pub each_width : (width step : ℤ) → each_in_range (Rolling width step) ≡ true → (pos 1 ≤ℤ width) × (width ≤ℤ latest)
each_width width step h = step_bounds width (and_parts (is_step width) (is_step step) h).0

-- k steps are not back
pub steps_forth : (k : ℕ) (s : ℤ) → pos 1 ≤ℤ s → pos 0 ≤ℤ (pos k *ℤ s)
steps_forth k (pos s) h = omega (arith, ints)
steps_forth k (negsuc s) h = absurd (omega (arith, ints))

one_step_more : (k : ℕ) (s : ℤ) → pos 1 ≤ℤ s → pos (k + 1) *ℤ s ≡ (pos k *ℤ s) +ℤ s
one_step_more k (pos s) h = omega (arith, ints)
one_step_more k (negsuc s) h = absurd (omega (arith, ints))

-- a window ends a step after what the windows before it have reached
pub end_after : (each : Each) (first : ℤ) (k : ℕ) → pos 1 ≤ℤ step_of each → window_end each first k ≡ (first +ℤ (pos k *ℤ step_of each)) +ℤ step_of each
end_after each first k h = let e = one_step_more k (step_of each) h in omega (arith, ints)

-- ---- rows

pub ends_from-next : (each : Each) (first : ℤ) (k n : ℕ) → k < n → ends_from each first k (n - k) ≡ ends_at each first k ∷ ends_from each first (k + 1) (n - (k + 1))
ends_from-next each first k n h = let e : n - k ≡ suc (n - (k + 1)) = omega arith in ap (ends_from each first k) e

pub ends_from-end : (each : Each) (first : ℤ) (k n : ℕ) → k ≡ n → ends_from each first k (n - k) ≡ []
ends_from-end each first k n h = let e : n - k ≡ 0 = omega arith in ap (ends_from each first k) e

pub length-ends_from : (each : Each) (first : ℤ) (k n : ℕ) → length (ends_from each first k n) ≡ n
length-ends_from each first k n = length-map-range_with_len (ends_at each first) k n

-- each step of a counted row begins at a moment
pub HaveEnds-counted : (each : Each) (first last : ℤ) (n : ℕ) → each_in_range each ≡ true → earliest ≤ℤ first → first ≤ℤ last → last <ℤ latest → n ≡ window_count each first last → HaveEnds each first 0 n
HaveEnds-counted each first last n range low order high e = record {
  in_range = range;
  begins = low;
  order = omega arith;
  reached = λ k h. let r = (counted_windows each first last k (each_step each range).0 order).0 (omega (arith, e, h)) in omega (arith, ints);
}

-- ---- worlds

windows_at-each : (w : World) (each : Each) (first : ℤ) (ks : List ℕ)
    → windows_at w (map (ends_at each first) ks) ≡ map (λ k. window w (bounded (window_start each first k)) (bounded (window_end each first k))) ks
windows_at-each w each first [] = refl
windows_at-each w each first (k ∷ ks) = ap (λ (ys : List World). window w (bounded (window_start each first k)) (bounded (window_end each first k)) ∷ ys) (windows_at-each w each first ks)

-- the ends of a row give the windows of a world
pub windows_at-all : (w : World) (each : Each) (x : Event) (xs : List Event) → w.events ≡ x ∷ xs → windows_at w (all_ends each x.time (last_time x.time xs)) ≡ windows w (Some each)
windows_at-all w each x xs e = windows_at-each w each x.time (range_with_len 0 (window_count each x.time (last_time x.time xs))) ∙ ap (windows_from w each) (sym e)

pub no_windows : (w : World) (each : Each) → w.events ≡ [] → windows w (Some each) ≡ []
no_windows w each e = ap (windows_from w each) e
