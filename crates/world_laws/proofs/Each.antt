-- The windows of a world, one after another.
use Rattle.std.proofs.Common.{◌≡◌, ℕ, ℤ, zero, suc, ◌+◌, ◌<◌, List, [], ◌∷◌, Option, Some, None, option_map, map, length, ◌∙◌, ap, arith}
use Rattle.std.specs.Prelude.{slice_get}
use Rattle.std.specs.List.{range_with_len, AllByRecursion, Contains}
use Rattle.std.proofs.lemmas.Option.{slice_get-map}
use Rattle.std.proofs.lemmas.List.FromFn.{length-map-range_with_len}
use Rattle.graph_model.specs.declared.events.Event.{Event}
use Rattle.graph_model.specs.declared.queries.Each.{Each}
use Rattle.graph_model.specs.World.{World, IsLawful}
use Rattle.graph_model.specs.Window.{window}
use Rattle.graph_model.specs.Windows.{windows, windows_from, window_start, window_end, window_count, last_time, bounded}
use Rattle.world_laws.proofs.Lawful.{IsLawful-window}
use Rattle.world_laws.proofs.Rows.{each_contained}

slice_get-range : (a n k : ℕ) → k < n → slice_get (range_with_len a n) k ≡ Some (a + k)
slice_get-range a zero k h = absurd (omega arith)
slice_get-range a (suc n) zero h = ap Some (omega arith)
slice_get-range a (suc n) (suc k) h = slice_get-range (a + 1) n k (omega arith) ∙ ap Some (omega arith)

module _ (w : World) (each : Each) where
  -- the k-th window
  pub window_at : ℤ → ℕ → World
  window_at first k = window w (bounded (window_start each first k)) (bounded (window_end each first k))

  pub count_of_windows : (x : Event) (xs : List Event) → w.events ≡ x ∷ xs → length (windows w (Some each)) ≡ window_count each x.time (last_time x.time xs)
  unfolding window_at
  count_of_windows x xs e =
      ap (λ ys. length (windows_from w each ys)) e ∙ length-map-range_with_len (window_at x.time) 0 (window_count each x.time (last_time x.time xs))

  pub place_of_window : (x : Event) (xs : List Event) (k : ℕ) → w.events ≡ x ∷ xs → k < window_count each x.time (last_time x.time xs)
      → slice_get (windows w (Some each)) k ≡ Some (window w (bounded (window_start each x.time k)) (bounded (window_end each x.time k)))
  unfolding window_at
  place_of_window x xs k e h =
      let n = window_count each x.time (last_time x.time xs) in
      let zeroth : 0 + k ≡ k = omega arith in
      ap (λ ys. slice_get (windows_from w each ys) k) e
      ∙ (slice_get-map (window_at x.time) (range_with_len 0 n) k ∙ ap (option_map (window_at x.time)) (slice_get-range 0 n k h ∙ ap Some zeroth))

  lawful_windows_at : (first : ℤ) (ks : List ℕ) → IsLawful w → AllByRecursion IsLawful (map (window_at first) ks)
  unfolding window_at
  lawful_windows_at first [] h = tt
  lawful_windows_at first (k ∷ ks) h = (IsLawful-window w (bounded (window_start each first k)) (bounded (window_end each first k)) h, lawful_windows_at first ks h)

  lawful_windows_from : (xs : List Event) → IsLawful w → AllByRecursion IsLawful (windows_from w each xs)
  unfolding window_at
  lawful_windows_from [] h = tt
  lawful_windows_from (x ∷ xs) h = lawful_windows_at x.time (range_with_len 0 (window_count each x.time (last_time x.time xs))) h

pub lawful_windows : (w v : World) (each : Option Each) → IsLawful w → Contains (windows w each) v → IsLawful v
lawful_windows w v None h k = each_contained IsLawful (w ∷ []) v (h, tt) k
lawful_windows w v (Some each) h k = each_contained IsLawful (windows_from w each w.events) v (lawful_windows_from w each w.events h) k
