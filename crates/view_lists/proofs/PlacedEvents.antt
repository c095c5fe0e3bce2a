-- The event at a place among those that a span spells.
use Rattle.std.proofs.Common.{◌≡◌, ℕ, zero, suc, ◌+◌, ◌-◌, ◌<◌, ◌≤◌, ℤ, Bool, true, false, ◌&&◌, List, [], ◌++◌, cond, length, take, drop, slice_range, eqb, refl, sym, ◌∙◌, ap, subst, arith}
use Rattle.std.proofs.lemmas.Bool.{and_parts, and_from, eqb-true, true≢false}
use Rattle.std.proofs.lemmas.Bool.Decides.{nat_tests}
use Rattle.std.proofs.lemmas.List.{get_or-take, get_or-drop, get_or_default, get_or-map, length-map}
use Rattle.graph_model.specs.declared.events.Entity.{Entity}
use Rattle.graph_model.specs.declared.events.Event.{Event}
use Rattle.graph_model.specs.Compare.{live_events}
use Rattle.graph_model.specs.Entity.{update_of}
use Rattle.graph_model.specs.Window.{carried_events, last_props}
use Rattle.graph_model.specs.World.{World, events_of}
use Rattle.time_history.specs.declared.updates.Update.{Update}
use Rattle.time_history.specs.declared.span.Span.{Span}
use Rattle.time_history.specs.Updates.{update_at, no_update}
use Rattle.time_history.specs.Telling.{event_told, events_told, Fits}
use Rattle.time_history.specs.Spans.{IsSpan, spelled}
use Rattle.time_history.proofs.Last.{carried_one}
use Rattle.graph_store.specs.Contents.{Contents, key_names_for}
use Rattle.view_trait.specs.Meaning.{Tells, Shows}
use Rattle.view_trait.proofs.Found.{spelled_is}
use Rattle.view_trait.proofs.SpanTimes.{length_spelled}
use Rattle.view_lists.specs.Listing.{no_event, event_at}

module _ (x : Entity) (names : ℕ → List ℕ) (us : List Update) where
  -- an event of a part of a history
  part_at : (from to k : ℕ) → to ≤ length us → k < to - from → event_at (slice_range (events_told x names us) from to) k ≡ event_told x names (update_at us (from + k))
  part_at from to k end lt =
      let n = length-map us (event_told x names) in
      let there : from + k < length us = omega arith in
      let told : from + k < length (events_told x names us) = omega (arith, n, there) in
      let last : Event = event_told x names no_update in
      get_or-take (to - from) (drop from (events_told x names us)) k no_event lt
      ∙ (get_or-drop from (events_told x names us) k no_event
      ∙ (get_or_default (events_told x names us) (from + k) no_event last told ∙ get_or-map (event_told x names) us (from + k) no_update last there))

  module _ (span : Span) (h : IsSpan us span) (fit : Fits x us) (lo : ℤ) where
    pub carried_at : (place : ℕ) → (span.carried && eqb place 0) ≡ true → record { time = lo; order = 0; what = update_of x (last_props (live_events (take span.from (events_told x names us)))) } ≡ event_at (spelled x names us span lo) place
    carried_at place e =
        let parts = and_parts span.carried (eqb place 0) e in
        let first : place ≡ 0 = eqb-true place 0 parts.1 in
        let order = h.order in
        let end = h.end in
        sym (ap (λ k. event_at (spelled x names us span lo) k) first
        ∙ (ap (λ b. event_at (cond b (carried_events lo (live_events (take span.from (events_told x names us)))) [] ++ slice_range (events_told x names us) span.from span.to) 0) parts.0
        ∙ ap (λ ys. event_at (ys ++ slice_range (events_told x names us) span.from span.to) 0) (carried_one x names us fit span.from (omega arith) (h.carried parts.0) lo)))

    pub own_at : (place i : ℕ) → (span.carried && eqb place 0) ≡ false → place < length (spelled x names us span lo) → i ≡ cond span.carried (span.from + (place - 1)) (span.from + place)
        → event_told x names (update_at us i) ≡ event_at (spelled x names us span lo) place
    own_at place i e lt is = by span.carried refl
      where
        by : (b : Bool) → span.carried ≡ b → event_told x names (update_at us i) ≡ event_at (spelled x names us span lo) place
        by true over = later place refl
          where
            later : (k : ℕ) → place ≡ k → event_told x names (update_at us i) ≡ event_at (spelled x names us span lo) place
            later zero first =
                let t : eqb place 0 ≡ true = grind (arith, nat_tests, first) in
                let yes : (span.carried && eqb place 0) ≡ true = and_from span.carried (eqb place 0) over t in
                absurd (true≢false (sym yes ∙ e))
            later (suc k) next =
                let order = h.order in
                let end = h.end in
                let size = length_spelled x names us span h fit lo in
                let one : cond {A = ℕ} span.carried 1 0 ≡ 1 = ap (λ b. cond b 1 0) over in
                let below : k < span.to - span.from = omega (arith, size, one, lt, next) in
                let n : i ≡ span.from + k = is ∙ (ap (λ b. cond b (span.from + (place - 1)) (span.from + place)) over ∙ omega (arith, next)) in
                ap (λ m. event_told x names (update_at us m)) n
                ∙ (sym (part_at span.from span.to k end below)
                ∙ sym (ap (λ m. event_at (spelled x names us span lo) m) next
                ∙ (ap (λ b. event_at (cond b (carried_events lo (live_events (take span.from (events_told x names us)))) [] ++ slice_range (events_told x names us) span.from span.to) (suc k)) over
                ∙ ap (λ ys. event_at (ys ++ slice_range (events_told x names us) span.from span.to) (suc k)) (carried_one x names us fit span.from (omega arith) (h.carried over) lo))))
        by false bare =
            let order = h.order in
            let end = h.end in
            let size = length_spelled x names us span h fit lo in
            let none : cond {A = ℕ} span.carried 1 0 ≡ 0 = ap (λ b. cond b 1 0) bare in
            let below : place < span.to - span.from = omega (arith, size, none, lt) in
            let n : i ≡ span.from + place = is ∙ ap (λ b. cond b (span.from + (place - 1)) (span.from + place)) bare in
            ap (λ m. event_told x names (update_at us m)) n
            ∙ (sym (part_at span.from span.to place end below)
            ∙ sym (ap (λ b. event_at (cond b (carried_events lo (live_events (take span.from (events_told x names us)))) [] ++ slice_range (events_told x names us) span.from span.to) place) bare))

-- ---- what a world shows of an entity

module _ (s c : Contents) (w : World) (x : Entity) (us : List Update) (span : Span) (same : s ≡ c) (tells : Tells s x us) (shows : Shows c w x span) where
  tells_world : Tells c x us
  tells_world = subst (λ v. Tells v x us) same tells

  pub span_shown : IsSpan us span
  span_shown = shows.span us tells_world

  spelled_world : (lo : ℤ) → lo ≡ w.bounds.lo → spelled x (key_names_for s x) us span lo ≡ events_of w x
  spelled_world lo is = (λ i. spelled x (key_names_for (same i) x) us span (is i)) ∙ spelled_is c w x us span tells_world shows

  pub shown_carried : (lo : ℤ) (place : ℕ) → lo ≡ w.bounds.lo → (span.carried && eqb place 0) ≡ true
      → record { time = lo; order = 0; what = update_of x (last_props (live_events (take span.from (events_told x (key_names_for s x) us)))) } ≡ event_at (events_of w x) place
  shown_carried lo place is e = carried_at x (key_names_for s x) us span span_shown tells.fits lo place e ∙ ap (λ ys. event_at ys place) (spelled_world lo is)

  pub shown_own : (place i : ℕ) → (span.carried && eqb place 0) ≡ false → place < length (events_of w x) → i ≡ cond span.carried (span.from + (place - 1)) (span.from + place) → event_told x (key_names_for s x) (update_at us i) ≡ event_at (events_of w x) place
  shown_own place i e lt is =
      let all = spelled_world w.bounds.lo refl in
      own_at x (key_names_for s x) us span span_shown tells.fits w.bounds.lo place i e (subst (λ ys. place < length ys) (sym all) lt) is ∙ ap (λ ys. event_at ys place) all

  pub count_shown : length (events_of w x) ≡ span.to - span.from + cond span.carried 1 0
  count_shown = sym (ap length (spelled_world w.bounds.lo refl)) ∙ length_spelled x (key_names_for s x) us span span_shown tells.fits w.bounds.lo
