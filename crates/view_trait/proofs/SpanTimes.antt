-- The times of the first and the last event that a span spells, and how many there are.
use Rattle.std.proofs.Common.{◌≡◌, ℕ, ◌+◌, ◌-◌, ◌<◌, ◌≤◌, ℤ, Bool, true, false, List, [], ◌∷◌, ◌++◌, cond, length, map, take, drop, slice_range, Some, refl, sym, ◌∙◌, ap, arith, append_assoc, length-append}
use Rattle.std.proofs.lemmas.List.{length-map, length-take, length-drop}
use Rattle.graph_model.specs.declared.events.Entity.{Entity}
use Rattle.graph_model.specs.declared.events.Event.{Event}
use Rattle.graph_model.specs.Compare.{live_events}
use Rattle.graph_model.specs.Entity.{update_of}
use Rattle.graph_model.specs.Window.{carried_events, last_props}
use Rattle.graph_model.specs.Windows.{last_time}
use Rattle.time_history.specs.declared.updates.Update.{Update}
use Rattle.time_history.specs.declared.span.Span.{Span}
use Rattle.time_history.specs.Updates.{update_at}
use Rattle.time_history.specs.Telling.{event_told, events_told, Fits}
use Rattle.time_history.specs.Spans.{IsSpan, spelled}
use Rattle.time_history.proofs.Segments.{slice_split, slice_map, slice_nothing}
use Rattle.time_history.proofs.Alive.{slice_one}
use Rattle.time_history.proofs.Last.{carried_one}
use Rattle.graph_store.specs.Contents.{Contents, key_names_for}
use Rattle.view_trait.specs.Meaning.{Tells}
use Rattle.view_trait.proofs.Found.{events_fit}
use Rattle.view_trait.specs.Extent.{time_of_first, time_of_last}

last_time-push : (t : ℤ) (xs : List Event) (x : Event) → last_time t (xs ++ x ∷ []) ≡ x.time
last_time-push t [] x = refl
last_time-push t (y ∷ xs) x = last_time-push y.time xs x

time_of_last-push : (xs : List Event) (x : Event) → time_of_last (xs ++ x ∷ []) ≡ Some x.time
time_of_last-push [] x = refl
time_of_last-push (y ∷ xs) x = ap Some (last_time-push y.time xs x)

-- an entity has no more updates than there are accepted events
pub few_told : (c : Contents) (x : Entity) (us : List Update) → Tells c x us → length us ≤ length c.accepted
few_told c x us t =
    let e = sym (length-map us (event_told x (key_names_for c x))) ∙ ap length t.told in
    let k = events_fit c x in
    omega (arith, e, k)

module _ (x : Entity) (names : ℕ → List ℕ) (us : List Update) (s : Span) (span : IsSpan us s) (fit : Fits x us) (lo : ℤ) where
  abbrev events : List Event
  events = events_told x names us

  abbrev head : List Event
  head = cond s.carried (carried_events lo (live_events (take s.from events))) []

  one_told : (k : ℕ) → k < length us → slice_range events k (k + 1) ≡ event_told x names (update_at us k) ∷ []
  one_told k lt = slice_map (event_told x names) us k (k + 1) ∙ ap (map (event_told x names)) (slice_one us k lt)

  slice_first : s.from < s.to → slice_range events s.from s.to ≡ event_told x names (update_at us s.from) ∷ slice_range events (s.from + 1) s.to
  slice_first lt =
      let end = span.end in
      slice_split events s.from (s.from + 1) s.to (omega arith) (omega arith) ∙ ap (λ ys. ys ++ slice_range events (s.from + 1) s.to) (one_told s.from (omega arith))

  slice_last : s.from < s.to → slice_range events s.from s.to ≡ slice_range events s.from (s.to - 1) ++ event_told x names (update_at us (s.to - 1)) ∷ []
  slice_last lt =
      let end = span.end in
      let next : s.to ≡ s.to - 1 + 1 = omega arith in
      slice_split events s.from (s.to - 1) s.to (omega arith) (omega arith)
      ∙ ap (λ ys. slice_range events s.from (s.to - 1) ++ ys) (ap (slice_range events (s.to - 1)) next ∙ one_told (s.to - 1) (omega arith))

  abbrev carried_first : Event
  carried_first = record { time = lo; order = 0; what = update_of x (last_props (live_events (take s.from events))) }

  head_carried : s.carried ≡ true → head ≡ carried_first ∷ []
  head_carried e =
      let order = span.order in
      let end = span.end in
      ap (λ b. cond b (carried_events lo (live_events (take s.from events))) []) e ∙ carried_one x names us fit s.from (omega arith) (span.carried e) lo

  head_nothing : s.carried ≡ false → head ≡ []
  head_nothing e = ap (λ b. cond b (carried_events lo (live_events (take s.from events))) []) e

  pub first_carried : s.carried ≡ true → time_of_first (spelled x names us s lo) ≡ Some lo
  first_carried e = ap (λ ys. time_of_first (ys ++ slice_range events s.from s.to)) (head_carried e)

  pub first_inside : s.carried ≡ false → s.from < s.to → time_of_first (spelled x names us s lo) ≡ Some (update_at us s.from).time
  first_inside e lt = ap (λ ys. time_of_first (ys ++ slice_range events s.from s.to)) (head_nothing e) ∙ ap time_of_first (slice_first lt)

  pub last_inside : s.from < s.to → time_of_last (spelled x names us s lo) ≡ Some (update_at us (s.to - 1)).time
  last_inside lt =
      let y = event_told x names (update_at us (s.to - 1)) in
      let front = slice_range events s.from (s.to - 1) in
      ap (λ ys. time_of_last (head ++ ys)) (slice_last lt) ∙ (ap time_of_last (sym (append_assoc head front (y ∷ []))) ∙ time_of_last-push (head ++ front) y)

  slice_bare : s.to ≤ s.from → slice_range events s.from s.to ≡ []
  slice_bare le =
      let order = span.order in
      let same : s.to ≡ s.from = omega arith in
      ap (slice_range events s.from) same ∙ slice_nothing events s.from

  pub last_carried : s.to ≤ s.from → s.carried ≡ true → time_of_last (spelled x names us s lo) ≡ Some lo
  last_carried le e = ap (λ ys. time_of_last (head ++ ys)) (slice_bare le) ∙ ap (λ ys. time_of_last (ys ++ [])) (head_carried e)

  pub none_spelled : s.to ≤ s.from → s.carried ≡ false → spelled x names us s lo ≡ []
  none_spelled le e = ap (λ ys. head ++ ys) (slice_bare le) ∙ ap (λ ys. ys ++ []) (head_nothing e)

  length_head : (b : Bool) → s.carried ≡ b → length head ≡ cond b 1 0
  length_head true e = ap length (head_carried e)
  length_head false e = ap length (head_nothing e)

  pub length_spelled : length (spelled x names us s lo) ≡ s.to - s.from + cond s.carried 1 0
  length_spelled =
      let n : length events ≡ length us = length-map us (event_told x names) in
      let end = span.end in
      let a = length-append head (slice_range events s.from s.to) in
      let b : length (slice_range events s.from s.to) ≡ s.to - s.from = (let t = length-take (s.to - s.from) (drop s.from events) in let r = length-drop s.from events in omega (arith, n, t, r)) in
      let d : length head ≡ cond s.carried 1 0 = length_head s.carried refl in
      omega (arith, a, b, d)
