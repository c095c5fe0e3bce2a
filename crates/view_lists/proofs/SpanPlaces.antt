-- The places of the events of a span.
use Rattle.std.proofs.Common.{◌≡◌, ℕ, ◌+◌, ◌-◌, ◌<◌, ◌≤◌, ℤ, Bool, true, false, List, [], ◌∷◌, ◌++◌, cond, length, map, take, drop, slice_range, get_or, refl, sym, ◌∙◌, ap, arith, append_assoc}
use Rattle.std.proofs.lemmas.List.{length-map, length-take, length-drop, take_more, length-take-le, get_or-map}
use Rattle.std.proofs.Math.Seq.{take-length}
use Rattle.graph_model.specs.declared.events.Entity.{Entity}
use Rattle.graph_model.specs.declared.events.Event.{Event}
use Rattle.graph_model.specs.Compare.{live_events}
use Rattle.graph_model.specs.Window.{carried_events}
use Rattle.graph_model.specs.World.{World, events_of}
use Rattle.time_history.specs.declared.updates.Update.{Update}
use Rattle.time_history.specs.declared.span.Span.{Span}
use Rattle.time_history.specs.Updates.{update_at}
use Rattle.time_history.specs.Telling.{event_told, events_told, Fits}
use Rattle.time_history.specs.Spans.{IsSpan, spelled}
use Rattle.time_history.proofs.Segments.{slice_split, slice_map}
use Rattle.time_history.proofs.Alive.{slice_one}
use Rattle.time_history.proofs.Last.{carried_one}
use Rattle.graph_store.specs.Contents.{Contents, key_names_for}
use Rattle.view_trait.specs.Meaning.{Tells, Shows}
use Rattle.view_trait.proofs.Found.{spelled_is}
use Rattle.view_lists.specs.declared.listing.ShownEntity.{ShownEntity}
use Rattle.view_lists.specs.declared.listing.EventPlace.{EventPlace}
use Rattle.view_lists.specs.Listing.{entities_of, placed_from, all_placed}
use Rattle.view_lists.proofs.ShownOnes.{entity_shown}
use Rattle.view_lists.proofs.Placing.{placed_push, all_push}

module _ (x : Entity) (names : ℕ → List ℕ) (us : List Update) where
  length_part : (from i : ℕ) → from ≤ i → i ≤ length us → length (slice_range (events_told x names us) from i) ≡ i - from
  length_part from i le end =
      let n = length-map us (event_told x names) in
      let t = length-take (i - from) (drop from (events_told x names us)) in
      let r = length-drop from (events_told x names us) in
      omega (arith, n, t, r)

  part_more : (from i : ℕ) → from ≤ i → i < length us → slice_range (events_told x names us) from (i + 1) ≡ slice_range (events_told x names us) from i ++ event_told x names (update_at us i) ∷ []
  part_more from i le lt =
      slice_split (events_told x names us) from i (i + 1) le (omega arith)
      ∙ ap (λ ys. slice_range (events_told x names us) from i ++ ys) (slice_map (event_told x names) us i (i + 1) ∙ ap (map (event_told x names)) (slice_one us i lt))

  -- one more update
  pub span_more : (s count from i : ℕ) (front old new : List EventPlace) (p : EventPlace) → from ≤ i → i < length us → old ≡ front ++ placed_from s count (slice_range (events_told x names us) from i)
      → new ≡ old ++ p ∷ [] → p ≡ record { time = (update_at us i).time; shown = s; place = i - from + count } → new ≡ front ++ placed_from s count (slice_range (events_told x names us) from (i + 1))
  span_more s count from i front old new p le lt before pushed is =
      let part = slice_range (events_told x names us) from i in
      let y = event_told x names (update_at us i) in
      let n : i - from + count ≡ count + length part = (let m = length_part from i le (omega arith) in omega (arith, m)) in
      pushed
      ∙ (ap (λ ps. ps ++ p ∷ []) before
      ∙ (append_assoc front (placed_from s count part) (p ∷ [])
      ∙ ap (λ ps. front ++ ps) (ap (λ q. placed_from s count part ++ q ∷ []) (is ∙ ap (λ m. record { time = (update_at us i).time; shown = s; place = m }) n)
      ∙ (sym (placed_push s count part y) ∙ ap (placed_from s count) (sym (part_more from i le lt))))))

  module _ (span : Span) (h : IsSpan us span) (fit : Fits x us) (lo : ℤ) where
    -- what is carried, and then the updates
    pub span_all : (s count : ℕ) (old front new : List EventPlace) → front ≡ old ++ cond span.carried (record { time = lo; shown = s; place = 0 } ∷ []) [] → count ≡ cond span.carried 1 0
        → new ≡ front ++ placed_from s count (slice_range (events_told x names us) span.from span.to) → new ≡ old ++ placed_from s 0 (spelled x names us span lo)
    span_all s count old front new begun counted done =
        done
        ∙ ((λ i. begun i ++ placed_from s (counted i) part)
        ∙ (append_assoc old (cond span.carried (record { time = lo; shown = s; place = 0 } ∷ []) []) (placed_from s (cond span.carried 1 0) part)
        ∙ ap (λ ps. old ++ ps) (by span.carried refl)))
      where
        part : List Event
        part = slice_range (events_told x names us) span.from span.to

        by : (b : Bool) → span.carried ≡ b → cond b (record { time = lo; shown = s; place = 0 } ∷ []) [] ++ placed_from s (cond b 1 0) (slice_range (events_told x names us) span.from span.to)
            ≡ placed_from s 0 (cond b (carried_events lo (live_events (take span.from (events_told x names us)))) [] ++ slice_range (events_told x names us) span.from span.to)
        by true e =
            let order = h.order in let end = h.end in
            sym (ap (λ ys. placed_from s 0 (ys ++ slice_range (events_told x names us) span.from span.to)) (carried_one x names us fit span.from (omega arith) (h.carried e) lo))
        by false e = refl

-- the places of the events that a world shows of an entity
pub places_shown : (c : Contents) (w : World) (x : Entity) (us : List Update) (span : Span) (s : ℕ) (lo : ℤ) (old new : List EventPlace) → Tells c x us → Shows c w x span → lo ≡ w.bounds.lo
    → ((y : Entity) (names : ℕ → List ℕ) → Fits y us → new ≡ old ++ placed_from s 0 (spelled y names us span lo)) → new ≡ old ++ placed_from s 0 (events_of w x)
places_shown c w x us span s lo old new tells shows is h =
    h x (key_names_for c x) tells.fits
    ∙ ap (λ ys. old ++ placed_from s 0 ys) (ap (spelled x (key_names_for c x) us span) is ∙ spelled_is c w x us span tells shows)

-- the places of one more entity
pub places_more : (w : World) (xs : List ShownEntity) (i : ℕ) (one : ShownEntity) (old new : List EventPlace) → i < length xs → get_or xs i one ≡ one → old ≡ all_placed w 0 (take i (entities_of xs)) → new ≡ old ++ placed_from i 0 (events_of w (entity_shown one))
    → new ≡ all_placed w 0 (take (i + 1) (entities_of xs))
places_more w xs i one old new lt is before more =
    let count = length-map xs entity_shown in
    let below : i < length (entities_of xs) = omega (arith, count, lt) in
    let short : length (take i (entities_of xs)) ≡ i = length-take-le i (entities_of xs) (omega (arith, below)) in
    let n : 0 + length (take i (entities_of xs)) ≡ i = omega (arith, short) in
    let here : get_or (entities_of xs) i (entity_shown one) ≡ entity_shown one = get_or-map entity_shown xs i one (entity_shown one) lt ∙ ap entity_shown is in
    more
    ∙ ((λ k. before k ++ placed_from (sym n k) 0 (events_of w (entity_shown one)))
    ∙ (sym (all_push w 0 (take i (entities_of xs)) (entity_shown one))
    ∙ ap (all_placed w 0) (ap (λ z. take i (entities_of xs) ++ z ∷ []) (sym here) ∙ sym (take_more (entities_of xs) i (entity_shown one) below))))

pub places_all : (w : World) (xs : List ShownEntity) (i : ℕ) (ps : List EventPlace) → i ≡ length xs → ps ≡ all_placed w 0 (take i (entities_of xs)) → ps ≡ all_placed w 0 (entities_of xs)
places_all w xs i ps is h =
    let count = length-map xs entity_shown in
    let n : i ≡ length (entities_of xs) = omega (arith, count, is) in
    h ∙ ap (all_placed w 0) (ap (λ m. take m (entities_of xs)) n ∙ take-length (entities_of xs))
