-- The moments of a span are those of the events that it spells.
use Rattle.std.proofs.Common.{◌≡◌, ℕ, ◌+◌, ◌-◌, ◌<◌, ◌≤◌, ℤ, Bool, true, false, not, List, [], ◌∷◌, ◌++◌, map, cond, length, take, slice_range, nat_lt, refl, sym, ◌∙◌, ap, arith, append_assoc}
use Rattle.std.specs.List.{AllByRecursion}
use Rattle.std.proofs.lemmas.Bool.{and_parts, not-true}
use Rattle.std.proofs.lemmas.Bool.Decides.{nat_tests}
use Rattle.std.proofs.lemmas.List.{map-append}
use Rattle.graph_model.specs.declared.properties.Value.{Value}
use Rattle.graph_model.specs.declared.events.Entity.{Entity}
use Rattle.graph_model.specs.declared.events.Entity.TheVariants.{Node, Edge}
use Rattle.graph_model.specs.declared.events.Model.TheVariants.{Persistent}
use Rattle.graph_model.specs.Compare.{live_events}
use Rattle.graph_model.specs.Entity.{update_of}
use Rattle.graph_model.specs.Window.{carried_events, last_props}
use Rattle.graph_model.specs.World.{World, events_of}
use Rattle.time_history.specs.declared.updates.Kind.{Kind}
use Rattle.time_history.specs.declared.updates.Kind.TheVariants.{Node as OfNode, Add, Delete}
use Rattle.time_history.specs.declared.updates.Update.{Update}
use Rattle.time_history.specs.declared.span.Span.{Span}
use Rattle.time_history.specs.Kinds.{is_delete}
use Rattle.time_history.specs.Updates.{update_at, no_update}
use Rattle.time_history.specs.Telling.{event_told, events_told, what_told, with_key_names, fits, Fits}
use Rattle.time_history.specs.Spans.{carries, IsSpan, spelled}
use Rattle.time_history.specs.Asked.{kind_of_event}
use Rattle.time_history.proofs.Segments.{slice_split, slice_map, slice_nothing, each_in_slice}
use Rattle.time_history.proofs.Alive.{slice_one}
use Rattle.time_history.proofs.Last.{carried_one}
use Rattle.graph_store.specs.Contents.{Contents, key_names_for}
use Rattle.view_trait.specs.Meaning.{Tells, Shows}
use Rattle.view_trait.proofs.Found.{spelled_is}
use Rattle.view_lists.specs.declared.moments.Moment.{Moment}
use Rattle.view_lists.specs.Moments.{moment_of_event, moment_told, carried_moments, moments_told}

-- ---- updates one after another

pub moments_none : (us : List Update) (from : ℕ) → map moment_told (slice_range us from from) ≡ []
moments_none us from = ap (map moment_told) (slice_nothing us from)

moments_more : (us : List Update) (from i : ℕ) → from ≤ i → i < length us → map moment_told (slice_range us from (i + 1)) ≡ map moment_told (slice_range us from i) ++ moment_told (update_at us i) ∷ []
moments_more us from i le lt =
    ap (map moment_told) (slice_split us from i (i + 1) le (omega arith) ∙ ap (λ vs. slice_range us from i ++ vs) (slice_one us i lt))
    ∙ map-append moment_told (slice_range us from i) (update_at us i ∷ [])

-- one more update of a part, behind what stands in front of the part
pub moments_pushed : (us : List Update) (from i : ℕ) (front old new : List Moment) (m : Moment) → from ≤ i → i < length us → old ≡ front ++ map moment_told (slice_range us from i)
    → new ≡ old ++ m ∷ [] → m ≡ moment_told (update_at us i) → new ≡ front ++ map moment_told (slice_range us from (i + 1))
moments_pushed us from i front old new m le lt before pushed is =
    pushed
    ∙ (ap (λ x. old ++ x ∷ []) is
    ∙ (ap (λ ms. ms ++ moment_told (update_at us i) ∷ []) before
    ∙ (append_assoc front (map moment_told (slice_range us from i)) (moment_told (update_at us i) ∷ [])
    ∙ ap (λ ms. front ++ ms) (sym (moments_more us from i le lt)))))

-- what carries has an update before it
pub has_before : (us : List Update) (from : ℕ) → carries Persistent us from ≡ true → 0 < from
has_before us from h =
    let first : nat_lt 0 from ≡ true = (and_parts (nat_lt 0 from) (not (is_delete (update_at us (from - 1)).kind)) h).0 in
    grind (arith, nat_tests)

kept_before : (us : List Update) (from : ℕ) → carries Persistent us from ≡ true → is_delete (update_at us (from - 1)).kind ≡ false
kept_before us from h = not-true (is_delete (update_at us (from - 1)).kind) (and_parts (nat_lt 0 from) (not (is_delete (update_at us (from - 1)).kind)) h).1

-- ---- the events that are told

-- an event that is told has the kind of its update
kind_of_event-told : (x : Entity) (kind : Kind) (ps : List (List ℕ × Value)) → fits x kind ≡ true → kind_of_event (what_told x kind ps) ≡ kind
kind_of_event-told (Node name) OfNode ps h = refl
kind_of_event-told (Node name) Add ps h = cc
kind_of_event-told (Node name) Delete ps h = cc
kind_of_event-told (Edge edge) OfNode ps h = cc
kind_of_event-told (Edge edge) Add ps h = refl
kind_of_event-told (Edge edge) Delete ps h = refl

-- and so has what is carried, after an update that is no deletion
kind_of_event-carried_events : (x : Entity) (kind : Kind) (ps : List (List ℕ × Value)) → fits x kind ≡ true → is_delete kind ≡ false → kind_of_event (update_of x ps) ≡ kind
kind_of_event-carried_events (Node name) OfNode ps h k = refl
kind_of_event-carried_events (Node name) Add ps h k = cc
kind_of_event-carried_events (Node name) Delete ps h k = cc
kind_of_event-carried_events (Edge edge) OfNode ps h k = cc
kind_of_event-carried_events (Edge edge) Add ps h k = refl
kind_of_event-carried_events (Edge edge) Delete ps h k = cc

module _ (x : Entity) (names : ℕ → List ℕ) where
  told_moments : (us : List Update) → AllByRecursion (λ u. fits x u.kind ≡ true) us → map moment_of_event (events_told x names us) ≡ map moment_told us
  told_moments [] h = refl
  told_moments (u ∷ us) h =
      let head = ap (λ k. record { time = u.time; kind = k }) (kind_of_event-told x u.kind (with_key_names names u.props) h.0) in
      let rest = told_moments us h.1 in
      λ i. head i ∷ rest i

  carried_first : (us : List Update) (s : Span) (lo : ℤ) → Fits x us → IsSpan us s → map moment_of_event (cond s.carried (carried_events lo (live_events (take s.from (events_told x names us)))) []) ≡ carried_moments us s lo
  carried_first us s lo fit h = by s.carried refl
    where
      by : (c : Bool) → s.carried ≡ c → map moment_of_event (cond c (carried_events lo (live_events (take s.from (events_told x names us)))) []) ≡ cond c (record { time = lo; kind = (update_at us (s.from - 1)).kind } ∷ []) []
      by true e =
          let o = h.order in let end = h.end in
          let over = h.carried e in
          let some = has_before us s.from over in
          ap (map moment_of_event) (carried_one x names us fit s.from (omega arith) over lo)
          ∙ ap (λ k. record { time = lo; kind = k } ∷ []) (kind_of_event-carried_events x (update_at us (s.from - 1)).kind (last_props (live_events (take s.from (events_told x names us)))) (fit (s.from - 1) no_update (omega arith)) (kept_before us s.from over))
      by false e = refl

  pub spelled_moments : (us : List Update) (s : Span) (lo : ℤ) → Fits x us → IsSpan us s → map moment_of_event (spelled x names us s lo) ≡ moments_told us s lo
  spelled_moments us s lo fit h =
      let o = h.order in let end = h.end in
      let first = cond s.carried (carried_events lo (live_events (take s.from (events_told x names us)))) [] in
      let own = each_in_slice (λ u. fits x u.kind ≡ true) us s.from s.to end (λ k a b. fit k no_update (omega arith)) in
      map-append moment_of_event first (slice_range (events_told x names us) s.from s.to)
      ∙ (ap (λ ms. ms ++ map moment_of_event (slice_range (events_told x names us) s.from s.to)) (carried_first us s lo fit h)
      ∙ ap (λ ms. carried_moments us s lo ++ ms) (ap (map moment_of_event) (slice_map (event_told x names) us s.from s.to) ∙ told_moments (slice_range us s.from s.to) own))

-- the moments of the span that a view shows are those of the entity's events in the world
pub shown_moments : (c : Contents) (w : World) (x : Entity) (us : List Update) (s : Span) (lo : ℤ) → Tells c x us → Shows c w x s → lo ≡ w.bounds.lo → moments_told us s lo ≡ map moment_of_event (events_of w x)
shown_moments c w x us s lo tells shows e =
    ap (moments_told us s) e
    ∙ (sym (spelled_moments x (key_names_for c x) us s w.bounds.lo tells.fits (shows.span us tells))
    ∙ ap (map moment_of_event) (spelled_is c w x us s tells shows))
