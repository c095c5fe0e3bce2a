-- The kind of the last event of a span.
use Rattle.std.proofs.Common.{◌≡◌, ℕ, ◌+◌, ◌-◌, ◌<◌, ◌≤◌, ℤ, true, false, not, ◌||◌, List, [], ◌∷◌, ◌++◌, Some, None, option_map, map, cond, length, get_or, take, slice_range, nat_lt, refl, sym, ◌∙◌, ap, subst, arith, append_assoc}
use Rattle.std.specs.List.{last_or, list_any, AllByRecursion}
use Rattle.std.proofs.lemmas.Bool.{and_parts, cond-false, not-true}
use Rattle.std.proofs.lemmas.List.{take-map, take_more, get_or-map, length-map}
use Rattle.std.proofs.lemmas.Bool.Decides.{nat_tests}
use Rattle.graph_model.specs.declared.properties.Value.{Value}
use Rattle.graph_model.specs.declared.events.Entity.{Entity}
use Rattle.graph_model.specs.declared.events.Entity.TheVariants.{Node, Edge}
use Rattle.graph_model.specs.declared.events.Event.{Event}
use Rattle.graph_model.specs.Entity.{entity_of, subject, update_of, is_deletion}
use Rattle.graph_model.specs.declared.events.Model.TheVariants.{Persistent}
use Rattle.world_laws.proofs.Carried.{each_live}
use Rattle.world_laws.proofs.Live.{live_events-append}
use Rattle.graph_model.specs.Compare.{live_events}
use Rattle.graph_model.specs.Window.{carried_events, last_props}
use Rattle.time_history.specs.declared.updates.Kind.{Kind}
use Rattle.time_history.specs.declared.updates.Kind.TheVariants.{Node as OfNode, Add, Delete}
use Rattle.time_history.specs.declared.updates.Update.{Update}
use Rattle.time_history.specs.declared.span.Span.{Span}
use Rattle.time_history.specs.Kinds.{is_delete}
use Rattle.time_history.specs.Updates.{update_at, no_update}
use Rattle.time_history.specs.Telling.{event_told, events_told, what_told, with_key_names, fits, Fits}
use Rattle.time_history.specs.Spans.{carries, IsSpan}
use Rattle.time_history.specs.Asked.{kind_of_event, IsLastKind}
use Rattle.time_history.proofs.Segments.{slice_split, slice_map, slice_nothing}
use Rattle.time_history.proofs.Alive.{last_of, slice_one}
use Rattle.time_history.proofs.Clips.{bare_spelled, deletes-told}

-- an event that is told has the kind of its update
kind_of_event-told : (entity : Entity) (kind : Kind) (ps : List (List ℕ × Value)) → fits entity kind ≡ true → kind_of_event (what_told entity kind ps) ≡ kind
kind_of_event-told (Node name) OfNode ps h = refl
kind_of_event-told (Node name) Add ps h = cc
kind_of_event-told (Node name) Delete ps h = cc
kind_of_event-told (Edge edge) OfNode ps h = cc
kind_of_event-told (Edge edge) Add ps h = refl
kind_of_event-told (Edge edge) Delete ps h = refl

-- a span with an update
pub last_update : (us : List Update) (span : Span) → IsSpan us span → span.from < span.to → IsLastKind us span (Some (update_at us (span.to - 1)).kind)
last_update us span s lt entity names lo fit =
    let f : Event → Kind = λ x. kind_of_event x.what in
    let events = events_told entity names us in
    let c = cond span.carried (carried_events lo (live_events (take span.from events))) [] in
    let end = s.end in
    let u = update_at us (span.to - 1) in
    let x = event_told entity names u in
    let next : span.to - 1 + 1 ≡ span.to = omega arith in
    let front = slice_range events span.from (span.to - 1) in
    let parts : slice_range events span.from span.to ≡ front ++ x ∷ [] =
    slice_split events span.from (span.to - 1) span.to (omega arith) (omega arith)
    ∙ ap (λ ys. front ++ ys) (ap (slice_range events (span.to - 1)) (sym next) ∙ (slice_map (event_told entity names) us (span.to - 1) (span.to - 1 + 1) ∙ ap (map (event_told entity names)) (slice_one us (span.to - 1) (omega arith)))) in
    sym (ap (λ ys. option_map f (last_or None (c ++ ys))) parts
    ∙ (ap (λ ys. option_map f (last_or None ys)) (sym (append_assoc c front (x ∷ [])))
    ∙ (ap (option_map f) (last_of None (c ++ front) x)
    ∙ ap Some (kind_of_event-told entity u.kind (with_key_names names u.props) (fit (span.to - 1) no_update (omega arith))))))

-- a span with no event
pub last_bare : (us : List Update) (span : Span) → span.from ≡ span.to → span.carried ≡ false → IsLastKind us span None
last_bare us span e c entity names lo fit = sym (ap (λ ys. option_map (λ (x : Event). kind_of_event x.what) (last_or None ys)) (bare_spelled entity names us fit span lo (e, c)))

subject-told : (entity : Entity) (kind : Kind) (ps : List (List ℕ × Value)) → subject (what_told entity kind ps) ≡ entity
subject-told (Node name) kind ps = refl
subject-told (Edge edge) OfNode ps = refl
subject-told (Edge edge) Add ps = refl
subject-told (Edge edge) Delete ps = refl

-- the kind of an update that is no deletion is that of what is carried
kept_kind : (entity : Entity) (kind : Kind) (ps : List (List ℕ × Value)) → fits entity kind ≡ true → is_delete kind ≡ false → kind_of_event (update_of entity ps) ≡ kind
kept_kind (Node name) OfNode ps h k = refl
kept_kind (Node name) Add ps h k = cc
kept_kind (Node name) Delete ps h k = cc
kept_kind (Edge edge) OfNode ps h k = cc
kept_kind (Edge edge) Add ps h k = refl
kept_kind (Edge edge) Delete ps h k = cc

module _ (entity : Entity) (names : ℕ → List ℕ) (us : List Update) where
  all_told : (vs : List Update) → AllByRecursion (λ y. entity_of y ≡ entity) (events_told entity names vs)
  all_told [] = tt
  all_told (v ∷ vs) = (subject-told entity v.kind (with_key_names names v.props), all_told vs)

  carried_head : (lo : ℤ) (xs : List Event) (x : Event) → AllByRecursion (λ y. entity_of y ≡ entity) (xs ++ x ∷ []) → carried_events lo (xs ++ x ∷ []) ≡ record { time = lo; order = 0; what = update_of entity (last_props (xs ++ x ∷ [])) } ∷ []
  carried_head lo [] x h = ap (λ e. record { time = lo; order = 0; what = update_of e (last_props (x ∷ [])) } ∷ []) h.0
  carried_head lo (y ∷ xs) x h = ap (λ e. record { time = lo; order = 0; what = update_of e (last_props (y ∷ (xs ++ x ∷ []))) } ∷ []) h.0

  -- what is carried over a place is one event, of the entity
  pub carried_one : Fits entity us → (from : ℕ) → from ≤ length us → carries Persistent us from ≡ true → (lo : ℤ)
      → carried_events lo (live_events (take from (events_told entity names us))) ≡ record { time = lo; order = 0; what = update_of entity (last_props (live_events (take from (events_told entity names us)))) } ∷ []
  carried_one fit from le h lo =
      let first : nat_lt 0 from ≡ true = (and_parts (nat_lt 0 from) (not (is_delete (update_at us (from - 1)).kind)) h).0 in
      let kept : is_delete (update_at us (from - 1)).kind ≡ false = not-true (is_delete (update_at us (from - 1)).kind) (and_parts (nat_lt 0 from) (not (is_delete (update_at us (from - 1)).kind)) h).1 in
      let lt : 0 < from = grind (arith, nat_tests) in
      let last : Event = event_told entity names no_update in
      let events = events_told entity names us in
      let there : from - 1 < length us = omega arith in
      let told : from - 1 < length events = omega (arith, length-map us (event_told entity names)) in
      let next : from ≡ from - 1 + 1 = omega arith in
      let x : Event = get_or events (from - 1) last in
      let is : x ≡ event_told entity names (update_at us (from - 1)) = get_or-map (event_told entity names) us (from - 1) no_update last there in
      let undeleted : is_deletion x ≡ false = ap is_deletion is ∙ (deletes-told entity (update_at us (from - 1)).kind (with_key_names names (update_at us (from - 1)).props) (fit (from - 1) no_update there) ∙ kept) in
      let front = take (from - 1) events in
      let whole : take from events ≡ front ++ x ∷ [] = ap (λ n. take n events) next ∙ take_more events (from - 1) last told in
      let still : live_events (take from events) ≡ live_events front ++ x ∷ [] = ap live_events whole ∙ (live_events-append front (x ∷ []) ∙ cond-false (list_any is_deletion (x ∷ [])) _ _ (ap (λ b. b || false) undeleted)) in
      let own : AllByRecursion (λ y. entity_of y ≡ entity) (live_events front ++ x ∷ []) = subst (AllByRecursion (λ y. entity_of y ≡ entity)) still (each_live (λ y. entity_of y ≡ entity) (take from events) (subst (AllByRecursion (λ y. entity_of y ≡ entity)) (sym (take-map (event_told entity names) from us)) (all_told (take from us)))) in
      ap (carried_events lo) still
      ∙ (carried_head lo (live_events front) x own
      ∙ ap (λ ys. record { time = lo; order = 0; what = update_of entity (last_props ys) } ∷ []) (sym still))

-- a span with nothing but what is carried
pub last_carried : (us : List Update) (span : Span) → IsSpan us span → span.to ≤ span.from → span.carried ≡ true → IsLastKind us span (Some (update_at us (span.from - 1)).kind)
last_carried us span s le c entity names lo fit =
    let f : Event → Kind = λ x. kind_of_event x.what in
    let events = events_told entity names us in
    let order = s.order in let end = s.end in
    let same : span.to ≡ span.from = omega arith in
    let h = s.carried c in
    let first : nat_lt 0 span.from ≡ true = (and_parts (nat_lt 0 span.from) (not (is_delete (update_at us (span.from - 1)).kind)) h).0 in
    let kept : is_delete (update_at us (span.from - 1)).kind ≡ false = not-true (is_delete (update_at us (span.from - 1)).kind) (and_parts (nat_lt 0 span.from) (not (is_delete (update_at us (span.from - 1)).kind)) h).1 in
    let lt : 0 < span.from = grind (arith, nat_tests) in
    let ps = last_props (live_events (take span.from events)) in
    sym (ap (λ b. option_map f (last_or None (cond b (carried_events lo (live_events (take span.from events))) [] ++ slice_range events span.from span.to))) c
    ∙ (ap (λ ys. option_map f (last_or None (carried_events lo (live_events (take span.from events)) ++ ys))) (ap (slice_range events span.from) same ∙ slice_nothing events span.from)
    ∙ (ap (λ ys. option_map f (last_or None (ys ++ []))) (carried_one entity names us fit span.from (omega arith) h lo)
    ∙ ap Some (kept_kind entity (update_at us (span.from - 1)).kind ps (fit (span.from - 1) no_update (omega arith)) kept))))
