-- A span that a window cuts out of another.
use Rattle.std.proofs.Common.{◌≡◌, ℕ, ◌+◌, ◌-◌, ◌<◌, ◌≤◌, ◌⊎◌, ℤ, ◌≤ℤ◌, ◌<ℤ◌, Bool, true, false, not, ◌&&◌, ◌||◌, List, [], ◌∷◌, ◌++◌, cond, length, get_or, take, slice_range, nat_lt, refl, sym, ◌∙◌, ap, arith, inl, inr}
use Rattle.std.specs.List.{list_any}
use Rattle.std.proofs.lemmas.Bool.{cases_lt, cond-true}
use Rattle.std.proofs.lemmas.Bool.Decides.{nat_tests}
use Rattle.std.proofs.lemmas.Int.{ints}
use Rattle.std.proofs.lemmas.List.{take_more, get_or-map, length-map}
use Rattle.graph_model.specs.declared.properties.Value.{Value}
use Rattle.graph_model.specs.declared.events.Entity.{Entity}
use Rattle.graph_model.specs.declared.events.Entity.TheVariants.{Node, Edge}
use Rattle.graph_model.specs.declared.events.Event.{Event}
use Rattle.graph_model.specs.declared.events.Model.{Model}
use Rattle.graph_model.specs.declared.events.Model.TheVariants.{Event as Instants, Persistent}
use Rattle.graph_model.specs.Interval.{Interval, is_empty}
use Rattle.graph_model.specs.Entity.{is_deletion, deletes}
use Rattle.graph_model.specs.Compare.{live_events}
use Rattle.graph_model.specs.Window.{carried_events, clip_list}
use Rattle.world_laws.proofs.Live.{live_events-append}
use Rattle.world_laws.proofs.Kept.{clip_nothing}
use Rattle.time_history.specs.declared.updates.Kind.{Kind}
use Rattle.time_history.specs.declared.updates.Kind.TheVariants.{Node as OfNode, Add, Delete}
use Rattle.time_history.specs.declared.updates.Update.{Update}
use Rattle.time_history.specs.declared.span.Span.{Span}
use Rattle.time_history.specs.NoEvent.{HasNoEvent}
use Rattle.time_history.specs.Kinds.{is_delete}
use Rattle.time_history.specs.Updates.{update_at, no_update}
use Rattle.time_history.specs.Telling.{event_told, events_told, what_told, with_key_names, fits, Fits}
use Rattle.time_history.specs.Spans.{carries, IsSpan, IsCut, spelled, IsClipped}
use Rattle.time_history.proofs.Segments.{slice_split, take_split, slice_nothing, each_in_time}
use Rattle.time_history.proofs.Parts.{none_within, AreParts, instants_clip, persistent_clip}
use Rattle.time_history.proofs.Places.{none_or_some}

-- an event that is told is a deletion where its update is
pub deletes-told : (entity : Entity) (kind : Kind) (ps : List (List ℕ × Value)) → fits entity kind ≡ true → deletes (what_told entity kind ps) ≡ is_delete kind
deletes-told (Node name) OfNode ps h = refl
deletes-told (Node name) Add ps h = refl
deletes-told (Node name) Delete ps h = cc
deletes-told (Edge edge) OfNode ps h = refl
deletes-told (Edge edge) Add ps h = refl
deletes-told (Edge edge) Delete ps h = refl

-- nothing is live after a deletion
live_after_deletion : (xs : List Event) (x : Event) → is_deletion x ≡ true → live_events (xs ++ x ∷ []) ≡ []
live_after_deletion xs x h =
    let any : list_any is_deletion (x ∷ []) ≡ true = only (is_deletion x) h in
    live_events-append xs (x ∷ []) ∙ (cond-true (list_any is_deletion (x ∷ [])) _ _ any ∙ cond-true (list_any is_deletion (x ∷ [])) _ _ any)
  where
    only : (b : Bool) → b ≡ true → (b || false) ≡ true
    only true h = refl
    only false h = cc

second_false : (b : Bool) → (true && not b) ≡ false → b ≡ true
second_false true h = refl
second_false false h = cc

module _ (entity : Entity) (names : ℕ → List ℕ) (us : List Update) (fit : Fits entity us) where
  -- where the last update before a place is a deletion, or there is none, nothing is carried over it
  nothing_live : (from : ℕ) → from ≤ length us → carries Persistent us from ≡ false → live_events (take from (events_told entity names us)) ≡ []
  nothing_live from le h = elim (none_or_some from) [
    | inl e ↦ ap (λ n. live_events (take n (events_told entity names us))) e
    | inr lt ↦
        let some : nat_lt 0 from ≡ true = grind (arith, nat_tests) in
        let deleted : is_delete (update_at us (from - 1)).kind ≡ true = second_false (is_delete (update_at us (from - 1)).kind) (ap (λ b. b && not (is_delete (update_at us (from - 1)).kind)) (sym some) ∙ h) in
        let last : Event = event_told entity names no_update in
        let there : from - 1 < length us = omega arith in
        let told : from - 1 < length (events_told entity names us) = omega (arith, length-map us (event_told entity names)) in
        let next : from ≡ from - 1 + 1 = omega arith in
        let x : Event = get_or (events_told entity names us) (from - 1) last in
        let is : x ≡ event_told entity names (update_at us (from - 1)) = get_or-map (event_told entity names) us (from - 1) no_update last there in
        let deletion : is_deletion x ≡ true = ap is_deletion is ∙ (deletes-told entity (update_at us (from - 1)).kind (with_key_names names (update_at us (from - 1)).props) (fit (from - 1) no_update there) ∙ deleted) in
        ap (λ n. live_events (take n (events_told entity names us))) next ∙ (ap live_events (take_more (events_told entity names us) (from - 1) last told) ∙ live_after_deletion (take (from - 1) (events_told entity names us)) x deletion)
  ]

  -- what a span carries
  carried_if : (from : ℕ) → from ≤ length us → (c : Bool) → c ≡ carries Persistent us from → (lo : ℤ)
      → cond c (carried_events lo (live_events (take from (events_told entity names us)))) [] ≡ carried_events lo (live_events (take from (events_told entity names us)))
  carried_if from le true h lo = refl
  carried_if from le false h lo = sym (ap (carried_events lo) (nothing_live from le (sym h)))

  pub bare_spelled : (span : Span) (lo : ℤ) → HasNoEvent span → spelled entity names us span lo ≡ []
  bare_spelled span lo h =
      let events = events_told entity names us in
      ap (λ c. cond c (carried_events lo (live_events (take span.from events))) [] ++ slice_range events span.from span.to) h.1
      ∙ (ap (λ n. slice_range events span.from n) (sym h.0) ∙ slice_nothing events span.from)

  module _ (bounds cut : Interval) (span r : Span) (is_span : IsSpan us span) (from : span.from ≤ r.from) (order : r.from ≤ r.to) (to : r.to ≤ span.to)
      (begun : (k : ℕ) → span.from ≤ k → k < span.to → bounds.lo ≤ℤ (update_at us k).time)
      (early : (k : ℕ) → span.from ≤ k → k < r.from → (update_at us k).time <ℤ cut.lo)
      (inside_lo : (k : ℕ) → r.from ≤ k → k < r.to → cut.lo ≤ℤ (update_at us k).time)
      (inside_hi : (k : ℕ) → r.from ≤ k → k < r.to → (update_at us k).time <ℤ cut.hi)
      (late : (k : ℕ) → r.to ≤ k → k < span.to → cut.hi ≤ℤ (update_at us k).time)
      (some : cut.lo <ℤ cut.hi) (later : bounds.lo ≤ℤ cut.lo) where
    js : List Event
    js = slice_range (events_told entity names us) span.from r.from

    is : List Event
    is = slice_range (events_told entity names us) r.from r.to

    ks : List Event
    ks = slice_range (events_told entity names us) r.to span.to

    parts : AreParts bounds cut (slice_range (events_told entity names us) span.from r.from) (slice_range (events_told entity names us) r.from r.to) (slice_range (events_told entity names us) r.to span.to)
    parts =
        let end = is_span.end in
        record {
          begun = each_in_time entity names us (λ t. bounds.lo ≤ℤ t) span.from r.from (omega arith) (λ k a b. begun k a (omega arith));
          early = each_in_time entity names us (λ t. t <ℤ cut.lo) span.from r.from (omega arith) early;
          inside_lo = each_in_time entity names us (λ t. cut.lo ≤ℤ t) r.from r.to (omega arith) inside_lo;
          inside_hi = each_in_time entity names us (λ t. t <ℤ cut.hi) r.from r.to (omega arith) inside_hi;
          late = each_in_time entity names us (λ t. cut.hi ≤ℤ t) r.to span.to end late;
        }

    in_parts : slice_range (events_told entity names us) span.from span.to ≡ slice_range (events_told entity names us) span.from r.from ++ (slice_range (events_told entity names us) r.from r.to ++ slice_range (events_told entity names us) r.to span.to)
    in_parts =
        let events = events_told entity names us in
        slice_split events span.from r.from span.to from (omega arith) ∙ ap (λ ys. slice_range events span.from r.from ++ ys) (slice_split events r.from r.to span.to order to)

    clipped_instants : span.carried ≡ false → r.carried ≡ false → spelled entity names us r cut.lo ≡ clip_list Instants cut (spelled entity names us span bounds.lo)
    clipped_instants p q =
        let events = events_told entity names us in
        ap (λ c. cond c (carried_events cut.lo (live_events (take r.from events))) [] ++ slice_range events r.from r.to) q
        ∙ sym (ap (λ c. clip_list Instants cut (cond c (carried_events bounds.lo (live_events (take span.from events))) [] ++ slice_range events span.from span.to)) p
        ∙ (ap (clip_list Instants cut) in_parts ∙ instants_clip bounds cut _ _ _ parts some later))

    clipped_persistent : span.carried ≡ carries Persistent us span.from → r.carried ≡ carries Persistent us r.from → spelled entity names us r cut.lo ≡ clip_list Persistent cut (spelled entity names us span bounds.lo)
    clipped_persistent p q =
        let events = events_told entity names us in
        let end = is_span.end in
        ap (λ ys. ys ++ slice_range events r.from r.to) (carried_if r.from (omega arith) r.carried q cut.lo)
        ∙ (ap (λ ys. carried_events cut.lo (live_events ys) ++ slice_range events r.from r.to) (take_split events span.from r.from from)
        ∙ sym (ap (λ ys. clip_list Persistent cut (ys ++ slice_range events span.from span.to)) (carried_if span.from (omega arith) span.carried p bounds.lo)
        ∙ (ap (λ ys. clip_list Persistent cut (carried_events bounds.lo (live_events (take span.from events)) ++ ys)) in_parts
        ∙ persistent_clip bounds cut _ _ _ parts some later (take span.from events))))

    clipped_is : (model : Model) → span.carried ≡ carries model us span.from → r.carried ≡ carries model us r.from → spelled entity names us r cut.lo ≡ clip_list model cut (spelled entity names us span bounds.lo)
    clipped_is Instants p q = clipped_instants p q
    clipped_is Persistent p q = clipped_persistent p q

-- an empty window shows nothing
pub empty_clip : (model : Model) (cut : Interval) → is_empty cut ≡ true → (xs : List Event) → clip_list model cut xs ≡ []
empty_clip Instants cut h xs = none_within cut h xs
empty_clip Persistent cut h xs = cond-true (is_empty cut) _ _ h

-- an empty window of any span, and any window of a span with no event
pub IsClipped-empty : (model : Model) (bounds cut : Interval) (us : List Update) (span r : Span) → is_empty cut ≡ true → HasNoEvent r → IsClipped model bounds cut us span r
IsClipped-empty model bounds cut us span r h b entity names fit = bare_spelled entity names us fit r cut.lo b ∙ sym (empty_clip model cut h (spelled entity names us span bounds.lo))

pub IsClipped-bare : (model : Model) (bounds cut : Interval) (us : List Update) (span r : Span) → HasNoEvent span → HasNoEvent r → IsClipped model bounds cut us span r
IsClipped-bare model bounds cut us span r a b entity names fit = bare_spelled entity names us fit r cut.lo b ∙ sym (ap (clip_list model cut) (bare_spelled entity names us fit span bounds.lo a) ∙ clip_nothing model cut)

-- what the two searches of a window find
pub record IsFound (bounds cut : Interval) (us : List Update) (span r : Span) : Type 0 where
  pub from : span.from ≤ r.from
  pub order : r.from ≤ r.to
  pub to : r.to ≤ span.to
  pub early : (k : ℕ) → span.from ≤ k → k < r.from → (update_at us k).time <ℤ cut.lo
  pub begun : (k : ℕ) → r.from ≤ k → k < span.to → cut.lo ≤ℤ (update_at us k).time
  pub unended : (k : ℕ) → r.from ≤ k → k < r.to → (update_at us k).time <ℤ cut.hi
  pub late : (k : ℕ) → r.to ≤ k → k < span.to → cut.hi ≤ℤ (update_at us k).time

pub IsClipped-found : (model : Model) (bounds cut : Interval) (us : List Update) (span r : Span) → IsSpan us span → IsCut model bounds us span → cut.lo <ℤ cut.hi → bounds.lo ≤ℤ cut.lo
    → IsFound bounds cut us span r → r.carried ≡ carries model us r.from → IsClipped model bounds cut us span r
IsClipped-found model bounds cut us span r s t some later f c entity names fit =
    clipped_is entity names us fit bounds cut span r s f.from f.order f.to t.begun f.early (λ k a b. let to = f.to in f.begun k a (omega arith)) f.unended f.late some later model t.carried c

-- a span with no event is none that the bounds cut, where it is known to have one
pub cut_of_taken : {A B : Type 0} → (A → ⊥) → A ⊎ B → B
cut_of_taken f (inl a) = absurd (f a)
cut_of_taken f (inr b) = b

-- what is found is cut by the window
pub IsCut-found : (model : Model) (bounds cut : Interval) (us : List Update) (span r : Span) → IsSpan us span → IsCut model bounds us span → cut.lo <ℤ cut.hi → bounds.lo ≤ℤ cut.lo → cut.hi ≤ℤ bounds.hi
    → IsFound bounds cut us span r → r.carried ≡ carries model us r.from → IsCut model cut us r
IsCut-found model bounds cut us span r s t some later sooner f c =
    let from = f.from in let order = f.order in let to = f.to in
    record {
      some = some;
      before = λ k a. elim (cases_lt k span.from) [
        | inl b ↦ let early = t.before k b in omega (arith, ints)
        | inr b ↦ f.early k b a
      ];
      begun = λ k a b. f.begun k a (omega arith);
      unended = f.unended;
      after = λ k a b. elim (cases_lt k span.to) [
        | inl d ↦ f.late k a d
        | inr d ↦ let late = t.after k d b in omega (arith, ints)
      ];
      carried = c;
    }
