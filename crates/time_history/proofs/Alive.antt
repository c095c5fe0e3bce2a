-- When the edge of a span is alive.
use Rattle.std.proofs.Common.{◌≡◌, ◌≢◌, ℕ, ◌+◌, ◌-◌, ◌<◌, ◌≤◌, ℤ, ◌≤ℤ◌, ◌<ℤ◌, Bool, true, false, not, ◌&&◌, ◌||◌, List, [], ◌∷◌, ◌++◌, Option, Some, None, map, cond, length, get_or, take, drop, slice_range, nat_lt, refl, sym, ◌∙◌, ap, subst, arith, inl, inr, append-nil, append_assoc}
use Rattle.std.specs.Prelude.{int_le}
use Rattle.std.specs.Option.{option_map_or}
use Rattle.std.specs.List.{AllByRecursion, filter, list_any, last_or}
use Rattle.std.specs.Ordering.{int_eq}
use Rattle.std.proofs.lemmas.Bool.{and_parts, and_right, cases_lt, cond-false, not-true, or_right, true≢false}
use Rattle.std.proofs.lemmas.Bool.Decides.{nat_tests}
use Rattle.std.proofs.lemmas.Int.{ints}
use Rattle.std.proofs.lemmas.List.{take-map, take_more, drop_more, get_or-map, length-map}
use Rattle.std.proofs.lemmas.List.Elements.{filter-append}
use Rattle.std.proofs.lemmas.List.Folds.{list_any-append}
use Rattle.graph_model.specs.declared.properties.Value.{Value}
use Rattle.graph_model.specs.declared.events.EdgeName.{EdgeName}
use Rattle.graph_model.specs.declared.events.Entity.{Entity}
use Rattle.graph_model.specs.declared.events.Entity.TheVariants.{Node, Edge}
use Rattle.graph_model.specs.declared.events.Event.{Event}
use Rattle.graph_model.specs.declared.events.Model.{Model}
use Rattle.graph_model.specs.declared.events.Model.TheVariants.{Event as Instants, Persistent}
use Rattle.graph_model.specs.Interval.{Interval, is_inside}
use Rattle.graph_model.specs.Entity.{is_deletion, is_addition, adds, deletes, subject, entity_of, update_of}
use Rattle.graph_model.specs.Compare.{live_events}
use Rattle.graph_model.specs.Window.{carried_events, last_props}
use Rattle.graph_model.specs.Presence.{ends_in_addition, lives_at}
use Rattle.world_laws.proofs.Carried.{each_live}
use Rattle.world_laws.proofs.Filters.{filter_all, filter_none, each_weaker}
use Rattle.world_laws.proofs.Times.{le_test, not_le_test, inside_lo}
use Rattle.world_laws.proofs.Live.{live_events-append}
use Rattle.time_history.specs.declared.updates.Kind.{Kind}
use Rattle.time_history.specs.declared.updates.Kind.TheVariants.{Node as OfNode, Add, Delete}
use Rattle.time_history.specs.declared.updates.Update.{Update}
use Rattle.time_history.specs.declared.span.Span.{Span}
use Rattle.time_history.specs.Kinds.{is_delete, NoDeletion}
use Rattle.time_history.specs.Updates.{update_at, no_update, TimesRise}
use Rattle.time_history.specs.Telling.{event_told, events_told, what_told, with_key_names, Fits}
use Rattle.time_history.specs.Asked.{HappensAt, IsAliveAt}
use Rattle.time_history.specs.Spans.{carries, IsSpan, IsTaken, IsAllowed, spelled}
use Rattle.time_history.proofs.Segments.{slice_split, slice_nothing, slice_map, each_in_slice, each_in_map, each_in_time}
use Rattle.world_laws.proofs.Nested.{carried_times}
use Rattle.world_laws.proofs.Named.{none_pass}

-- an update of an edge is an addition where it is no deletion
pub adds-told : (edge : EdgeName) (kind : Kind) (ps : List (List ℕ × Value)) → adds (what_told (Edge edge) kind ps) ≡ not (is_delete kind)
adds-told edge OfNode ps = refl
adds-told edge Add ps = refl
adds-told edge Delete ps = refl

-- the last event of a list
pub last_of : (o : Option Event) (xs : List Event) (x : Event) → last_or o (xs ++ x ∷ []) ≡ Some x
last_of o [] x = refl
last_of o (y ∷ xs) x = last_of (Some y) xs x

ends-push : (xs : List Event) (x : Event) → ends_in_addition (xs ++ x ∷ []) ≡ is_addition x
ends-push xs x = ap (λ o. option_map_or is_addition o false) (last_of None xs x)

pub int_eq-refl : (a b : ℤ) → a ≡ b → int_eq a b ≡ true
int_eq-refl a b h = grind (arith, ints)

int_eq-apart : (a b : ℤ) → a ≢ b → int_eq a b ≡ false
int_eq-apart a b h = grind (arith, ints)

adds-edge : {edge : EdgeName} (e : Entity) (ps : List (List ℕ × Value)) → e ≡ Edge edge → adds (update_of e ps) ≡ true
adds-edge (Node name) ps h = cc
adds-edge (Edge edge) ps h = refl

-- one place of a list, as a part of it
pub slice_one : (us : List Update) (k : ℕ) → k < length us → slice_range us k (k + 1) ≡ update_at us k ∷ []
slice_one us k lt =
    let e : k + 1 - k ≡ 1 = omega arith in
    ap (λ n. take n (drop k us)) e ∙ ap (take 1) (drop_more us k no_update lt)

module _ (edge : EdgeName) (names : ℕ → List ℕ) (us : List Update) where
  pub told_one : (k : ℕ) → k < length us → slice_range (events_told (Edge edge) names us) k (k + 1) ≡ event_told (Edge edge) names (update_at us k) ∷ []
  told_one k lt = slice_map (event_told (Edge edge) names) us k (k + 1) ∙ ap (map (event_told (Edge edge) names)) (slice_one us k lt)

  -- a part up to a place, and the event there
  slice_push : (a k : ℕ) → a ≤ k → k < length us → slice_range (events_told (Edge edge) names us) a (k + 1) ≡ slice_range (events_told (Edge edge) names us) a k ++ event_told (Edge edge) names (update_at us k) ∷ []
  slice_push a k low lt = slice_split (events_told (Edge edge) names us) a k (k + 1) low (omega arith) ∙ ap (λ ys. slice_range (events_told (Edge edge) names us) a k ++ ys) (told_one k lt)

  -- a test that holds of the event at a place of a part
  pub any_at : (p : Event → Bool) (a b k : ℕ) → b ≤ length us → a ≤ k → k < b → p (event_told (Edge edge) names (update_at us k)) ≡ true → list_any p (slice_range (events_told (Edge edge) names us) a b) ≡ true
  any_at p a b k le low high h =
      let events = events_told (Edge edge) names us in
      let x = event_told (Edge edge) names (update_at us k) in
      ap (list_any p) (slice_split events a (k + 1) b (omega arith) (omega arith) ∙ ap (λ ys. ys ++ slice_range events (k + 1) b) (slice_push a k low (omega arith)))
      ∙ (list_any-append p (slice_range events a k ++ x ∷ []) (slice_range events (k + 1) b)
      ∙ ap (λ t. t || list_any p (slice_range events (k + 1) b)) (list_any-append p (slice_range events a k) (x ∷ []) ∙ (ap (λ t. list_any p (slice_range events a k) || (t || false)) h ∙ or_right (list_any p (slice_range events a k)) true refl)))

  none_at : (p : Event → Bool) (a b : ℕ) → b ≤ length us → ((k : ℕ) → a ≤ k → k < b → p (event_told (Edge edge) names (update_at us k)) ≡ false) → list_any p (slice_range (events_told (Edge edge) names us) a b) ≡ false
  none_at p a b le h =
      ap (list_any p) (slice_map (event_told (Edge edge) names) us a b)
      ∙ none_pass p (map (event_told (Edge edge) names) (slice_range us a b)) (each_in_map (event_told (Edge edge) names) (λ u. p (event_told (Edge edge) names u) ≡ false) (λ x. p x ≡ false) (λ u e. e) (slice_range us a b) (each_in_slice (λ u. p (event_told (Edge edge) names u) ≡ false) us a b le h))

  added_at : ℤ → Event → Bool
  added_at m x = is_addition x && int_eq x.time m

  -- an edge in the event model is alive where it has an update
  pub alive_instants : (span : Span) (bounds : Interval) (m : ℤ) (r : Bool) → IsSpan us span → NoDeletion us → span.carried ≡ false → HappensAt us span m r
      → r ≡ lives_at Instants bounds (spelled (Edge edge) names us span bounds.lo) m
  alive_instants span bounds m true s none c h =
      let events = events_told (Edge edge) names us in
      let end = s.end in let low = h.1 in let high = h.2 in
      let there : h.0 < length us = omega arith in
      let kept : is_delete (update_at us h.0).kind ≡ false = none h.0 no_update there in
      sym (ap (λ b. list_any (λ x. is_addition x && int_eq x.time m) (cond b (carried_events bounds.lo (live_events (take span.from events))) [] ++ slice_range events span.from span.to)) c
      ∙ any_at (λ x. is_addition x && int_eq x.time m) span.from span.to h.0 end low high
      (ap (λ b. b && int_eq (update_at us h.0).time m) (adds-told edge (update_at us h.0).kind (with_key_names names (update_at us h.0).props) ∙ ap not kept) ∙ int_eq-refl (update_at us h.0).time m h.3))
  alive_instants span bounds m false s none c h =
      let events = events_told (Edge edge) names us in
      sym (ap (λ b. list_any (λ x. is_addition x && int_eq x.time m) (cond b (carried_events bounds.lo (live_events (take span.from events))) [] ++ slice_range events span.from span.to)) c
      ∙ none_at (λ x. is_addition x && int_eq x.time m) span.from span.to s.end (λ k a b. ap (λ t. is_addition (event_told (Edge edge) names (update_at us k)) && t) (int_eq-apart (update_at us k).time m (h k a b)) ∙ and_right (is_addition (event_told (Edge edge) names (update_at us k))) false refl))

  -- what is carried for an edge is an addition
  carried_adds : (lo : ℤ) (xs : List Event) (x : Event) → AllByRecursion (λ y. entity_of y ≡ Edge edge) (xs ++ x ∷ []) → ends_in_addition (carried_events lo (xs ++ x ∷ [])) ≡ true
  carried_adds lo [] x h = adds-edge (entity_of x) (last_props (x ∷ [])) h.0
  carried_adds lo (y ∷ xs) x h = adds-edge (entity_of y) (last_props (y ∷ (xs ++ x ∷ []))) h.0

  told_entity : (kind : Kind) (ps : List (List ℕ × Value)) → subject (what_told (Edge edge) kind ps) ≡ Edge edge
  told_entity OfNode ps = refl
  told_entity Add ps = refl
  told_entity Delete ps = refl

  all_told : (vs : List Update) → AllByRecursion (λ y. entity_of y ≡ Edge edge) (events_told (Edge edge) names vs)
  all_told [] = tt
  all_told (v ∷ vs) = (told_entity v.kind (with_key_names names v.props), all_told vs)

  -- where a span is carried, what comes before it ends with an addition
  pub carried_alive : (span : Span) (lo : ℤ) → IsSpan us span → Fits (Edge edge) us → (c : Bool) → c ≡ span.carried → ends_in_addition (cond c (carried_events lo (live_events (take span.from (events_told (Edge edge) names us)))) []) ≡ c
  carried_alive span lo s fit false e = refl
  carried_alive span lo s fit true e =
      let h : carries Persistent us span.from ≡ true = s.carried (sym e) in
      let first : nat_lt 0 span.from ≡ true = (and_parts (nat_lt 0 span.from) (not (is_delete (update_at us (span.from - 1)).kind)) h).0 in
      let kept : is_delete (update_at us (span.from - 1)).kind ≡ false = not-true (is_delete (update_at us (span.from - 1)).kind) (and_parts (nat_lt 0 span.from) (not (is_delete (update_at us (span.from - 1)).kind)) h).1 in
      let lt : 0 < span.from = grind (arith, nat_tests) in
      let order = s.order in let end = s.end in
      let last : Event = event_told (Edge edge) names no_update in
      let events = events_told (Edge edge) names us in
      let there : span.from - 1 < length us = omega arith in
      let told : span.from - 1 < length events = omega (arith, length-map us (event_told (Edge edge) names)) in
      let next : span.from ≡ span.from - 1 + 1 = omega arith in
      let x : Event = get_or events (span.from - 1) last in
      let is : x ≡ event_told (Edge edge) names (update_at us (span.from - 1)) = get_or-map (event_told (Edge edge) names) us (span.from - 1) no_update last there in
      let undeleted : is_deletion x ≡ false = ap is_deletion is ∙ (deletes-edge (update_at us (span.from - 1)).kind (with_key_names names (update_at us (span.from - 1)).props) ∙ kept) in
      let front = take (span.from - 1) events in
      let whole : take span.from events ≡ front ++ x ∷ [] = ap (λ n. take n events) next ∙ take_more events (span.from - 1) last told in
      let still : live_events (front ++ x ∷ []) ≡ live_events front ++ x ∷ [] = live_events-append front (x ∷ []) ∙ cond-false (list_any is_deletion (x ∷ [])) _ _ (ap (λ b. b || false) undeleted) in
      ap (λ ys. ends_in_addition (carried_events lo (live_events ys))) whole
      ∙ (ap (λ ys. ends_in_addition (carried_events lo ys)) still
      ∙ carried_adds lo (live_events front) x (subst (AllByRecursion (λ y. entity_of y ≡ Edge edge)) still (each_live (λ y. entity_of y ≡ Edge edge) (front ++ x ∷ []) (subst (AllByRecursion (λ y. entity_of y ≡ Edge edge)) (whole_told span.from ∙ whole) (all_told (take span.from us))))))
    where
      deletes-edge : (kind : Kind) (ps : List (List ℕ × Value)) → deletes (what_told (Edge edge) kind ps) ≡ is_delete kind
      deletes-edge OfNode ps = refl
      deletes-edge Add ps = refl
      deletes-edge Delete ps = refl

      whole_told : (n : ℕ) → events_told (Edge edge) names (take n us) ≡ take n (events_told (Edge edge) names us)
      whole_told n = sym (take-map (event_told (Edge edge) names) n us)

  module _ (span : Span) (bounds : Interval) (m : ℤ) (at : ℕ) (s : IsSpan us span) (from : span.from ≤ at) (to : at ≤ span.to)
      (before : (k : ℕ) → span.from ≤ k → k < at → (update_at us k).time ≤ℤ m)
      (after : (k : ℕ) → at ≤ k → k < span.to → m <ℤ (update_at us k).time)
      (inside : is_inside bounds m ≡ true) where
    timely : Event → Bool
    timely x = int_le x.time m

    cs : List Event
    cs = cond span.carried (carried_events bounds.lo (live_events (take span.from (events_told (Edge edge) names us)))) []

    -- what a span spells up to a moment
    up_to : filter (λ x. int_le x.time m) (spelled (Edge edge) names us span bounds.lo)
        ≡ cond span.carried (carried_events bounds.lo (live_events (take span.from (events_told (Edge edge) names us)))) [] ++ slice_range (events_told (Edge edge) names us) span.from at
    up_to =
        let p : Event → Bool = λ x. int_le x.time m in
        let events = events_told (Edge edge) names us in
        let c = cond span.carried (carried_events bounds.lo (live_events (take span.from events))) [] in
        let end = s.end in
        let lo = inside_lo bounds m inside in
        let kept : filter p c ≡ c = filter_all p c (begins span.carried (live_events (take span.from events)) lo) in
        let early : filter p (slice_range events span.from at) ≡ slice_range events span.from at = filter_all p (slice_range events span.from at) (each_weaker (λ x. x.time ≤ℤ m) (λ x. p x ≡ true) (λ x h. le_test x.time m h) (slice_range events span.from at) (each_in_time (Edge edge) names us (λ t. t ≤ℤ m) span.from at (omega arith) before)) in
        let late : filter p (slice_range events at span.to) ≡ [] = filter_none p (slice_range events at span.to) (each_weaker (λ x. m <ℤ x.time) (λ x. p x ≡ false) (λ x h. not_le_test x.time m h) (slice_range events at span.to) (each_in_time (Edge edge) names us (λ t. m <ℤ t) at span.to end after)) in
        filter-append p c (slice_range events span.from span.to)
        ∙ (ap (λ ys. ys ++ filter p (slice_range events span.from span.to)) kept
        ∙ ap (λ ys. c ++ ys) (ap (filter p) (slice_split events span.from at span.to from to) ∙ (filter-append p (slice_range events span.from at) (slice_range events at span.to) ∙ (ap (λ ys. ys ++ filter p (slice_range events at span.to)) early ∙ (ap (λ ys. slice_range events span.from at ++ ys) late ∙ append-nil (slice_range events span.from at))))))
      where
        begins : (c : Bool) (xs : List Event) → bounds.lo ≤ℤ m → AllByRecursion (λ x. int_le x.time m ≡ true) (cond c (carried_events bounds.lo xs) [])
        begins false xs lo = tt
        begins true xs lo = each_weaker (λ x. x.time ≡ bounds.lo) (λ x. int_le x.time m ≡ true) (λ x e. le_test x.time m (subst (λ z. z ≤ℤ m) (sym e) lo)) (carried_events bounds.lo xs) (carried_times bounds.lo xs)

    -- where the span has an update up to the moment, the last one says whether the edge is alive
    pub alive_after : span.from < at → not (is_delete (update_at us (at - 1)).kind) ≡ lives_at Persistent bounds (spelled (Edge edge) names us span bounds.lo) m
    alive_after lt =
        let events = events_told (Edge edge) names us in
        let c = cond span.carried (carried_events bounds.lo (live_events (take span.from events))) [] in
        let end = s.end in
        let next : at ≡ at - 1 + 1 = omega arith in
        let x = event_told (Edge edge) names (update_at us (at - 1)) in
        sym (ap (λ b. b && ends_in_addition (filter (λ x. int_le x.time m) (spelled (Edge edge) names us span bounds.lo))) inside
        ∙ (ap ends_in_addition (up_to ∙ (ap (λ n. c ++ slice_range events span.from n) next ∙ (ap (λ ys. c ++ ys) (slice_push span.from (at - 1) (omega arith) (omega arith)) ∙ sym (append_assoc c (slice_range events span.from (at - 1)) (x ∷ [])))))
        ∙ (ends-push (c ++ slice_range events span.from (at - 1)) x ∙ adds-told edge (update_at us (at - 1)).kind (with_key_names names (update_at us (at - 1)).props))))

    -- where it has none, the edge is alive where the span is carried
    pub alive_carried : at ≤ span.from → Fits (Edge edge) us → span.carried ≡ lives_at Persistent bounds (spelled (Edge edge) names us span bounds.lo) m
    alive_carried le fit =
        let events = events_told (Edge edge) names us in
        let c = cond span.carried (carried_events bounds.lo (live_events (take span.from events))) [] in
        let same : at ≡ span.from = omega arith in
        sym (ap (λ b. b && ends_in_addition (filter (λ x. int_le x.time m) (spelled (Edge edge) names us span bounds.lo))) inside
        ∙ (ap ends_in_addition (up_to ∙ (ap (λ n. c ++ slice_range events span.from n) same ∙ (ap (λ ys. c ++ ys) (slice_nothing events span.from) ∙ append-nil c)))
        ∙ carried_alive span bounds.lo s fit span.carried refl))

-- whether there is an update at a moment, by the first one that is not earlier
int_eq-exact : (a b : ℤ) → int_eq a b ≡ true → a ≡ b
int_eq-exact a b h = grind (arith, ints)

int_eq-differs : (a b : ℤ) → int_eq a b ≡ false → a ≢ b
int_eq-differs a b h e = true≢false (sym (int_eq-refl a b e) ∙ h)

pub happens_is : (us : List Update) (span : Span) (m : ℤ) (at : ℕ) → IsSpan us span → span.from ≤ at → at < span.to
    → ((k : ℕ) → span.from ≤ k → k < at → (update_at us k).time <ℤ m) → ((k : ℕ) → at ≤ k → k < span.to → m ≤ℤ (update_at us k).time) → TimesRise us
    → (r : Bool) → r ≡ int_eq (update_at us at).time m → HappensAt us span m r
happens_is us span m at s from to before after rise true h = (at, from, to, int_eq-exact (update_at us at).time m (sym h))
happens_is us span m at s from to before after rise false h = λ k a b e. elim (cases_lt k at) [
  | inl lt ↦ let less = before k a lt in absurd (omega (arith, ints))
  | inr ge ↦ let end = s.end in let le = rise at k ge (omega arith) in let least = after at (omega arith) to in int_eq-differs (update_at us at).time m (sym h) (omega (arith, ints))
]

-- in the event model nothing is carried
pub uncarried : (bounds : Interval) (us : List Update) (span : Span) → IsTaken Instants bounds us span → span.carried ≡ false
uncarried bounds us span (inl bare) = bare.1
uncarried bounds us span (inr cut) = cut.carried

-- in the event model an edge is alive where its span has an update
pub alive_event : (model : Model) (bounds : Interval) (us : List Update) (span : Span) (m : ℤ) (r : Bool) → model ≡ Instants → IsSpan us span → IsTaken model bounds us span → IsAllowed model us → HappensAt us span m r
    → IsAliveAt model bounds us span m r
alive_event Instants bounds us span m r e s t none h = λ edge names fit. alive_instants edge names us span bounds m r s none (uncarried bounds us span t) h
alive_event Persistent bounds us span m r e s t none h = cc
