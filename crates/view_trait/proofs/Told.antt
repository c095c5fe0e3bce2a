-- Updates that tell the same events have the same spans.
use Rattle.std.proofs.Common.{◌≡◌, ℕ, ◌-◌, ◌<◌, ◌≤◌, ◌⊎◌, ◌<ℤ◌, ◌≤ℤ◌, not, ◌&&◌, List, length, get_or, nat_lt, refl, sym, ◌∙◌, ap, subst, arith, inl, inr}
use Rattle.std.proofs.lemmas.List.{get_or-map, length-map}
use Rattle.graph_model.specs.declared.events.Entity.{Entity}
use Rattle.graph_model.specs.declared.events.Event.{Event}
use Rattle.graph_model.specs.declared.events.Model.{Model}
use Rattle.graph_model.specs.declared.events.Model.TheVariants.{Event as Instants, Persistent}
use Rattle.graph_model.specs.Interval.{Interval}
use Rattle.graph_model.specs.Entity.{is_deletion}
use Rattle.time_history.specs.declared.updates.Update.{Update}
use Rattle.time_history.specs.declared.span.Span.{Span}
use Rattle.time_history.specs.Kinds.{is_delete}
use Rattle.time_history.specs.Updates.{update_at, no_update}
use Rattle.time_history.specs.Telling.{event_told, events_told, with_key_names, Fits}
use Rattle.time_history.specs.Spans.{carries, IsSpan, IsCut, IsTaken}
use Rattle.time_history.proofs.Clips.{deletes-told}

none_or_some : (n : ℕ) → (n ≡ 0) ⊎ (0 < n)
none_or_some n = grind arith

module _ (x : Entity) (names : ℕ → List ℕ) (us vs : List Update) (told : events_told x names us ≡ events_told x names vs) (fit : Fits x us) (fit_too : Fits x vs) where
  blank : Event
  blank = event_told x names no_update

  same_length : length us ≡ length vs
  same_length = sym (length-map us (event_told x names)) ∙ (ap length told ∙ length-map vs (event_told x names))

  same_event : (k : ℕ) → k < length us → event_told x names (update_at us k) ≡ event_told x names (update_at vs k)
  same_event k lt =
      let there : k < length vs = omega (arith, same_length) in
      sym (get_or-map (event_told x names) us k no_update blank lt) ∙ (ap (λ xs. get_or xs k blank) told ∙ get_or-map (event_told x names) vs k no_update blank there)

  same_time : (k : ℕ) → k < length us → (update_at us k).time ≡ (update_at vs k).time
  same_time k lt = ap (λ (e : Event). e.time) (same_event k lt)

  same_kind : (k : ℕ) → k < length us → is_delete (update_at us k).kind ≡ is_delete (update_at vs k).kind
  same_kind k lt =
      let there : k < length vs = omega (arith, same_length) in
      sym (deletes-told x (update_at us k).kind (with_key_names names (update_at us k).props) (fit k no_update lt))
      ∙ (ap is_deletion (same_event k lt) ∙ deletes-told x (update_at vs k).kind (with_key_names names (update_at vs k).props) (fit_too k no_update there))

  same_carries : (model : Model) (from : ℕ) → from ≤ length us → carries model us from ≡ carries model vs from
  same_carries Instants from le = refl
  same_carries Persistent from le = elim (none_or_some from) [
    | inl e ↦ ap (λ n. carries Persistent us n) e ∙ sym (ap (λ n. carries Persistent vs n) e)
    | inr lt ↦ ap (λ b. nat_lt 0 from && not b) (same_kind (from - 1) (omega arith))
  ]

  pub same_spans : (s : Span) → IsSpan us s → IsSpan vs s
  same_spans s h = record {
    order = h.order;
    end = (let e = h.end in omega (arith, same_length));
    carried = λ is. sym (same_carries Persistent s.from (let o = h.order in let e = h.end in omega arith)) ∙ h.carried is;
  }

  cut_too : (model : Model) (bounds : Interval) (s : Span) → IsSpan us s → IsCut model bounds us s → IsCut model bounds vs s
  cut_too model bounds s h k = let o = h.order in let e = h.end in record {
    some = k.some;
    before = λ i a. subst (λ t. t <ℤ bounds.lo) (same_time i (omega arith)) (k.before i a);
    begun = λ i a b. subst (λ t. bounds.lo ≤ℤ t) (same_time i (omega arith)) (k.begun i a b);
    unended = λ i a b. subst (λ t. t <ℤ bounds.hi) (same_time i (omega arith)) (k.unended i a b);
    after = λ i a b. let c : i < length us = omega (arith, same_length) in subst (λ t. bounds.hi ≤ℤ t) (same_time i c) (k.after i a c);
    carried = k.carried ∙ same_carries model s.from (omega arith);
  }

  pub same_taken : (model : Model) (bounds : Interval) (s : Span) → IsSpan us s → IsTaken model bounds us s → IsTaken model bounds vs s
  same_taken model bounds s h k = elim k [
    | inl none ↦ inl none
    | inr cut ↦ inr (cut_too model bounds s h cut)
  ]
