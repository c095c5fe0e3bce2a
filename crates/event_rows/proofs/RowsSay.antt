-- Rows of types and events say them.
use Rattle.std.proofs.Common.{◌≡◌, ◌∙◌, ◌++◌, ◌∷◌, ℕ, List, [], Ok, false, map, refl}
use Rattle.std.specs.List.{AllByRecursion}
use Rattle.std.proofs.lemmas.List.{map-append}
use Rattle.graph_model.specs.Interval.{Interval}
use Rattle.graph_model.specs.Record.{event_fields, type_fields}
use Rattle.graph_model.specs.declared.events.Event.{Event}
use Rattle.graph_model.specs.Said.{SaysEvent, SaysType, row_of}
use Rattle.event_rows.specs.Sayable.{IsSayable, IsSayableType}
use Rattle.event_rows.proofs.Events.{event-again, type-again}

pub types-said : (bounds : Interval) (types : List (List ℕ × List ℕ)) → AllByRecursion IsSayableType types
    → map (row_of false bounds) (map (λ (t : List ℕ × List ℕ). type_fields t.0 t.1) types) ≡ map (λ (t : List ℕ × List ℕ). Ok (SaysType t.0 t.1)) types
types-said bounds [] each = refl
types-said bounds (t ∷ types) each = λ k. type-again false bounds t.0 t.1 each.0.0 each.0.1 k ∷ types-said bounds types each.1 k

pub events-said : (bounds : Interval) (events : List Event) → AllByRecursion (IsSayable bounds) events
    → map (row_of false bounds) (map event_fields events) ≡ map (λ (x : Event). Ok (SaysEvent x)) events
events-said bounds [] each = refl
events-said bounds (x ∷ events) each = λ k. event-again false bounds x each.0 k ∷ events-said bounds events each.1 k

pub rows-said : (bounds : Interval) (types : List (List ℕ × List ℕ)) (events : List Event) → AllByRecursion IsSayableType types → AllByRecursion (IsSayable bounds) events
    → map (row_of false bounds) (map (λ (t : List ℕ × List ℕ). type_fields t.0 t.1) types ++ map event_fields events)
    ≡ map (λ (t : List ℕ × List ℕ). Ok (SaysType t.0 t.1)) types ++ map (λ (x : Event). Ok (SaysEvent x)) events
rows-said bounds types events a b =
    map-append (row_of false bounds) (map (λ (t : List ℕ × List ℕ). type_fields t.0 t.1) types) (map event_fields events)
    ∙ (λ k. types-said bounds types a k ++ events-said bounds events b k)
