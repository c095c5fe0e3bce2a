-- Events and properties that are borrowed from a store.
use Rattle.std.specs.Prelude.{ℕ, List, map}
use Rattle.graph_model.specs.declared.properties.Value.{Value}
use Rattle.graph_model.specs.declared.events.Event.{Event}
use Rattle.time_history.specs.Telling.{what_told}
use Rattle.view_lists.specs.declared.borrowed.BorrowedEvent.{BorrowedEvent}
use Rattle.view_lists.specs.declared.borrowed.Property.{Property}
use Rattle.view_lists.specs.Listing.{entity_named}

-- keys with their values
abbrev pub props_borrowed : List Property → List (List ℕ × Value)
props_borrowed ps = map (λ (p : Property). (p.key.now, p.value.now)) ps

-- an event with these properties; a deletion has none
abbrev pub event_borrowed : BorrowedEvent → List (List ℕ × Value) → Event
event_borrowed x props =
    record {
      time = x.time;
      order = x.order;
      what = what_told (entity_named x.subject) x.kind props;
    }
