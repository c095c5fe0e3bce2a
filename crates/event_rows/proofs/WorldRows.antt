-- The rows of a world are read back.
use Rattle.std.proofs.Common.{◌≡◌, ◌∙◌, ◌++◌, ◌∷◌, ℕ, true, List, [], map, refl}
use Rattle.std.specs.List.{list_all}
use Rattle.std.proofs.lemmas.List.{map-append}
use Rattle.std.proofs.lemmas.List.Folds.{list_all-append}
use Rattle.graph_model.specs.Answer.{EventRow, TypeRow, row_fields, world_rows}
use Rattle.graph_model.specs.Record.{span_fields, time_text, what_fields}
use Rattle.graph_model.specs.Reading.{records_of}
use Rattle.graph_model.specs.RowText.{world_text}
use Rattle.graph_model.specs.World.{World}
use Rattle.graph_model.specs.declared.events.Event.{Event}
use Rattle.graph_model.specs.declared.events.What.{What}
use Rattle.graph_model.specs.declared.events.What.TheVariants as what
use Rattle.event_rows.specs.Rows.{has_field}
use Rattle.event_rows.proofs.ReadBack.{file-back}

what-field : (time : List ℕ) (w : What) → has_field (what_fields time w) ≡ true
what-field time (what.Node name props) = refl
what-field time (what.Add edge props) = refl
what-field time (what.Delete edge) = refl

types-fields : (types : List (List ℕ × List ℕ)) → list_all has_field (map row_fields (map (λ (t : List ℕ × List ℕ). TypeRow t.0 t.1) types)) ≡ true
types-fields [] = refl
types-fields (t ∷ types) = types-fields types

events-fields : (events : List Event) → list_all has_field (map row_fields (map EventRow events)) ≡ true
events-fields [] = refl
events-fields (x ∷ events) = rw (what-field (time_text x) x.what) (events-fields events)

pub world-back : (w : World) → records_of (world_text w) ≡ map row_fields (world_rows w)
world-back w =
    let types = map (λ (t : List ℕ × List ℕ). TypeRow t.0 t.1) w.types in
    let events = map EventRow w.events in
    let parts = map-append row_fields types events in
    let each : list_all has_field (map row_fields (types ++ events)) ≡ true = rw parts (list_all-append has_field (map row_fields types) (map row_fields events) ∙ rw (types-fields w.types, events-fields w.events) refl) in
    file-back (span_fields w.bounds) (map row_fields (types ++ events)) refl each
