-- Rows as text, each as the csv crate's default writer writes its fields.
use Rattle.std.specs.Prelude.{ℕ, List, map}
use Rattle.std.specs.List.{flat_map}
use Rattle.csv.specs.Writing.{default_writer, row_text}
use Rattle.graph_model.specs.declared.events.Event.{Event}
use Rattle.graph_model.specs.Record.{event_fields}
use Rattle.graph_model.specs.World.{World}
use Rattle.graph_model.specs.Answer.{row_fields, world_rows}

-- the text of rows, each a list of fields
abbrev pub rows_text : List (List (List ℕ)) → List ℕ
rows_text rows = flat_map (row_text default_writer) rows

-- the record of an event
abbrev pub record_text : Event → List ℕ
record_text x = row_text default_writer (event_fields x)

-- the records of a world: its bounds, its types, and its events in order
abbrev pub world_text : World → List ℕ
world_text w = rows_text (map row_fields (world_rows w))
