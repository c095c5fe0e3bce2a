-- What was read of an events file, in the words of what the file says.
use Rattle.std.specs.Prelude.{◌≡◌, ℕ, [], map}
use Rattle.graph_model.specs.Reading as Read
use Rattle.graph_model.specs.Refusal.{RecordRefusal}
use Rattle.graph_store.specs.Contents.{Contents}
use Rattle.file_reading.specs.declared.reading.FileReading.{FileReading}
use Rattle.file_reading.specs.declared.reading.RefusedRecord.{RefusedRecord}
use Rattle.file_reading.specs.Causes.{refusal_of}

-- a refused record, by its number and its cause
abbrev pub refused_of : RefusedRecord → ℕ × RecordRefusal
refused_of r = (r.number, refusal_of r.cause)

-- what the store has accepted, and the refused records
abbrev pub reading_of : FileReading → Read.Reading
reading_of r = record { bounds = r.store.bounds; accepted = r.store.accepted; types = r.store.types; refused = map refused_of r.refused.items }

-- a store has accepted no event and no type
abbrev pub IsFresh : Contents → Type 0
IsFresh c = (c.accepted ≡ []) × (c.types ≡ [])
