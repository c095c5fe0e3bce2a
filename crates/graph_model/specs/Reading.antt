-- What an events file says, record by record.
use Rattle.std.specs.Prelude.{ℕ, Bool, ◌+◌, ◌==◌, List, [], ◌∷◌, ◌++◌, Option, Some, None, Result, Ok, Err}
use Rattle.csv.specs.Reading.{default_config, records, strip_bom}
use Rattle.graph_model.specs.declared.events.Event.{Event}
use Rattle.graph_model.specs.declared.events.Model.{Model}
use Rattle.graph_model.specs.Accepting.{event_refusal, type_refusal}
use Rattle.graph_model.specs.Interval.{Interval, earliest, latest}
use Rattle.graph_model.specs.Refusal.{RecordRefusal}
use Rattle.graph_model.specs.Said.{Said, SaysBounds, SaysType, SaysEvent, row_of}
use Rattle.graph_model.specs.World.{World, base, put_type}

-- the records of a file, each a list of fields: a byte order mark at its beginning is passed over
abbrev pub records_of : List ℕ → List (List (List ℕ))
records_of bytes = records default_config (strip_bom bytes)

-- what a record is judged to do: it sets the bounds, gives a node a type, is an event, or is refused
pub data Judged : Type 0 where
  Spans : (bounds : Interval) → Judged
  GivesType : (node name : List ℕ) → Judged
  Happens : (event : Event) → Judged
  Refused : (refusal : RecordRefusal) → Judged

-- what was read of a file: its bounds, the events that were accepted in the order of their arrival, the types of nodes, and the records that were refused, each by its number and with its cause
pub record Reading : Type 0 where
  pub bounds : Interval
  pub accepted : List Event
  pub types : List (List ℕ × List ℕ)
  pub refused : List (ℕ × RecordRefusal)

-- what is so, unless something refuses it
abbrev pub unless : Option RecordRefusal → Judged → Judged
unless None judged = judged
unless (Some refusal) judged = Refused refusal

-- what is judged of what a record's fields say
abbrev pub judge_said : Model → Reading → Result Said RecordRefusal → Judged
judge_said model before (Err refusal) = Refused refusal
judge_said model before (Ok (SaysBounds bounds)) = Spans bounds
judge_said model before (Ok (SaysType node name)) = unless (type_refusal before.accepted before.types node name) (GivesType node name)
judge_said model before (Ok (SaysEvent event)) = unless (event_refusal model before.accepted before.types event) (Happens event)

-- what is judged of a record after what was read before it
abbrev pub judge : Model → Reading → Bool → List (List ℕ) → Judged
judge model before first fields = judge_said model before (row_of first before.bounds fields)

-- what was read, with one record more
abbrev pub with_record : Reading → ℕ → Judged → Reading
with_record r number (Spans bounds) = record r { bounds = bounds }
with_record r number (GivesType node name) = record r { types = put_type (node, name) r.types }
with_record r number (Happens event) = record r { accepted = r.accepted ++ event ∷ [] }
with_record r number (Refused refusal) = record r { refused = r.refused ++ (number, refusal) ∷ [] }

-- records behind what was read, the first of which has this number
abbrev pub read_on : Model → Reading → ℕ → List (List (List ℕ)) → Reading
read_on model r number [] = r
read_on model r number (fields ∷ more) = read_on model (with_record r number (judge model r (number == 1) fields)) (number + 1) more

-- before the first record
abbrev pub nothing_read : Reading
nothing_read = record { bounds = record { lo = earliest; hi = latest }; accepted = []; types = []; refused = [] }

-- what an events file says
abbrev pub reading : Model → List ℕ → Reading
reading model bytes = read_on model nothing_read 1 (records_of bytes)

-- the world of what was read
abbrev pub world_of : Model → Reading → World
world_of model r = base model r.bounds r.types r.accepted

-- the base world of an events file
abbrev pub base_world : Model → List ℕ → World
base_world model bytes = world_of model (reading model bytes)
