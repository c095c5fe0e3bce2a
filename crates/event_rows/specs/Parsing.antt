-- What the reader of records gives, in the words of what a record says.
use Rattle.std.specs.Prelude.{◌≡◌, ⊤, Bool, IsTrue, Option, None, Result, Ok, Err}
use Rattle.graph_model.specs.Interval.{Interval, is_inside}
use Rattle.graph_model.specs.Refusal as why
use Rattle.graph_model.specs.Refusal.{RecordRefusal}
use Rattle.graph_model.specs.Said.{Said, SaysBounds, SaysEvent, SaysType, RecordKind, OfBounds, OfType, OfUpdate, OfAddition, OfDeletion}
use Rattle.event_rows.specs.declared.parsed.Parsed.{Parsed}
use Rattle.event_rows.specs.declared.parsed.Parsed.TheVariants as parsed
use Rattle.event_rows.specs.declared.parsed.RowKind.{RowKind}
use Rattle.event_rows.specs.declared.parsed.RowKind.TheVariants as kind
use Rattle.event_rows.specs.declared.parsed.RowRefusal.{RowRefusal}
use Rattle.event_rows.specs.declared.parsed.RowRefusal.TheVariants as refused

-- what was parsed is what a record says
abbrev pub said_of : Parsed → Said
said_of (parsed.Span bounds) = SaysBounds bounds
said_of (parsed.Event event) = SaysEvent event
said_of (parsed.NodeType node name) = SaysType node name

-- an event that was parsed is inside bounds
abbrev pub IsInsideBounds : Interval → Parsed → Type 0
IsInsideBounds bounds (parsed.Event event) = IsTrue (is_inside bounds event.time)
IsInsideBounds bounds (parsed.Span _) = ⊤
IsInsideBounds bounds (parsed.NodeType _ _) = ⊤

-- bounds that were parsed stand in record 1
abbrev pub IsAtFront : Bool → Parsed → Type 0
IsAtFront first (parsed.Span _) = IsTrue first
IsAtFront first (parsed.Event _) = ⊤
IsAtFront first (parsed.NodeType _ _) = ⊤

-- the kind of a record
abbrev pub record_kind : RowKind → RecordKind
record_kind kind.Span = OfBounds
record_kind kind.NodeType = OfType
record_kind kind.Update = OfUpdate
record_kind kind.Addition = OfAddition
record_kind kind.Deletion = OfDeletion

-- nothing is wrong with what is said but, maybe, its properties
abbrev pub MayLack : {A : Type 0} → Result A RecordRefusal → Type 0
MayLack (Ok x) = ⊤
MayLack (Err why.Property) = ⊤
MayLack (Err _) = ⊥

-- a refusal is the one that is said; or it is want of memory, which comes only where nothing is wrong but, maybe, properties
abbrev pub Refuses : {A : Type 0} → RowRefusal → Result A RecordRefusal → Type 0
Refuses refused.Shape said = said ≡ Err why.Shape
Refuses refused.Text said = said ≡ Err why.Text
Refuses refused.Time said = said ≡ Err why.Time
Refuses refused.Outside said = said ≡ Err why.Outside
Refuses refused.Name said = said ≡ Err why.Name
Refuses refused.Property said = said ≡ Err why.Property
Refuses refused.Memory said = MayLack said

-- a refusal is the one that is said, and no want of memory
abbrev pub IsRefused : {A : Type 0} → RowRefusal → Result A RecordRefusal → Type 0
IsRefused refused.Shape said = said ≡ Err why.Shape
IsRefused refused.Text said = said ≡ Err why.Text
IsRefused refused.Time said = said ≡ Err why.Time
IsRefused refused.Outside said = said ≡ Err why.Outside
IsRefused refused.Name said = said ≡ Err why.Name
IsRefused refused.Property said = said ≡ Err why.Property
IsRefused refused.Memory said = ⊥

-- properties are refused because there are none to read, or for want of memory
abbrev pub Lacks : {A : Type 0} → RowRefusal → Option A → Type 0
Lacks refused.Property said = said ≡ None
Lacks refused.Memory said = ⊤
Lacks _ said = ⊥
