-- What the fields of a record say by themselves, whatever was read before it.
use Rattle.std.specs.Prelude.{ℕ, ℤ, int_le, Bool, ◌^◌, ◌==◌, ◌&&◌, nat_lt, nat_le, List, [], length, drop, codes, Option, Some, None, unwrap_or, is_some, Result, Ok, Err, if◌then◌else◌}
use Rattle.std.specs.Str.{bytes_eq, is_utf8}
use Rattle.std.specs.List.{before_first, after_first, position_or_len, list_all, filter_map}
use Rattle.std.specs.Char.{is_ascii_digit}
use Rattle.csv.specs.Records.{field_at}
use Rattle.graph_model.specs.declared.properties.Value.{Value}
use Rattle.graph_model.specs.declared.events.EdgeName.{EdgeName}
use Rattle.graph_model.specs.declared.events.What.{What}
use Rattle.graph_model.specs.declared.events.What.TheVariants.{Node as Update, Add, Delete}
use Rattle.graph_model.specs.declared.events.Event.{Event}
use Rattle.graph_model.specs.Interval.{Interval, earliest, latest, is_inside}
use Rattle.graph_model.specs.Props.{key_cmp, keys_differ}
use Rattle.graph_model.specs.PropertyField.{property_of}
use Rattle.graph_model.specs.Range.{is_moment}
use Rattle.graph_model.specs.Refusal.{RecordRefusal, Shape, Text, Time, Outside, Name, Property}
use Rattle.graph_model.specs.Rising.{in_order}
use Rattle.graph_model.specs.TextForm.{is_name}
use Rattle.graph_model.specs.WholeNumber.{number_of, whole_of}
use Rattle.graph_model.specs.Limits.{most_properties}

-- what a record says: bounds, the type of a node, or an event
pub data Said : Type 0 where
  SaysBounds : (bounds : Interval) → Said
  SaysType : (node name : List ℕ) → Said
  SaysEvent : (event : Event) → Said

-- the kinds of records
pub data RecordKind : Type 0 where
  OfBounds : RecordKind
  OfType : RecordKind
  OfUpdate : RecordKind
  OfAddition : RecordKind
  OfDeletion : RecordKind

-- the field at a place, or an empty one where there is none
abbrev pub field_of : List (List ℕ) → ℕ → List ℕ
field_of fields i = unwrap_or (field_at fields i) []

-- a kind, where the record has its form
abbrev pub kind_where : Bool → RecordKind → Option RecordKind
kind_where formed kind = if formed then Some kind else None

-- the kind of a record, by its first field, where it has as many fields as that kind has; bounds are the first record alone
abbrev pub kind_of_record : Bool → List (List ℕ) → Option RecordKind
kind_of_record first fields = if bytes_eq (field_of fields 0) (codes "span") then kind_where (first && (length fields == 3)) OfBounds
    else (if bytes_eq (field_of fields 0) (codes "type") then kind_where (length fields == 3) OfType
    else (if bytes_eq (field_of fields 0) (codes "node") then kind_where (nat_le 3 (length fields)) OfUpdate
    else (if bytes_eq (field_of fields 0) (codes "edge") then kind_where (nat_le 5 (length fields)) OfAddition
    else (if bytes_eq (field_of fields 0) (codes "delete") then kind_where (length fields == 5) OfDeletion
    else None))))

-- each field is UTF-8
abbrev pub are_texts : List (List ℕ) → Bool
are_texts fields = list_all is_utf8 fields

-- one to ten digits
abbrev pub are_order_digits : List ℕ → Bool
are_order_digits digits = nat_lt 0 (length digits) && (nat_le (length digits) 10 && list_all is_ascii_digit digits)

-- the order that digits write, below 2^32
abbrev pub order_of : List ℕ → Option ℕ
order_of digits = if are_order_digits digits && nat_lt (number_of digits) (2 ^ 32) then Some (number_of digits) else None

-- a time that an event may have, and its order
abbrev pub moment_with : Option ℤ → Option ℕ → Option (ℤ × ℕ)
moment_with None order = None
moment_with (Some time) None = None
moment_with (Some time) (Some order) = if is_moment time then Some (time, order) else None

-- a byte is a `@`
abbrev pub is_at_sign : ℕ → Bool
is_at_sign b = b == 64

-- the time and the order that a field says: a whole number, and behind a `@` the order, which is 0 where there is no `@`
abbrev pub moment_of : List ℕ → Option (ℤ × ℕ)
moment_of field = if nat_lt (position_or_len is_at_sign field) (length field)
    then moment_with (whole_of (before_first is_at_sign field)) (order_of (after_first is_at_sign field))
    else moment_with (whole_of field) (Some 0)

-- a moment that is inside bounds
abbrev pub moment_inside : Interval → Option (ℤ × ℕ) → Result (ℤ × ℕ) RecordRefusal
moment_inside bounds None = Err Time
moment_inside bounds (Some at) = if is_inside bounds at.0 then Ok at else Err Outside

-- fields are properties: at most 256, each of them one, and no two with one key
abbrev pub are_properties : List (List ℕ) → Bool
are_properties fields = nat_le (length fields) most_properties && (list_all (λ field. is_some (property_of field)) fields && keys_differ (filter_map property_of fields))

-- the properties that fields are, rising by key
abbrev pub properties_in : List (List ℕ) → Option (List (List ℕ × Value))
properties_in fields = if are_properties fields then Some (in_order key_cmp (filter_map property_of fields)) else None

-- the properties of the fields from a place on
abbrev pub props_from : ℕ → List (List ℕ) → Option (List (List ℕ × Value))
props_from start fields = properties_in (drop start fields)

-- what is updated or added with properties
abbrev pub with_props : (List (List ℕ × Value) → What) → Option (List (List ℕ × Value)) → Result What RecordRefusal
with_props what None = Err Property
with_props what (Some props) = Ok (what props)

-- the edge that a record names
abbrev pub edge_of : List (List ℕ) → EdgeName
edge_of fields = record { src = field_of fields 2; dst = field_of fields 3; layer = field_of fields 4 }

abbrev pub names_edge : List (List ℕ) → Bool
names_edge fields = is_name (field_of fields 2) && (is_name (field_of fields 3) && is_name (field_of fields 4))

-- the update of a node, the addition of an edge, or its deletion that a record says
abbrev pub update_of : List (List ℕ) → Result What RecordRefusal
update_of fields = if is_name (field_of fields 2) then with_props (λ props. Update (field_of fields 2) props) (props_from 3 fields) else Err Name

abbrev pub addition_of : List (List ℕ) → Result What RecordRefusal
addition_of fields = if names_edge fields then with_props (λ props. Add (edge_of fields) props) (props_from 5 fields) else Err Name

abbrev pub deletion_of : List (List ℕ) → Result What RecordRefusal
deletion_of fields = if names_edge fields then Ok (Delete (edge_of fields)) else Err Name

-- the event of a moment, or what refuses it: the moment first
abbrev pub event_at : Result (ℤ × ℕ) RecordRefusal → Result What RecordRefusal → Result Said RecordRefusal
event_at (Err refusal) what = Err refusal
event_at (Ok at) (Err refusal) = Err refusal
event_at (Ok at) (Ok what) = Ok (SaysEvent (record { time = at.0; order = at.1; what = what }))

abbrev pub event_of : Interval → List (List ℕ) → Result What RecordRefusal → Result Said RecordRefusal
event_of bounds fields what = event_at (moment_inside bounds (moment_of (field_of fields 1))) what

-- the type that a record gives a node
abbrev pub type_said : List (List ℕ) → Result Said RecordRefusal
type_said fields = if is_name (field_of fields 1) && is_name (field_of fields 2) then Ok (SaysType (field_of fields 1) (field_of fields 2)) else Err Name

-- the bounds from one whole number up to another
abbrev pub bounds_from : Option ℤ → Option ℤ → Result Said RecordRefusal
bounds_from None hi = Err Time
bounds_from (Some lo) None = Err Time
bounds_from (Some lo) (Some hi) = if int_le earliest lo && (int_le lo hi && int_le hi latest) then Ok (SaysBounds (record { lo = lo; hi = hi })) else Err Time

-- the bounds that a record says
abbrev pub bounds_said : List (List ℕ) → Result Said RecordRefusal
bounds_said fields = bounds_from (whole_of (field_of fields 1)) (whole_of (field_of fields 2))

-- what a record of a kind says
abbrev pub said_by : RecordKind → Interval → List (List ℕ) → Result Said RecordRefusal
said_by OfBounds bounds fields = bounds_said fields
said_by OfType bounds fields = type_said fields
said_by OfUpdate bounds fields = event_of bounds fields (update_of fields)
said_by OfAddition bounds fields = event_of bounds fields (addition_of fields)
said_by OfDeletion bounds fields = event_of bounds fields (deletion_of fields)

-- what a record says once its kind is known: its shape comes first, then whether its fields are texts
abbrev pub said_as : Option RecordKind → Interval → List (List ℕ) → Result Said RecordRefusal
said_as None bounds fields = Err Shape
said_as (Some kind) bounds fields = if are_texts fields then said_by kind bounds fields else Err Text

-- what a record says, or the first refusal of its fields
abbrev pub row_of : Bool → Interval → List (List ℕ) → Result Said RecordRefusal
row_of first bounds fields = said_as (kind_of_record first fields) bounds fields
