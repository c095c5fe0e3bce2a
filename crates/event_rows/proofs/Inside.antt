-- An event that a record says is inside the bounds of the graph, and bounds stand in record 1.
use Rattle.std.proofs.Common.{◌≡◌, ◌==◌, ℕ, ℤ, Bool, true, false, List, Option, Some, None, length, nat_le, refl, ap}
use Rattle.std.specs.Prelude.{◌&&◌, IsTrue, codes, int_le, IfOk, Result, Ok, Err, if◌then◌else◌}
use Rattle.std.specs.Str.{bytes_eq}
use Rattle.graph_model.specs.declared.events.What.{What}
use Rattle.graph_model.specs.declared.events.Event.{Event}
use Rattle.graph_model.specs.Interval.{Interval, earliest, is_inside, latest}
use Rattle.graph_model.specs.Refusal.{RecordRefusal, Outside}
use Rattle.graph_model.specs.Said.{RecordKind, SaysBounds, kind_where, OfAddition, OfBounds, OfDeletion, OfType, OfUpdate, SaysEvent, addition_of, are_texts, bounds_from, deletion_of, event_at, field_of, kind_of_record, moment_inside, moment_of, row_of, said_as, said_by, type_said, update_of}
use Rattle.graph_model.specs.TextForm.{is_name}
use Rattle.graph_model.specs.WholeNumber.{whole_of}
use Rattle.event_rows.specs.declared.parsed.Parsed.{Parsed}
use Rattle.event_rows.specs.declared.parsed.RowRefusal.{RowRefusal}
use Rattle.event_rows.specs.declared.parsed.Parsed.TheVariants as parsed
use Rattle.event_rows.specs.Parsing.{IsAtFront, IsInsideBounds, said_of}

-- the event of a moment inside bounds
event_at-inside : (bounds : Interval) (at : Option (ℤ × ℕ)) (what : Result What RecordRefusal) (x : Event) → event_at (moment_inside bounds at) what ≡ Ok (SaysEvent x) → IsTrue (is_inside bounds x.time)
event_at-inside bounds None what x says = cc says
event_at-inside bounds (Some at) what x says = by (is_inside bounds at.0) refl what says
  where
    by : (t : Bool) → is_inside bounds at.0 ≡ t → (what : Result What RecordRefusal) → event_at (if t then Ok at else Err Outside) what ≡ Ok (SaysEvent x) → IsTrue (is_inside bounds x.time)
    by true inside (Ok w) says = let same : at.0 ≡ x.time = cc says in rw (← same) inside
    by true inside (Err e) says = cc says
    by false outside what says = cc says

-- bounds and types are no events
bounds_from-event : (lo hi : Option ℤ) (x : Event) → bounds_from lo hi ≡ Ok (SaysEvent x) → ⊥
bounds_from-event None hi x says = cc says
bounds_from-event (Some lo) None x says = cc says
bounds_from-event (Some lo) (Some hi) x says = by (int_le earliest lo && (int_le lo hi && int_le hi latest)) refl
  where
    by : (t : Bool) → (int_le earliest lo && (int_le lo hi && int_le hi latest)) ≡ t → ⊥
    by true is = cc (rw is at says)
    by false is = cc (rw is at says)

type_said-event : (fields : List (List ℕ)) (x : Event) → type_said fields ≡ Ok (SaysEvent x) → ⊥
type_said-event fields x says = by (is_name (field_of fields 1) && is_name (field_of fields 2)) refl
  where
    by : (t : Bool) → (is_name (field_of fields 1) && is_name (field_of fields 2)) ≡ t → ⊥
    by true is = cc (rw is at says)
    by false is = cc (rw is at says)

said_by-inside : (kind : RecordKind) (bounds : Interval) (fields : List (List ℕ)) (x : Event) → said_by kind bounds fields ≡ Ok (SaysEvent x) → IsTrue (is_inside bounds x.time)
said_by-inside OfBounds bounds fields x says = absurd (bounds_from-event (whole_of (field_of fields 1)) (whole_of (field_of fields 2)) x says)
said_by-inside OfType bounds fields x says = absurd (type_said-event fields x says)
said_by-inside OfUpdate bounds fields x says = event_at-inside bounds (moment_of (field_of fields 1)) (update_of fields) x says
said_by-inside OfAddition bounds fields x says = event_at-inside bounds (moment_of (field_of fields 1)) (addition_of fields) x says
said_by-inside OfDeletion bounds fields x says = event_at-inside bounds (moment_of (field_of fields 1)) (deletion_of fields) x says

said_as-inside : (kind : Option RecordKind) (bounds : Interval) (fields : List (List ℕ)) (x : Event) → said_as kind bounds fields ≡ Ok (SaysEvent x) → IsTrue (is_inside bounds x.time)
said_as-inside None bounds fields x says = cc says
said_as-inside (Some kind) bounds fields x says = by (are_texts fields) refl
  where
    by : (t : Bool) → are_texts fields ≡ t → IsTrue (is_inside bounds x.time)
    by true is = said_by-inside kind bounds fields x (rw is at says)
    by false is = cc (rw is at says)

-- what a record says is within the bounds
row_of_within : (first : Bool) (bounds : Interval) (fields : List (List ℕ)) (p : Parsed) → row_of first bounds fields ≡ Ok (said_of p) → IsInsideBounds bounds p
row_of_within first bounds fields (parsed.Span i) says = tt
row_of_within first bounds fields (parsed.NodeType node name) says = tt
row_of_within first bounds fields (parsed.Event x) says = said_as-inside (kind_of_record first fields) bounds fields x says

-- bounds are the kind of record 1 alone
kind_where-bounds : (formed : Bool) (kind : RecordKind) → kind_where formed kind ≡ Some OfBounds → (kind ≡ OfBounds) × IsTrue formed
kind_where-bounds true kind is = (cc is, refl)
kind_where-bounds false kind is = cc is

kind_of_record-front : (first : Bool) (fields : List (List ℕ)) → kind_of_record first fields ≡ Some OfBounds → IsTrue first
kind_of_record-front true fields is = refl
kind_of_record-front false fields is = by (bytes_eq (field_of fields 0) (codes "span")) (bytes_eq (field_of fields 0) (codes "type")) (bytes_eq (field_of fields 0) (codes "node")) (bytes_eq (field_of fields 0) (codes "edge")) (bytes_eq (field_of fields 0) (codes "delete")) is
  where
    by : (a b c d e : Bool)
        → (if a then kind_where (false && (length fields == 3)) OfBounds else (if b then kind_where (length fields == 3) OfType else (if c then kind_where (nat_le 3 (length fields)) OfUpdate
        else (if d then kind_where (nat_le 5 (length fields)) OfAddition else (if e then kind_where (length fields == 5) OfDeletion else None))))) ≡ Some OfBounds → IsTrue false
    by true b c d e is = cc is
    by false true c d e is = cc (kind_where-bounds (length fields == 3) OfType is).0
    by false false true d e is = cc (kind_where-bounds (nat_le 3 (length fields)) OfUpdate is).0
    by false false false true e is = cc (kind_where-bounds (nat_le 5 (length fields)) OfAddition is).0
    by false false false false true is = cc (kind_where-bounds (length fields == 5) OfDeletion is).0
    by false false false false false is = cc is

-- a moment and what happens, or what refuses them, are no bounds
event_at-bounds : (at : Result (ℤ × ℕ) RecordRefusal) (what : Result What RecordRefusal) (i : Interval) → event_at at what ≡ Ok (SaysBounds i) → ⊥
event_at-bounds (Err e) what i says = cc says
event_at-bounds (Ok at) (Err e) i says = cc says
event_at-bounds (Ok at) (Ok w) i says = cc says

type_said-bounds : (fields : List (List ℕ)) (i : Interval) → type_said fields ≡ Ok (SaysBounds i) → ⊥
type_said-bounds fields i says = by (is_name (field_of fields 1) && is_name (field_of fields 2)) refl
  where
    by : (t : Bool) → (is_name (field_of fields 1) && is_name (field_of fields 2)) ≡ t → ⊥
    by true is = cc (rw is at says)
    by false is = cc (rw is at says)

said_by-bounds : (kind : RecordKind) (bounds : Interval) (fields : List (List ℕ)) (i : Interval) → said_by kind bounds fields ≡ Ok (SaysBounds i) → kind ≡ OfBounds
said_by-bounds OfBounds bounds fields i says = refl
said_by-bounds OfType bounds fields i says = absurd (type_said-bounds fields i says)
said_by-bounds OfUpdate bounds fields i says = absurd (event_at-bounds (moment_inside bounds (moment_of (field_of fields 1))) (update_of fields) i says)
said_by-bounds OfAddition bounds fields i says = absurd (event_at-bounds (moment_inside bounds (moment_of (field_of fields 1))) (addition_of fields) i says)
said_by-bounds OfDeletion bounds fields i says = absurd (event_at-bounds (moment_inside bounds (moment_of (field_of fields 1))) (deletion_of fields) i says)

said_as-bounds : (kind : Option RecordKind) (bounds : Interval) (fields : List (List ℕ)) (i : Interval) → said_as kind bounds fields ≡ Ok (SaysBounds i) → kind ≡ Some OfBounds
said_as-bounds None bounds fields i says = cc says
said_as-bounds (Some kind) bounds fields i says = by (are_texts fields) refl
  where
    by : (t : Bool) → are_texts fields ≡ t → Some kind ≡ Some OfBounds
    by true is = ap (λ (k : RecordKind). Some k) (said_by-bounds kind bounds fields i (rw is at says))
    by false is = cc (rw is at says)

-- bounds that a record says are at the front
row_of_front : (first : Bool) (bounds : Interval) (fields : List (List ℕ)) (p : Parsed) → row_of first bounds fields ≡ Ok (said_of p) → IsAtFront first p
row_of_front first bounds fields (parsed.Span i) says = kind_of_record-front first fields (said_as-bounds (kind_of_record first fields) bounds fields i says)
row_of_front first bounds fields (parsed.NodeType node name) says = tt
row_of_front first bounds fields (parsed.Event x) says = tt

-- so it is of all that a record may say
pub all_within : (first : Bool) (bounds : Interval) (fields : List (List ℕ)) (read : Result Parsed RowRefusal) → IfOk read (λ p. row_of first bounds fields ≡ Ok (said_of p)) → IfOk read (λ p. IsInsideBounds bounds p)
all_within first bounds fields (Ok p) says = row_of_within first bounds fields p says
all_within first bounds fields (Err e) says = tt

pub all_front : (first : Bool) (bounds : Interval) (fields : List (List ℕ)) (read : Result Parsed RowRefusal) → IfOk read (λ p. row_of first bounds fields ≡ Ok (said_of p)) → IfOk read (λ p. IsAtFront first p)
all_front first bounds fields (Ok p) says = row_of_front first bounds fields p says
all_front first bounds fields (Err e) says = tt
