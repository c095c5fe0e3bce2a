-- What the fields of a record say, rows can say again.
use Rattle.std.proofs.Common.{◌≡◌, suc, ◌<◌, ◌≤◌, ◌^◌, ◌&&◌, ℕ, ℤ, Bool, true, false, List, [], ◌∷◌, Option, Some, None, Result, Ok, Err, length, drop, refl, ap, ◌∙◌, subst, arith, nat_lt, nat_le}
use Rattle.std.specs.Prelude.{IsTrue, int_le, if◌then◌else◌}
use Rattle.std.specs.List.{AllByRecursion, after_first, before_first, position_or_len}
use Rattle.std.specs.Ordering.{is_lt}
use Rattle.std.proofs.lemmas.Bool.{cond_both}
use Rattle.graph_model.specs.Names.{name_cmp}
use Rattle.std.proofs.lemmas.Bool.Decides.{nat_tests}
use Rattle.graph_model.specs.declared.properties.Value.{Value}
use Rattle.graph_model.specs.declared.properties.Value.TheVariants.{Int, Flag, Text}
use Rattle.graph_model.specs.declared.events.What.{What}
use Rattle.graph_model.specs.declared.events.What.TheVariants as what
use Rattle.graph_model.specs.Interval.{Interval, earliest, is_inside, latest}
use Rattle.graph_model.specs.PropertyField.{IsWritable, WritesValue, property_of}
use Rattle.graph_model.specs.Props.{has_key, put_prop}
use Rattle.graph_model.specs.Range.{is_moment}
use Rattle.graph_model.specs.Refusal.{Name, Outside, RecordRefusal, Text as NoText, Time}
use Rattle.graph_model.specs.Said.{OfAddition, OfBounds, OfDeletion, OfType, OfUpdate, RecordKind, Said, SaysBounds, SaysEvent, SaysType, addition_of, are_order_digits, are_texts, bounds_from, deletion_of, edge_of, event_at, event_of, field_of, is_at_sign, kind_of_record, moment_inside, moment_of, moment_with, names_edge, order_of, properties_in, props_from, row_of, said_as, said_by, type_said, update_of, with_props}
use Rattle.graph_model.specs.TextForm.{is_name}
use Rattle.graph_model.specs.WholeNumber.{number_of, whole_of}
use Rattle.graph_model.proofs.PropItems.{KeysRise-put, length-put_prop}
use Rattle.property_values.proofs.Fields.{WritesProperty-from_read}
use Rattle.event_rows.specs.Gathering.{with_properties, on_some, put_field, put_read}
use Rattle.event_rows.specs.Sayable.{AreSayableProps, IsSayable, IsSayableProp, IsSayableType, IsSayableWhat, are_bounds}
use Rattle.event_rows.specs.declared.parsed.Parsed.TheVariants as parsed
use Rattle.event_rows.proofs.Gathering.{with_properties-properties_in}
use Rattle.event_rows.proofs.Inside.{all_front}

-- ---- properties

written-writable : (text : List ℕ) (v : Value) → WritesValue text v → IsWritable v
written-writable text (Int n) w = w.2.fits
written-writable text (Flag b) w = tt
written-writable text (Text t) w = w.1

property-sayable : (field : List ℕ) (p : List ℕ × Value) → property_of field ≡ Some p → IsSayableProp p
property-sayable field p read =
    let w = WritesProperty-from_read field p.0 p.1 read in
    (w.name, w.plain, written-writable w.text p.1 w.written)

pub each-put : (P : List ℕ × Value → Type 0) (p : List ℕ × Value) (qs : List (List ℕ × Value)) → P p → AllByRecursion P qs → AllByRecursion P (put_prop p qs)
each-put P p [] h k = (h, tt)
each-put P p (q ∷ qs) h k = cond_both (is_lt (name_cmp p.0 q.0)) (p ∷ q ∷ qs) (q ∷ put_prop p qs) (AllByRecursion P) (λ e. (h, k)) (λ e. (k.0, each-put P p qs h k.1))

-- one property more
put-sayable : (props more : List (List ℕ × Value)) (field : List ℕ) → AreSayableProps props → put_field props field ≡ Some more → AreSayableProps more
put-sayable props more field h put = by (property_of field) refl put
  where
    room : (p : List ℕ × Value) → property_of field ≡ Some p → (a b : Bool) → has_key p.0 props ≡ a → nat_le 256 (length props) ≡ b → (if a then None else (if b then None else Some (put_prop p props))) ≡ Some more → AreSayableProps more
    room p is true b has full e = cc e
    room p is false true has full e = cc e
    room p is false false has full e =
        let same : put_prop p props ≡ more = cc e in
        let size = length-put_prop p props in
        let few : length (put_prop p props) ≤ 256 = grind (arith, nat_tests) in
        subst AreSayableProps same (KeysRise-put p props has h.0, few, each-put IsSayableProp p props (property-sayable field p is) h.2)

    by : (o : Option (List ℕ × Value)) → property_of field ≡ o → put_read props o ≡ Some more → AreSayableProps more
    by None is e = cc e
    by (Some p) is e = room p is (has_key p.0 props) (nat_le 256 (length props)) refl refl e

with_properties-sayable : (fields : List (List ℕ)) (props all : List (List ℕ × Value)) → AreSayableProps props → with_properties props fields ≡ Some all → AreSayableProps all
with_properties-sayable [] props all h e = let same : props ≡ all = cc e in subst AreSayableProps same h
with_properties-sayable (field ∷ fields) props all h e = by (put_field props field) refl e (with_properties-sayable fields)
  where
    by : (o : Option (List (List ℕ × Value))) → put_field props field ≡ o → on_some o (λ more. with_properties more fields) ≡ Some all
        → ((qs rs : List (List ℕ × Value)) → AreSayableProps qs → with_properties qs fields ≡ Some rs → AreSayableProps rs) → AreSayableProps all
    by None is e rest = cc e
    by (Some more) is e rest = rest more all (put-sayable props more field h is) e

pub properties-sayable : (fields : List (List ℕ)) (props : List (List ℕ × Value)) → properties_in fields ≡ Some props → AreSayableProps props
properties-sayable fields props read = with_properties-sayable fields [] props (tt, omega arith, tt) (with_properties-properties_in fields ∙ read)

-- ---- moments

moment_with-sayable : (time : Option ℤ) (order : Option ℕ) (at : ℤ × ℕ) → ((k : ℕ) → order ≡ Some k → k < 2 ^ 32) → moment_with time order ≡ Some at → IsTrue (is_moment at.0) × (at.1 < 2 ^ 32)
moment_with-sayable None order at small e = cc e
moment_with-sayable (Some t) None at small e = cc e
moment_with-sayable (Some t) (Some k) at small e = by (is_moment t) refl e
  where
    by : (b : Bool) → is_moment t ≡ b → (if b then Some (t, k) else None) ≡ Some at → IsTrue (is_moment at.0) × (at.1 < 2 ^ 32)
    by true is e =
        let same : (t, k) ≡ at = cc e in
        subst (λ (a : ℤ × ℕ). IsTrue (is_moment a.0) × (a.1 < 2 ^ 32)) same (is, small k refl)
    by false is e = cc e

order-small : (digits : List ℕ) (k : ℕ) → order_of digits ≡ Some k → k < 2 ^ 32
order-small digits k e = by (are_order_digits digits) (nat_lt (number_of digits) (2 ^ 32)) refl e
  where
    by : (a b : Bool) → nat_lt (number_of digits) (2 ^ 32) ≡ b → (if a && b then Some (number_of digits) else None) ≡ Some k → k < 2 ^ 32
    by true true is e =
        let same : number_of digits ≡ k = cc e in
        let small : number_of digits < 2 ^ 32 = less (number_of digits) (2 ^ 32) is in
        subst (λ n. n < 2 ^ 32) same small
      where
        less : (n m : ℕ) → nat_lt n m ≡ true → n < m
        less n m h = grind (arith, nat_tests)
    by true false is e = cc e
    by false b is e = cc e

zero-small : (k : ℕ) → Some 0 ≡ Some k → k < 2 ^ 32
zero-small k e = let same : 0 ≡ k = cc e in subst (λ n. n < 2 ^ 32) same (omega arith)

moment-sayable : (field : List ℕ) (at : ℤ × ℕ) → moment_of field ≡ Some at → IsTrue (is_moment at.0) × (at.1 < 2 ^ 32)
moment-sayable field at e = by (nat_lt (position_or_len is_at_sign field) (length field)) e
  where
    by : (b : Bool) → (if b then moment_with (whole_of (before_first is_at_sign field)) (order_of (after_first is_at_sign field)) else moment_with (whole_of field) (Some 0)) ≡ Some at → IsTrue (is_moment at.0) × (at.1 < 2 ^ 32)
    by true e = moment_with-sayable (whole_of (before_first is_at_sign field)) (order_of (after_first is_at_sign field)) at (λ k is. order-small (after_first is_at_sign field) k is) e
    by false e = moment_with-sayable (whole_of field) (Some 0) at zero-small e

-- ---- what happens

with_props-sayable : (make : List (List ℕ × Value) → What) (fields : List (List ℕ)) (w : What) → ((props : List (List ℕ × Value)) → AreSayableProps props → IsSayableWhat (make props)) → with_props make (properties_in fields) ≡ Ok w → IsSayableWhat w
with_props-sayable make fields w each e = by (properties_in fields) refl e
  where
    by : (o : Option (List (List ℕ × Value))) → properties_in fields ≡ o → with_props make o ≡ Ok w → IsSayableWhat w
    by None is e = cc e
    by (Some props) is e = let same : make props ≡ w = cc e in subst IsSayableWhat same (each props (properties-sayable fields props is))

update-sayable : (fields : List (List ℕ)) (w : What) → update_of fields ≡ Ok w → IsSayableWhat w
update-sayable fields w e = by (is_name (field_of fields 2)) refl e
  where
    by : (b : Bool) → is_name (field_of fields 2) ≡ b → (if b then with_props (λ props. what.Node (field_of fields 2) props) (props_from 3 fields) else Err Name) ≡ Ok w → IsSayableWhat w
    by true is e = with_props-sayable (λ props. what.Node (field_of fields 2) props) (drop 3 fields) w (λ props h. (is, h)) e
    by false is e = cc e

addition-sayable : (fields : List (List ℕ)) (w : What) → addition_of fields ≡ Ok w → IsSayableWhat w
addition-sayable fields w e = by (names_edge fields) refl e
  where
    by : (b : Bool) → names_edge fields ≡ b → (if b then with_props (λ props. what.Add (edge_of fields) props) (props_from 5 fields) else Err Name) ≡ Ok w → IsSayableWhat w
    by true is e = with_props-sayable (λ props. what.Add (edge_of fields) props) (drop 5 fields) w (λ props h. (is, h)) e
    by false is e = cc e

deletion-sayable : (fields : List (List ℕ)) (w : What) → deletion_of fields ≡ Ok w → IsSayableWhat w
deletion-sayable fields w e = by (names_edge fields) refl e
  where
    by : (b : Bool) → names_edge fields ≡ b → (if b then Ok (what.Delete (edge_of fields)) else Err Name) ≡ Ok w → IsSayableWhat w
    by true is e = let same : what.Delete (edge_of fields) ≡ w = cc e in subst IsSayableWhat same is
    by false is e = cc e

-- ---- a record

-- what is said can be said again: bounds in order, a type by its names, or an event inside bounds
abbrev pub IsSaid : Interval → Said → Type 0
IsSaid bounds (SaysBounds i) = IsTrue (are_bounds i)
IsSaid bounds (SaysType node name) = IsSayableType (node, name)
IsSaid bounds (SaysEvent x) = IsSayable bounds x

event-said : (bounds : Interval) (fields : List (List ℕ)) (what : Result What RecordRefusal) (said : Said) → ((w : What) → what ≡ Ok w → IsSayableWhat w) → event_of bounds fields what ≡ Ok said → IsSaid bounds said
event-said bounds fields what said each e = by (moment_of (field_of fields 1)) refl e
  where
    happens : (at : ℤ × ℕ) → moment_of (field_of fields 1) ≡ Some at → is_inside bounds at.0 ≡ true → (o : Result What RecordRefusal) → what ≡ o → event_at (Ok at) o ≡ Ok said → IsSaid bounds said
    happens at is within (Ok w) so e =
        let same : SaysEvent (record { time = at.0; order = at.1; what = w }) ≡ said = cc e in
        let moment = moment-sayable (field_of fields 1) at is in
        subst (IsSaid bounds) same (moment.0, within, moment.1, each w so)
    happens at is within (Err why) so e = cc e

    inside : (at : ℤ × ℕ) → moment_of (field_of fields 1) ≡ Some at → (b : Bool) → is_inside bounds at.0 ≡ b → event_at (if b then Ok at else Err Outside) what ≡ Ok said → IsSaid bounds said
    inside at is true within e = happens at is within what refl e
    inside at is false within e = cc e

    by : (m : Option (ℤ × ℕ)) → moment_of (field_of fields 1) ≡ m → event_at (moment_inside bounds m) what ≡ Ok said → IsSaid bounds said
    by None is e = cc e
    by (Some at) is e = inside at is (is_inside bounds at.0) refl e

bounds-said : (bounds : Interval) (lo hi : Option ℤ) (said : Said) → bounds_from lo hi ≡ Ok said → IsSaid bounds said
bounds-said bounds None hi said e = cc e
bounds-said bounds (Some lo) None said e = cc e
bounds-said bounds (Some lo) (Some hi) said e = by (int_le earliest lo && (int_le lo hi && int_le hi latest)) refl e
  where
    by : (b : Bool) → (int_le earliest lo && (int_le lo hi && int_le hi latest)) ≡ b → (if b then Ok (SaysBounds (record { lo = lo; hi = hi })) else Err Time) ≡ Ok said → IsSaid bounds said
    by true is e = let same : SaysBounds (record { lo = lo; hi = hi }) ≡ said = cc e in subst (IsSaid bounds) same is
    by false is e = cc e

type-said : (bounds : Interval) (fields : List (List ℕ)) (said : Said) → type_said fields ≡ Ok said → IsSaid bounds said
type-said bounds fields said e = by (is_name (field_of fields 1)) (is_name (field_of fields 2)) refl refl e
  where
    by : (a b : Bool) → is_name (field_of fields 1) ≡ a → is_name (field_of fields 2) ≡ b → (if a && b then Ok (SaysType (field_of fields 1) (field_of fields 2)) else Err Name) ≡ Ok said → IsSaid bounds said
    by true true a_is b_is e = let same : SaysType (field_of fields 1) (field_of fields 2) ≡ said = cc e in subst (IsSaid bounds) same (a_is, b_is)
    by true false a_is b_is e = cc e
    by false b a_is b_is e = cc e

kind-said : (kind : RecordKind) (bounds : Interval) (fields : List (List ℕ)) (said : Said) → said_by kind bounds fields ≡ Ok said → IsSaid bounds said
kind-said OfBounds bounds fields said e = bounds-said bounds (whole_of (field_of fields 1)) (whole_of (field_of fields 2)) said e
kind-said OfType bounds fields said e = type-said bounds fields said e
kind-said OfUpdate bounds fields said e = event-said bounds fields (update_of fields) said (update-sayable fields) e
kind-said OfAddition bounds fields said e = event-said bounds fields (addition_of fields) said (addition-sayable fields) e
kind-said OfDeletion bounds fields said e = event-said bounds fields (deletion_of fields) said (deletion-sayable fields) e

as-said : (kind : Option RecordKind) (bounds : Interval) (fields : List (List ℕ)) (said : Said) → said_as kind bounds fields ≡ Ok said → IsSaid bounds said
as-said None bounds fields said e = cc e
as-said (Some kind) bounds fields said e = by (are_texts fields) e
  where
    by : (b : Bool) → (if b then said_by kind bounds fields else Err NoText) ≡ Ok said → IsSaid bounds said
    by true e = kind-said kind bounds fields said e
    by false e = cc e

pub row-said : (first : Bool) (bounds : Interval) (fields : List (List ℕ)) (said : Said) → row_of first bounds fields ≡ Ok said → IsSaid bounds said
row-said first bounds fields said e = as-said (kind_of_record first fields) bounds fields said e

-- bounds are said by record 1 alone
pub bounds-first : (first : Bool) (bounds : Interval) (fields : List (List ℕ)) (i : Interval) → row_of first bounds fields ≡ Ok (SaysBounds i) → IsTrue first
bounds-first first bounds fields i e = all_front first bounds fields (Ok (parsed.Span i)) e
