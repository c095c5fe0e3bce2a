-- What is written of an event, a type or bounds is read again.
use Rattle.std.proofs.Common.{◌≡◌, ◌<◌, ◌≤◌, ◌^◌, ◌∷◌, ◌++◌, ◌&&◌, ℕ, ℤ, Bool, true, List, Ok, map, length, refl, arith, nat_lt, nat_le}
use Rattle.std.specs.Prelude.{IsTrue, codes, int_le}
use Rattle.std.specs.Str.{is_utf8}
use Rattle.std.specs.Fmt.{signed_decimal}
use Rattle.std.proofs.lemmas.Bool.{and_parts}
use Rattle.std.proofs.lemmas.Bool.Decides.{nat_tests}
use Rattle.std.proofs.lemmas.Int.{ints}
use Rattle.property_values.proofs.Signed.{whole_of-decimal}
use Rattle.csv.specs.Records.{field_at}
use Rattle.graph_model.specs.Interval.{Interval, earliest, latest, is_inside}
use Rattle.graph_model.specs.Record.{edge_fields, event_fields, order_text, prop_text, span_fields, time_text, type_fields, what_fields}
use Rattle.graph_model.specs.declared.properties.Value.{Value}
use Rattle.graph_model.specs.declared.events.EdgeName.{EdgeName}
use Rattle.graph_model.specs.declared.events.What.{What}
use Rattle.graph_model.specs.declared.events.What.TheVariants as what
use Rattle.graph_model.specs.declared.events.Event.{Event}
use Rattle.graph_model.specs.Range.{is_moment}
use Rattle.graph_model.specs.Said.{SaysBounds, SaysEvent, SaysType, row_of}
use Rattle.graph_model.specs.TextForm.{is_name}
use Rattle.event_rows.specs.Sayable.{AreSayableProps, IsSayable, IsSayableWhat, are_bounds, is_edge_name}
use Rattle.event_rows.proofs.Gathered.{properties_in-text}
use Rattle.event_rows.proofs.RowsUtf8.{literal-text, props-text, signed-text, time-text}
use Rattle.event_rows.proofs.Moments.{bound-fits, moment_of-text, time-fits}

le-trans : (a b c : ℤ) → IsTrue (int_le a b) → IsTrue (int_le b c) → IsTrue (int_le a c)
le-trans a b c h k = grind (arith, ints)

at-least : (k n : ℕ) → k ≤ n → nat_le k n ≡ true
at-least k n h = grind (arith, nat_tests)

-- an update of a node
pub node-again : (first : Bool) (bounds : Interval) (time : ℤ) (order : ℕ) (name : List ℕ) (props : List (List ℕ × Value))
    → IsTrue (is_moment time) → IsTrue (is_inside bounds time) → order < 2 ^ 32 → IsTrue (is_name name) → AreSayableProps props
    → row_of first bounds (codes "node" ∷ (signed_decimal time ++ order_text order) ∷ name ∷ map prop_text props) ≡ Ok (SaysEvent (record { time = time; order = order; what = what.Node name props }))
unfolding field_at
node-again first bounds time order name props is inside small named all =
    let (rise, few, each) = all in
    let (utf8, sized) = and_parts (is_utf8 name) (nat_lt 0 (length name) && nat_le (length name) 256) named in
    let enough : nat_le 3 (length (codes "node" ∷ (signed_decimal time ++ order_text order) ∷ name ∷ map prop_text props)) ≡ true = at-least 3 _ (omega arith) in
    rw (
      enough,
      literal-text (codes "node") refl,
      time-text time order (time-fits time is) small,
      utf8,
      props-text props each,
      moment_of-text time order is small,
      inside,
      sized,
      properties_in-text props all,
    ) refl

-- an addition of an edge
pub edge-again : (first : Bool) (bounds : Interval) (time : ℤ) (order : ℕ) (edge : EdgeName) (props : List (List ℕ × Value))
    → IsTrue (is_moment time) → IsTrue (is_inside bounds time) → order < 2 ^ 32 → IsTrue (is_edge_name edge) → AreSayableProps props
    → row_of first bounds ((codes "edge" ∷ (signed_decimal time ++ order_text order) ∷ edge_fields edge) ++ map prop_text props) ≡ Ok (SaysEvent (record { time = time; order = order; what = what.Add edge props }))
unfolding field_at
edge-again first bounds time order edge props is inside small named all =
    let (rise, few, each) = all in
    let (src, ends) = and_parts (is_name edge.src) (is_name edge.dst && is_name edge.layer) named in
    let (dst, layer) = and_parts (is_name edge.dst) (is_name edge.layer) ends in
    let (src_text, src_sized) = and_parts (is_utf8 edge.src) (nat_lt 0 (length edge.src) && nat_le (length edge.src) 256) src in
    let (dst_text, dst_sized) = and_parts (is_utf8 edge.dst) (nat_lt 0 (length edge.dst) && nat_le (length edge.dst) 256) dst in
    let (layer_text, layer_sized) = and_parts (is_utf8 edge.layer) (nat_lt 0 (length edge.layer) && nat_le (length edge.layer) 256) layer in
    let enough : nat_le 5 (length ((codes "edge" ∷ (signed_decimal time ++ order_text order) ∷ edge_fields edge) ++ map prop_text props)) ≡ true = at-least 5 _ (omega arith) in
    rw (
      enough,
      literal-text (codes "edge") refl,
      time-text time order (time-fits time is) small,
      src_text,
      dst_text,
      layer_text,
      props-text props each,
      moment_of-text time order is small,
      inside,
      src_sized,
      dst_sized,
      layer_sized,
      properties_in-text props all,
    ) refl

-- a deletion of an edge
pub delete-again : (first : Bool) (bounds : Interval) (time : ℤ) (order : ℕ) (edge : EdgeName)
    → IsTrue (is_moment time) → IsTrue (is_inside bounds time) → order < 2 ^ 32 → IsTrue (is_edge_name edge)
    → row_of first bounds (codes "delete" ∷ (signed_decimal time ++ order_text order) ∷ edge_fields edge) ≡ Ok (SaysEvent (record { time = time; order = order; what = what.Delete edge }))
unfolding field_at
delete-again first bounds time order edge is inside small named =
    let (src, ends) = and_parts (is_name edge.src) (is_name edge.dst && is_name edge.layer) named in
    let (dst, layer) = and_parts (is_name edge.dst) (is_name edge.layer) ends in
    let (src_text, src_sized) = and_parts (is_utf8 edge.src) (nat_lt 0 (length edge.src) && nat_le (length edge.src) 256) src in
    let (dst_text, dst_sized) = and_parts (is_utf8 edge.dst) (nat_lt 0 (length edge.dst) && nat_le (length edge.dst) 256) dst in
    let (layer_text, layer_sized) = and_parts (is_utf8 edge.layer) (nat_lt 0 (length edge.layer) && nat_le (length edge.layer) 256) layer in
    rw (
      literal-text (codes "delete") refl,
      time-text time order (time-fits time is) small,
      src_text,
      dst_text,
      layer_text,
      moment_of-text time order is small,
      inside,
      src_sized,
      dst_sized,
      layer_sized,
    ) refl

pub event-again : (first : Bool) (bounds : Interval) (x : Event) → IsSayable bounds x → row_of first bounds (event_fields x) ≡ Ok (SaysEvent x)
event-again first bounds x is = by x.what is.3
  where
    by : (w : What) → IsSayableWhat w → row_of first bounds (what_fields (time_text x) w) ≡ Ok (SaysEvent (record { time = x.time; order = x.order; what = w }))
    by (what.Node name props) ok = node-again first bounds x.time x.order name props is.0 is.1 is.2 ok.0 ok.1
    by (what.Add edge props) ok = edge-again first bounds x.time x.order edge props is.0 is.1 is.2 ok.0 ok.1
    by (what.Delete edge) ok = delete-again first bounds x.time x.order edge is.0 is.1 is.2 ok

pub type-again : (first : Bool) (bounds : Interval) (node name : List ℕ) → IsTrue (is_name node) → IsTrue (is_name name)
    → row_of first bounds (type_fields node name) ≡ Ok (SaysType node name)
unfolding field_at
type-again first bounds node name a b =
    let (node_text, node_sized) = and_parts (is_utf8 node) (nat_lt 0 (length node) && nat_le (length node) 256) a in
    let (name_text, name_sized) = and_parts (is_utf8 name) (nat_lt 0 (length name) && nat_le (length name) 256) b in
    rw (literal-text (codes "type") refl, node_text, name_text, node_sized, name_sized) refl

pub span-again : (bounds i : Interval) → IsTrue (are_bounds i) → row_of true bounds (span_fields i) ≡ Ok (SaysBounds i)
unfolding field_at
span-again bounds i is =
    let (low, more) = and_parts (int_le earliest i.lo) (int_le i.lo i.hi && int_le i.hi latest) is in
    let (order, high) = and_parts (int_le i.lo i.hi) (int_le i.hi latest) more in
    let lo = bound-fits i.lo low (le-trans i.lo i.hi latest order high) in
    let hi = bound-fits i.hi (le-trans earliest i.lo i.hi low order) high in
    rw (literal-text (codes "span") refl, signed-text i.lo lo, signed-text i.hi hi, whole_of-decimal i.lo lo, whole_of-decimal i.hi hi, low, order, high) refl
