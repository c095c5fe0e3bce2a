-- What is read of an events file can be printed: the world of any records.
use Rattle.std.proofs.Common.{◌≡◌, ◌+◌, ◌==◌, ◌≤◌, ◌&&◌, ℕ, Bool, true, false, not, List, [], ◌∷◌, ◌++◌, cond, Option, None, Some, Result, Ok, Err, refl, sym, subst, arith}
use Rattle.std.specs.Prelude.{◌↔◌, IsTrue, int_le, is_some, if◌then◌else◌}
use Rattle.std.specs.List.{Contains, AllByRecursion}
use Rattle.std.specs.Ordering.{is_gt, is_lt}
use Rattle.std.proofs.lemmas.Bool.{and_parts, cond_both}
use Rattle.std.proofs.lemmas.Bool.Decides.{nat_tests}
use Rattle.graph_model.specs.declared.properties.Value.{Value}
use Rattle.graph_model.specs.declared.events.What.{What}
use Rattle.graph_model.specs.declared.events.What.TheVariants as what
use Rattle.graph_model.specs.declared.events.Event.{Event}
use Rattle.graph_model.specs.declared.events.Model.{Model}
use Rattle.graph_model.specs.Accepting.{Quantity, EdgeKeys, Events, Layers, NodeKeys, Nodes, Types, event_refusal, is_other_type, mistyped, passed_limit, type_refusal}
use Rattle.graph_model.specs.Entity.{props_of, what_props}
use Rattle.graph_model.specs.Interval.{Interval, earliest, is_inside, latest}
use Rattle.graph_model.specs.PropertyField.{has_no_colon}
use Rattle.graph_model.specs.Props.{KeysRise}
use Rattle.graph_model.specs.Reading.{Reading, Refused, base_world, judge, judge_said, nothing_read, read_on, reading, records_of, unless, with_record, world_of, GivesType, Happens}
use Rattle.graph_model.specs.Refusal.{Deletion, KeyType, Limit, RecordRefusal, Retype}
use Rattle.graph_model.specs.Rising.{Rises, put_rising}
use Rattle.graph_model.specs.RowText.{world_text}
use Rattle.graph_model.specs.Said.{Said, SaysBounds, SaysEvent, SaysType, row_of}
use Rattle.graph_model.specs.World.{World, all_typed, allows, arrange, event_cmp, names_node, put_type, type_cmp, types_in}
use Rattle.world_laws.proofs.Base.{IsLawful-base}
use Rattle.world_laws.proofs.Counts.{length_in_order}
use Rattle.world_laws.proofs.Filters.{each_append, each_kept, each_weaker}
use Rattle.world_laws.proofs.InOrder.{each_in_order}
use Rattle.world_laws.proofs.Lawful.{all_pass}
use Rattle.world_laws.proofs.Order.{type_total}
use Rattle.world_laws.proofs.Rows.{each_contained}
use Rattle.world_laws.proofs.RisingItems.{Rises-put}
use Rattle.event_rows.specs.Sayable.{IsSayable, IsSayableProp, IsSayableType, IsSayableWhat, are_bounds}
use Rattle.round_trip.specs.Printable.{IsPrintable}
use Rattle.world_laws.proofs.KeyTypes.{typed_more}
use Rattle.world_laws.specs.Storable.{AreWithinLimits}
use Rattle.world_laws.proofs.Limits.{IsOf, IsTypeOf, each_own, each_own_type, within_fewer, within_passed}
use Rattle.world_laws.proofs.ListParts.{each_front, each_middle}
use Rattle.round_trip.proofs.ReadAgain.{world_again}
use Rattle.round_trip.proofs.Sayings.{bounds-first, row-said}

-- what is so of all that was read: bounds, events and types that rows can say, which were not refused
record IsRead (model : Model) (r : Reading) : Type 0 where
  pub bounds : IsTrue (are_bounds r.bounds)
  pub events : AllByRecursion (IsSayable r.bounds) r.accepted
  pub types : AllByRecursion IsSayableType r.types
  pub rise : Rises type_cmp r.types
  pub allowed : AllByRecursion (λ x. allows model x ≡ true) r.accepted
  pub typed : all_typed r.accepted ≡ true
  pub limits : AreWithinLimits r.accepted r.types

-- ---- refusals

not_passed : (o : Option Quantity) (why : RecordRefusal) → (if is_some o then Some why else None) ≡ None → o ≡ None
not_passed None why e = refl
not_passed (Some k) why e = cc e

type_kept : (accepted : List Event) (types : List (List ℕ × List ℕ)) (node name : List ℕ) → type_refusal accepted types node name ≡ None → AreWithinLimits accepted (types ++ (node, name) ∷ [])
type_kept accepted types node name e = by (is_other_type types node name) e
  where
    by : (b : Bool) → (if b then Some Retype else (if is_some (passed_limit accepted (types ++ (node, name) ∷ [])) then Some Limit else None)) ≡ None → AreWithinLimits accepted (types ++ (node, name) ∷ [])
    by true e = cc e
    by false e = within_passed accepted (types ++ (node, name) ∷ []) (not_passed (passed_limit accepted (types ++ (node, name) ∷ [])) Limit e)

event_kept : (model : Model) (accepted : List Event) (types : List (List ℕ × List ℕ)) (x : Event) → event_refusal model accepted types x ≡ None → (allows model x ≡ true) × (mistyped accepted x ≡ None) × AreWithinLimits (accepted ++ x ∷ []) types
event_kept model accepted types x e = by (allows model x) (mistyped accepted x) refl refl e
  where
    by : (b : Bool) (o : Option (List ℕ × Value)) → allows model x ≡ b → mistyped accepted x ≡ o
        → (if not b then Some Deletion else (if is_some o then Some KeyType else (if is_some (passed_limit (accepted ++ x ∷ []) types) then Some Limit else None))) ≡ None
        → (allows model x ≡ true) × (mistyped accepted x ≡ None) × AreWithinLimits (accepted ++ x ∷ []) types
    by false o is typed e = cc e
    by true (Some p) is typed e = cc e
    by true None is typed e = (is, typed, within_passed (accepted ++ x ∷ []) types (not_passed (passed_limit (accepted ++ x ∷ []) types) Limit e))

-- ---- one record more

each_put_type : (P : List ℕ × List ℕ → Type 0) (t : List ℕ × List ℕ) (ts : List (List ℕ × List ℕ)) → P t → AllByRecursion P ts → AllByRecursion P (put_type t ts)
each_put_type P t [] h k = (h, tt)
each_put_type P t (s ∷ ts) h k =
    cond_both (is_lt (type_cmp t s)) (t ∷ s ∷ ts) (cond (is_gt (type_cmp t s)) (s ∷ put_rising type_cmp t ts) (s ∷ ts)) (AllByRecursion P)
    (λ e. (h, k))
    (λ e. cond_both (is_gt (type_cmp t s)) (s ∷ put_rising type_cmp t ts) (s ∷ ts) (AllByRecursion P) (λ f. (k.0, each_put_type P t ts h k.1)) (λ f. k))

-- the types with one more
limits_put : (accepted : List Event) (t : List ℕ × List ℕ) (types : List (List ℕ × List ℕ)) → AreWithinLimits accepted (types ++ t ∷ []) → AreWithinLimits accepted (put_type t types)
limits_put accepted t types h =
    let all = each_own_type (types ++ t ∷ []) in
    within_fewer accepted (types ++ t ∷ []) accepted (put_type t types) h (omega arith) (each_own accepted)
    (each_put_type (IsTypeOf (types ++ t ∷ [])) t types (each_middle (IsTypeOf (types ++ t ∷ [])) types t [] all) (each_front (IsTypeOf (types ++ t ∷ [])) types (t ∷ []) all))

sayable_rise : (w : What) → IsSayableWhat w → KeysRise (what_props w)
sayable_rise (what.Node name props) h = h.1.0
sayable_rise (what.Add edge props) h = h.1.0
sayable_rise (what.Delete edge) h = tt

read_refused : (model : Model) (r : Reading) (number : ℕ) (why : RecordRefusal) → IsRead model r → IsRead model (with_record r number (Refused why))
read_refused model r number why h = record { bounds = h.bounds; events = h.events; types = h.types; rise = h.rise; allowed = h.allowed; typed = h.typed; limits = h.limits }

read_type : (model : Model) (r : Reading) (number : ℕ) (node name : List ℕ) → IsSayableType (node, name) → IsRead model r → IsRead model (with_record r number (unless (type_refusal r.accepted r.types node name) (GivesType node name)))
read_type model r number node name sayable h = by (type_refusal r.accepted r.types node name) refl
  where
    by : (o : Option RecordRefusal) → type_refusal r.accepted r.types node name ≡ o → IsRead model (with_record r number (unless o (GivesType node name)))
    by (Some why) e = read_refused model r number why h
    by None e = record {
      bounds = h.bounds;
      events = h.events;
      types = each_put_type IsSayableType (node, name) r.types sayable h.types;
      rise = Rises-put type_cmp type_total (node, name) r.types h.rise;
      allowed = h.allowed;
      typed = h.typed;
      limits = limits_put r.accepted (node, name) r.types (type_kept r.accepted r.types node name e);
    }

read_event : (model : Model) (r : Reading) (number : ℕ) (x : Event) → IsSayable r.bounds x → IsRead model r → IsRead model (with_record r number (unless (event_refusal model r.accepted r.types x) (Happens x)))
read_event model r number x sayable h = by (event_refusal model r.accepted r.types x) refl
  where
    by : (o : Option RecordRefusal) → event_refusal model r.accepted r.types x ≡ o → IsRead model (with_record r number (unless o (Happens x)))
    by (Some why) e = read_refused model r number why h
    by None e =
        let (allowed, typed, within) = event_kept model r.accepted r.types x e in
        record {
          bounds = h.bounds;
          events = each_append (IsSayable r.bounds) r.accepted (x ∷ []) h.events (sayable, tt);
          types = h.types;
          rise = h.rise;
          allowed = each_append (λ y. allows model y ≡ true) r.accepted (x ∷ []) h.allowed (allowed, tt);
          typed = typed_more r.accepted x h.typed (sayable_rise x.what sayable.3) typed;
          limits = within;
        }

-- bounds come before any event
read_span : (model : Model) (r : Reading) (number : ℕ) (i : Interval) → IsTrue (are_bounds i) → r.accepted ≡ [] → IsRead model r → IsRead model (record r { bounds = i })
read_span model r number i is none h = record {
  bounds = is;
  events = subst (AllByRecursion (IsSayable i)) (sym none) tt;
  types = h.types;
  rise = h.rise;
  allowed = h.allowed;
  typed = h.typed;
  limits = h.limits;
}

read_more : (model : Model) (r : Reading) (number : ℕ) (first : Bool) (fields : List (List ℕ)) → (first ≡ true → r.accepted ≡ []) → IsRead model r → IsRead model (with_record r number (judge model r first fields))
read_more model r number first fields begins h = by (row_of first r.bounds fields) refl
  where
    by : (o : Result Said RecordRefusal) → row_of first r.bounds fields ≡ o → IsRead model (with_record r number (judge_said model r o))
    by (Err why) e = read_refused model r number why h
    by (Ok (SaysBounds i)) e = read_span model r number i (row-said first r.bounds fields (SaysBounds i) e) (begins (bounds-first first r.bounds fields i e)) h
    by (Ok (SaysType node name)) e = read_type model r number node name (row-said first r.bounds fields (SaysType node name) e) h
    by (Ok (SaysEvent x)) e = read_event model r number x (row-said first r.bounds fields (SaysEvent x) e) h

-- ---- all records

read_all : (model : Model) (r : Reading) (number : ℕ) (rows : List (List (List ℕ))) → 1 ≤ number → ((number == 1) ≡ true → r.accepted ≡ []) → IsRead model r → IsRead model (read_on model r number rows)
read_all model r number [] some begins h = h
read_all model r number (fields ∷ more) some begins h =
    read_all model (with_record r number (judge model r (number == 1) fields)) (number + 1) more (omega arith) (λ e. absurd (later number some e)) (read_more model r number (number == 1) fields begins h)
  where
    later : (n : ℕ) → 1 ≤ n → ((n + 1) == 1) ≡ true → ⊥
    later n some e = let same = is_one (n + 1) e in omega arith
      where
        is_one : (m : ℕ) → (m == 1) ≡ true → m ≡ 1
        is_one m e = grind (arith, nat_tests)

no_more : (model : Model) → IsRead model nothing_read
no_more model = record { bounds = refl; events = tt; types = tt; rise = tt; allowed = tt; typed = refl; limits = few }
  where
    few : AreWithinLimits [] []
    few Events = omega arith
    few Nodes = omega arith
    few Layers = omega arith
    few NodeKeys = omega arith
    few EdgeKeys = omega arith
    few Types = omega arith

file_read : (model : Model) (bytes : List ℕ) → IsRead model (reading model bytes)
file_read model bytes = read_all model nothing_read 1 (records_of bytes) (omega arith) (λ e. refl) (no_more model)

-- ---- the world

bounds_rise : (i : Interval) → IsTrue (are_bounds i) → IsTrue (int_le i.lo i.hi)
bounds_rise i h = (and_parts (int_le i.lo i.hi) (int_le i.hi latest) (and_parts (int_le earliest i.lo) (int_le i.lo i.hi && int_le i.hi latest) h).1).0

world_read : (model : Model) (r : Reading) → IsRead model r → IsPrintable (world_of model r)
world_read model r h = record {
  storable = record {
    lawful = IsLawful-base model r.bounds r.types r.accepted (bounds_rise r.bounds h.bounds)
        (all_pass (λ x. is_inside r.bounds x.time) r.accepted (each_weaker (IsSayable r.bounds) (λ x. is_inside r.bounds x.time ≡ true) (λ x k. k.1) r.accepted h.events))
        (all_pass (allows model) r.accepted h.allowed)
        (each_weaker (IsSayable r.bounds) (λ x. KeysRise (props_of x)) (λ x k. sayable_rise x.what k.3) r.accepted h.events)
        h.typed h.rise;
    limits = let size = length_in_order event_cmp r.accepted in
        within_fewer r.accepted r.types (arrange r.accepted) (types_in (arrange r.accepted) r.types) h.limits (omega (arith, size)) (each_in_order event_cmp (IsOf r.accepted) r.accepted (each_own r.accepted))
        (each_kept (IsTypeOf r.types) (λ (t : List ℕ × List ℕ). names_node (arrange r.accepted) t.0) r.types (each_own_type r.types));
  };
  bounds = h.bounds;
  types = each_kept IsSayableType (λ (t : List ℕ × List ℕ). names_node (arrange r.accepted) t.0) r.types h.types;
  events = each_in_order event_cmp (IsSayable r.bounds) r.accepted h.events;
}

-- the base world of any file can be printed
pub file_printable : (model : Model) (bytes : List ℕ) → IsPrintable (base_world model bytes)
file_printable model bytes = world_read model (reading model bytes) (file_read model bytes)

-- so can a world that is the base world of its own text, and no other is
pub exactly_printable : (w : World) → (base_world w.model (world_text w) ≡ w) ↔ IsPrintable w
exactly_printable w = (λ e. subst IsPrintable e (file_printable w.model (world_text w)), λ h. world_again w h)

-- in such a world no key has a `:`
colons_none : (w : World) → IsPrintable w → AllByRecursion (λ x. AllByRecursion (λ (p : List ℕ × Value). has_no_colon p.0 ≡ true) (props_of x)) w.events
colons_none w h = each_weaker (IsSayable w.bounds) (λ x. AllByRecursion (λ (p : List ℕ × Value). has_no_colon p.0 ≡ true) (props_of x)) (λ x k. each_weaker IsSayableProp (λ (p : List ℕ × Value). has_no_colon p.0 ≡ true) (λ p m. m.1) (props_of x) (sayable_props x.what k.3)) w.events h.events
  where
    sayable_props : (v : What) → IsSayableWhat v → AllByRecursion IsSayableProp (what_props v)
    sayable_props (what.Node name props) k = k.1.2
    sayable_props (what.Add edge props) k = k.1.2
    sayable_props (what.Delete edge) k = tt

pub plain_keys : (w : World) (x : Event) (p : List ℕ × Value) → base_world w.model (world_text w) ≡ w → Contains w.events x → Contains (props_of x) p → IsTrue (has_no_colon p.0)
plain_keys w x p e in_world in_event =
    each_contained (λ (q : List ℕ × Value). has_no_colon q.0 ≡ true) (props_of x) p
    (each_contained (λ y. AllByRecursion (λ (q : List ℕ × Value). has_no_colon q.0 ≡ true) (props_of y)) w.events x (colons_none w ((exactly_printable w).0 e)) in_world) in_event
