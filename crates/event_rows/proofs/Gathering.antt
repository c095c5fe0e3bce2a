-- Properties that are gathered one field after another are those that all the fields are, in order.
use Rattle.std.proofs.Common.{◌≡◌, ◌∙◌, ◌≤◌, ◌+◌, ◌&&◌, ◌||◌, ◌∷◌, ◌++◌, ℕ, Bool, true, false, not, List, [], Option, Some, None, length, refl, sym, arith, nat_le, append_assoc}
use Rattle.std.specs.Prelude.{if◌then◌else◌, is_some}
use Rattle.std.specs.Cmp.{IsTotalOrder}
use Rattle.std.specs.List.{filter_map, list_all}
use Rattle.std.specs.Ordering.{is_gt}
use Rattle.std.proofs.lemmas.Bool.{and_parts, or_parts}
use Rattle.std.proofs.lemmas.Bool.Decides.{nat_tests}
use Rattle.std.proofs.lemmas.List.{append-nil, length-append}
use Rattle.graph_model.specs.Names.{name_equiv, name_total, same_name}
use Rattle.graph_model.specs.PropertyField.{property_of}
use Rattle.graph_model.specs.Props.{has_key, key_cmp, keys_differ, put_prop}
use Rattle.graph_model.specs.Rising.{in_order, put_after, put_in_order}
use Rattle.graph_model.specs.Said.{properties_in}
use Rattle.graph_model.specs.declared.properties.Value.{Value}
use Rattle.world_laws.proofs.Arrivals.{in_order-push}
use Rattle.world_laws.proofs.Counts.{length_in_order}
use Rattle.event_rows.specs.Gathering.{with_properties}

key_total : IsTotalOrder key_cmp
key_total = record { antisymm = λ p q. name_total.antisymm p.0 q.0; trans = λ p q r. name_total.trans p.0 q.0 r.0; congr = λ p q r. name_total.congr p.0 q.0 r.0 }

-- a property goes after each that is not greater
put_prop-after : (p : List ℕ × Value) (qs : List (List ℕ × Value)) → put_prop p qs ≡ put_after key_cmp p qs
put_prop-after p [] = refl
put_prop-after p (q ∷ qs) = rw (put_prop-after p qs) refl

in_order-more : (p : List ℕ × Value) (qs : List (List ℕ × Value)) → put_prop p (in_order key_cmp qs) ≡ in_order key_cmp (qs ++ p ∷ [])
in_order-more p qs = put_prop-after p (in_order key_cmp qs) ∙ sym (in_order-push key_cmp key_total p qs)

or_swap : (a b c : Bool) → (a || (b || c)) ≡ (b || (a || c))
or_swap true true c = refl
or_swap true false c = refl
or_swap false b c = refl

or_join : (a b c : Bool) → (a || (b || c)) ≡ ((a || b) || c)
or_join true b c = refl
or_join false b c = refl

and_none : (a : Bool) → (a && false) ≡ false
and_none true = refl
and_none false = refl

-- properties in order have the same keys
has_key-put : (key : List ℕ) (p : List ℕ × Value) (qs : List (List ℕ × Value)) → has_key key (put_in_order key_cmp p qs) ≡ (same_name key p.0 || has_key key qs)
has_key-put key p [] = refl
has_key-put key p (q ∷ qs) = by (is_gt (key_cmp p q)) (has_key-put key p qs)
  where
    by : (t : Bool) → has_key key (put_in_order key_cmp p qs) ≡ (same_name key p.0 || has_key key qs) → has_key key (if t then (q ∷ put_in_order key_cmp p qs) else (p ∷ q ∷ qs)) ≡ (same_name key p.0 || has_key key (q ∷ qs))
    by true more = rw more (or_swap (same_name key q.0) (same_name key p.0) (has_key key qs))
    by false more = refl

has_key-in_order : (key : List ℕ) (qs : List (List ℕ × Value)) → has_key key (in_order key_cmp qs) ≡ has_key key qs
has_key-in_order key [] = refl
has_key-in_order key (q ∷ qs) = has_key-put key q (in_order key_cmp qs) ∙ rw (has_key-in_order key qs) refl

has_key-append : (key : List ℕ) (ps qs : List (List ℕ × Value)) → has_key key (ps ++ qs) ≡ (has_key key ps || has_key key qs)
has_key-append key [] qs = refl
has_key-append key (p ∷ ps) qs = rw (has_key-append key ps qs) (or_join (same_name key p.0) (has_key key ps) (has_key key qs))

-- a key that stands twice
keys_differ-repeated : (p : List ℕ × Value) (qs rest : List (List ℕ × Value)) → has_key p.0 qs ≡ true → keys_differ (qs ++ p ∷ rest) ≡ false
keys_differ-repeated p [] rest has = cc has
keys_differ-repeated p (q ∷ qs) rest has = by (same_name p.0 q.0) refl has (keys_differ-repeated p qs rest)
  where
    by : (t : Bool) → same_name p.0 q.0 ≡ t → (t || has_key p.0 qs) ≡ true → (has_key p.0 qs ≡ true → keys_differ (qs ++ p ∷ rest) ≡ false) → keys_differ (q ∷ (qs ++ p ∷ rest)) ≡ false
    by true is h more =
        let back : same_name q.0 p.0 ≡ true = name_equiv.symm q.0 p.0 ∙ is in
        rw (has_key-append q.0 qs (p ∷ rest), back, or_all (has_key q.0 qs)) refl
      where
        or_all : (a : Bool) → (a || true) ≡ true
        or_all true = refl
        or_all false = refl
    by false is h more = rw (more h) (and_none (not (has_key q.0 (qs ++ p ∷ rest))))

-- one more key
keys_differ-more : (p : List ℕ × Value) (qs : List (List ℕ × Value)) → has_key p.0 qs ≡ false → keys_differ qs ≡ true → keys_differ (qs ++ p ∷ []) ≡ true
keys_differ-more p [] has differ = refl
keys_differ-more p (q ∷ qs) has differ =
    let (other, others) = or_parts (same_name p.0 q.0) (has_key p.0 qs) has in
    let (first, more) = and_parts (not (has_key q.0 qs)) (keys_differ qs) differ in
    let none : has_key q.0 qs ≡ false = turned (has_key q.0 qs) first in
    let back : same_name q.0 p.0 ≡ false = name_equiv.symm q.0 p.0 ∙ other in
    rw (has_key-append q.0 qs (p ∷ []), none, back, keys_differ-more p qs others more) refl
  where
    turned : (a : Bool) → not a ≡ true → a ≡ false
    turned true is = cc is
    turned false is = refl

-- fields behind earlier properties are properties
fits : List (List ℕ × Value) → List (List ℕ) → Bool
fits qs fields = nat_le (length qs + length fields) 256 && (list_all (λ field. is_some (property_of field)) fields && keys_differ (qs ++ filter_map property_of fields))

chosen : List (List ℕ × Value) → List (List ℕ) → Option (List (List ℕ × Value))
chosen qs fields = if fits qs fields then Some (in_order key_cmp (qs ++ filter_map property_of fields)) else None

-- no property
step-none : (qs : List (List ℕ × Value)) (field : List ℕ) (fields : List (List ℕ)) → property_of field ≡ None → with_properties (in_order key_cmp qs) (field ∷ fields) ≡ chosen qs (field ∷ fields)
unfolding fits chosen
step-none qs field fields is = rw (is, and_none (nat_le (length qs + length (field ∷ fields)) 256)) refl

-- a key that is there
step-repeated : (qs : List (List ℕ × Value)) (field : List ℕ) (fields : List (List ℕ)) (p : List ℕ × Value) → property_of field ≡ Some p → has_key p.0 qs ≡ true
    → with_properties (in_order key_cmp qs) (field ∷ fields) ≡ chosen qs (field ∷ fields)
unfolding fits chosen
step-repeated qs field fields p is has =
    rw (is, has_key-in_order p.0 qs, has, keys_differ-repeated p qs (filter_map property_of fields) has, and_none (list_all (λ field. is_some (property_of field)) fields), and_none (nat_le (length qs + length (field ∷ fields)) 256)) refl

-- no room
step-full : (qs : List (List ℕ × Value)) (field : List ℕ) (fields : List (List ℕ)) (p : List ℕ × Value) → property_of field ≡ Some p → has_key p.0 qs ≡ false → nat_le 256 (length qs) ≡ true
    → with_properties (in_order key_cmp qs) (field ∷ fields) ≡ chosen qs (field ∷ fields)
unfolding fits chosen
step-full qs field fields p is has full =
    let many : nat_le (length qs + length (field ∷ fields)) 256 ≡ false = grind (arith, nat_tests) in
    rw (is, has_key-in_order p.0 qs, has, length_in_order key_cmp qs, full, many) refl

-- one property more
step-more : (qs : List (List ℕ × Value)) (field : List ℕ) (fields : List (List ℕ)) (p : List ℕ × Value) → property_of field ≡ Some p → has_key p.0 qs ≡ false → nat_le 256 (length qs) ≡ false
    → with_properties (in_order key_cmp (qs ++ p ∷ [])) fields ≡ chosen (qs ++ p ∷ []) fields → with_properties (in_order key_cmp qs) (field ∷ fields) ≡ chosen qs (field ∷ fields)
unfolding fits chosen
step-more qs field fields p is has room more =
    let one = length-append qs (p ∷ []) in
    let size : length (qs ++ p ∷ []) + length fields ≡ length qs + length (field ∷ fields) = omega arith in
    let same = append_assoc qs (p ∷ []) (filter_map property_of fields) in
    rw (is, has_key-in_order p.0 qs, has, length_in_order key_cmp qs, room, in_order-more p qs) (rw (size, same) at more)

with_properties-chosen : (fields : List (List ℕ)) (qs : List (List ℕ × Value)) → length qs ≤ 256 → keys_differ qs ≡ true → with_properties (in_order key_cmp qs) fields ≡ chosen qs fields
unfolding fits chosen
with_properties-chosen [] qs few differ =
    let fit : nat_le (length qs + 0) 256 ≡ true = grind (arith, nat_tests) in
    rw (append-nil qs, fit, differ) refl
with_properties-chosen (field ∷ fields) qs few differ = by (property_of field) refl (with_properties-chosen fields)
  where
    by : (o : Option (List ℕ × Value)) → property_of field ≡ o
        → ((ps : List (List ℕ × Value)) → length ps ≤ 256 → keys_differ ps ≡ true → with_properties (in_order key_cmp ps) fields ≡ chosen ps fields)
        → with_properties (in_order key_cmp qs) (field ∷ fields) ≡ chosen qs (field ∷ fields)
    by None is more = step-none qs field fields is
    by (Some p) is more = known (has_key p.0 qs) refl (nat_le 256 (length qs)) refl
      where
        known : (t : Bool) → has_key p.0 qs ≡ t → (u : Bool) → nat_le 256 (length qs) ≡ u → with_properties (in_order key_cmp qs) (field ∷ fields) ≡ chosen qs (field ∷ fields)
        known true has u full = step-repeated qs field fields p is has
        known false has true full = step-full qs field fields p is has full
        known false has false room =
            let one = length-append qs (p ∷ []) in
            let under : length (qs ++ p ∷ []) ≤ 256 = grind (arith, nat_tests) in
            step-more qs field fields p is has room (more (qs ++ p ∷ []) under (keys_differ-more p qs has differ))

-- what is gathered from the first field on
pub with_properties-properties_in : (fields : List (List ℕ)) → with_properties [] fields ≡ properties_in fields
unfolding fits chosen
with_properties-properties_in fields =
    let all = with_properties-chosen fields [] (omega arith) refl in
    let size : 0 + length fields ≡ length fields = omega arith in
    rw size at all
