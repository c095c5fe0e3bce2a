-- Fields by their places.
use Rattle.std.proofs.Common.{◌≡◌, ◌<◌, ◌+◌, ◌∷◌, ◌++◌, map, append_assoc, ℕ, zero, suc, true, false, List, [], length, drop, Option, Some, refl, sym, ◌∙◌, arith, inl, inr}
use Rattle.std.specs.Prelude.{slice_get}
use Rattle.std.specs.Str.{IsUtf8, is_utf8}
use Rattle.std.proofs.lemmas.Bool.{and_parts, cases_Bool}
use Rattle.std.proofs.lemmas.Str.{IsUtf8-from_is_utf8, IsUtf8-nil}
use Rattle.csv.specs.Records.{field_at}
use Rattle.graph_model.specs.Record.{prop_text}
use Rattle.graph_model.specs.declared.properties.Value.{Value}
use Rattle.event_rows.specs.declared.parsed.RowRefusal.{RowRefusal}
use Rattle.event_rows.specs.declared.parsed.RowRefusal.TheVariants as refused
use Rattle.graph_model.specs.Said.{are_texts, field_of}
use Rattle.event_rows.specs.Gathering.{with_properties, on_some, put_field}
use Rattle.event_rows.specs.Parsing.{Lacks}

-- each field of a text is text
pub text-field : (fields : List (List ℕ)) (i : ℕ) → are_texts fields ≡ true → IsUtf8 (field_of fields i)
unfolding field_at
text-field [] i all = IsUtf8-nil
text-field (field ∷ fields) zero all = IsUtf8-from_is_utf8 field (and_parts (is_utf8 field) (are_texts fields) all).0
text-field (field ∷ fields) (suc i) all = text-field fields i (and_parts (is_utf8 field) (are_texts fields) all).1

-- the fields from a place on, the first apart
pub drop-field : (fields : List (List ℕ)) (i : ℕ) → i < length fields → drop i fields ≡ field_of fields i ∷ drop (i + 1) fields
unfolding field_at
drop-field [] i within = absurd (omega arith)
drop-field (field ∷ fields) zero within = refl
drop-field (field ∷ fields) (suc i) within =
    let next : suc i + 1 ≡ suc (i + 1) = omega arith in
    rw next (drop-field fields i (omega arith))

pub not-text : (bytes : List ℕ) → (IsUtf8 bytes → ⊥) → is_utf8 bytes ≡ false
not-text bytes refused = elim (cases_Bool (is_utf8 bytes)) [ inl text ↦ absurd (refused (IsUtf8-from_is_utf8 bytes text)) | inr other ↦ other ]

-- the texts from a place on
pub texts-step : (fields : List (List ℕ)) (i : ℕ) → i < length fields → is_utf8 (field_of fields i) ≡ true → are_texts (drop i fields) ≡ are_texts (drop (i + 1) fields)
texts-step fields i within text = rw (drop-field fields i within, text) refl

pub texts-stop : (fields : List (List ℕ)) (i : ℕ) → i < length fields → is_utf8 (field_of fields i) ≡ false → are_texts (drop i fields) ≡ false
texts-stop fields i within other = rw (drop-field fields i within, other) refl

-- the properties from a place on
pub with_properties-step : (props : List (List ℕ × Value)) (fields : List (List ℕ)) (i : ℕ) → i < length fields
    → with_properties props (drop i fields) ≡ on_some (put_field props (field_of fields i)) (λ more. with_properties more (drop (i + 1) fields))
with_properties-step props fields i within = rw (drop-field fields i within) refl

-- what refuses one property refuses them all
pub lacks-all : {A B : Type 0} (e : RowRefusal) (one : Option A) (more : A → Option B) (all : Option B) → on_some one more ≡ all → Lacks e one → Lacks e all
lacks-all refused.Memory one more all is lacks = tt
lacks-all refused.Shape one more all is lacks = lacks
lacks-all refused.Text one more all is lacks = lacks
lacks-all refused.Time one more all is lacks = lacks
lacks-all refused.Outside one more all is lacks = lacks
lacks-all refused.Name one more all is lacks = lacks
lacks-all refused.Property one more all is lacks = sym is ∙ rw lacks refl

-- a property at a place, and those behind it
pub drop-prop : (props : List (List ℕ × Value)) (i : ℕ) (key : List ℕ) (value : Value) → slice_get (map (λ (p : List ℕ × Value). p.0) props) i ≡ Some key
    → slice_get (map (λ (p : List ℕ × Value). p.1) props) i ≡ Some value → drop i props ≡ (key, value) ∷ drop (i + 1) props
drop-prop [] i key value k v = cc k
drop-prop (p ∷ props) zero key value k v =
    let same_key : p.0 ≡ key = cc k in
    let same_value : p.1 ≡ value = cc v in
    λ t. (same_key t, same_value t) ∷ props
drop-prop (p ∷ props) (suc i) key value k v =
    let next : suc i + 1 ≡ suc (i + 1) = omega arith in
    rw next (drop-prop props i key value k v)

-- one more property's field
pub fields-more : (row new all : List (List ℕ)) (props : List (List ℕ × Value)) (i : ℕ) (p : List ℕ × Value) → drop i props ≡ p ∷ drop (i + 1) props
    → new ≡ row ++ prop_text p ∷ [] → row ++ map prop_text (drop i props) ≡ all → new ++ map prop_text (drop (i + 1) props) ≡ all
fields-more row new all props i p next is before = rw is (append_assoc row (prop_text p ∷ []) (map prop_text (drop (i + 1) props)) ∙ (rw next at before))
