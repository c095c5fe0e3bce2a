-- Properties that rise by key are gathered one behind another.
use Rattle.std.proofs.Common.{◌≡◌, ◌∙◌, ◌≤◌, ◌∷◌, ◌++◌, ℕ, false, List, [], Some, map, length, refl, sym, ap, arith, nat_le, append_assoc, subst}
use Rattle.std.specs.List.{AllByRecursion}
use Rattle.std.specs.Ordering.{ordering_reverse}
use Rattle.std.specs.declared.cmp.Ordering.{Ordering}
use Rattle.std.specs.declared.cmp.Ordering.TheVariants.{Less, Greater}
use Rattle.std.proofs.lemmas.Bool.Decides.{nat_tests}
use Rattle.std.proofs.lemmas.List.{append-nil, length-append}
use Rattle.graph_model.specs.Names.{name_cmp, name_total}
use Rattle.graph_model.specs.Props.{KeysRise, has_key, put_prop}
use Rattle.graph_model.specs.Record.{prop_text}
use Rattle.graph_model.specs.Said.{properties_in}
use Rattle.graph_model.specs.declared.properties.Value.{Value}
use Rattle.property_values.proofs.Fields.{property_of-prop_text}
use Rattle.event_rows.specs.Gathering.{with_properties, put_field}
use Rattle.event_rows.specs.Sayable.{AreSayableProps, IsSayableProp}
use Rattle.event_rows.proofs.Gathering.{with_properties-properties_in}

-- a property behind lesser keys
Behind : List ℕ → List (List ℕ × Value) → Type 0
Behind key props = AllByRecursion (λ (q : List ℕ × Value). name_cmp q.0 key ≡ Less) props

greater : (o : Ordering) (a b : List ℕ) → name_cmp b a ≡ ordering_reverse (name_cmp a b) → name_cmp a b ≡ Less → name_cmp b a ≡ Greater
greater o a b e h = rw h at e

put-last : (p : List ℕ × Value) (props : List (List ℕ × Value)) → Behind p.0 props → (has_key p.0 props ≡ false) × (put_prop p props ≡ props ++ p ∷ [])
unfolding Behind
put-last p [] behind = (refl, refl)
put-last p (q ∷ props) behind =
    let above = greater Less q.0 p.0 (name_total.antisymm p.0 q.0) behind.0 in
    let (none, put) = put-last p props behind.1 in
    (rw (above, none) refl, rw (above, put) refl)

-- keys that rise are behind those before them
rising-behind : (front : List (List ℕ × Value)) (p : List ℕ × Value) (rest : List (List ℕ × Value)) → KeysRise (front ++ p ∷ rest) → Behind p.0 front
unfolding Behind
rising-behind [] p rest rise = tt
rising-behind (q ∷ front) p rest rise = (first front rise.0, rising-behind front p rest rise.1)
  where
    first : (front : List (List ℕ × Value)) → AllByRecursion (λ (r : List ℕ × Value). name_cmp q.0 r.0 ≡ Less) (front ++ p ∷ rest) → name_cmp q.0 p.0 ≡ Less
    first [] each = each.0
    first (r ∷ front) each = first front each.1

-- properties that rise are put one behind another
with_properties-text : (front props : List (List ℕ × Value)) → KeysRise (front ++ props) → length (front ++ props) ≤ 256 → AllByRecursion IsSayableProp props
    → with_properties front (map prop_text props) ≡ Some (front ++ props)
with_properties-text front [] rise few each = rw (append-nil front) refl
with_properties-text front (p ∷ props) rise few each =
    let (none, put) = put-last p front (rising-behind front p props rise) in
    let size = length-append front (p ∷ props) in
    let room : nat_le 256 (length front) ≡ false = grind (arith, nat_tests) in
    let one : put_field front (prop_text p) ≡ Some (front ++ p ∷ []) = rw (property_of-prop_text p.0 p.1 each.0.0 each.0.1 each.0.2, none, room, put) refl in
    let same = append_assoc front (p ∷ []) props in
    let more = with_properties-text (front ++ p ∷ []) props (subst KeysRise (sym same) rise) (rw same few) each.1 in
    rw one (more ∙ ap (λ (all : List (List ℕ × Value)). Some all) same)

-- the fields of properties that rise are these properties
pub properties_in-text : (props : List (List ℕ × Value)) → AreSayableProps props → properties_in (map prop_text props) ≡ Some props
properties_in-text props all = sym (with_properties-properties_in (map prop_text props)) ∙ with_properties-text [] props all.0 all.1 all.2
