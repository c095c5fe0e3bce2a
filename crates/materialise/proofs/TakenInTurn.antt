-- The events and types of a lawful world within the limits, taken one after another, are not refused.
use Rattle.std.proofs.Common.{◌≡◌, ℕ, ◌+◌, ◌<◌, true, List, [], ◌∷◌, ◌++◌, length, take, drop, get_or, None, refl, sym, ◌∙◌, ap, subst, append-nil, append_assoc}
use Rattle.std.specs.List.{list_all, AllByRecursion}
use Rattle.std.proofs.lemmas.List.{take_more, take-append-drop}
use Rattle.graph_model.specs.declared.events.Event.{Event}
use Rattle.graph_model.specs.Accepting.{event_refusal, type_refusal}
use Rattle.graph_model.specs.Rising.{Rises}
use Rattle.graph_model.specs.World.{World, allows, put_type, type_cmp, types_agree}
use Rattle.world_laws.specs.Storable.{AreWithinLimits, IsStorable}
use Rattle.world_laws.proofs.Lawful.{each_passes}
use Rattle.world_laws.proofs.Limits.{within_front}
use Rattle.world_laws.proofs.ListParts.{each_front, each_middle}
use Rattle.world_laws.proofs.Unrefused.{behind, event_taken, put_last, type_taken}

-- a list in two, before and behind an item
split_at : {X : Type 0} (xs : List X) (i : ℕ) (x : X) → i < length xs → x ≡ get_or xs i x → xs ≡ take i xs ++ x ∷ drop (i + 1) xs
split_at xs i x lt is =
    sym (take-append-drop (i + 1) xs)
    ∙ (ap (λ ys. ys ++ drop (i + 1) xs) (take_more xs i x lt ∙ ap (λ z. take i xs ++ z ∷ []) (sym is))
    ∙ append_assoc (take i xs) (x ∷ []) (drop (i + 1) xs))

-- each event, behind those before it
pub each_event_taken : (w : World) (i : ℕ) (x : Event) → IsStorable w → i < length w.events → x ≡ get_or w.events i x
    → event_refusal w.model (take i w.events) [] x ≡ None
each_event_taken w i x h lt is =
    let front = take i w.events in
    let back = drop (i + 1) w.events in
    let whole = split_at w.events i x lt is in
    let allowed = each_middle (λ y. allows w.model y ≡ true) front x back
    (subst (AllByRecursion (λ y. allows w.model y ≡ true)) whole (each_passes (allows w.model) w.events h.lawful.allowed)) in
    let agree : list_all (types_agree x) w.events ≡ true = each_middle (λ y. list_all (types_agree y) w.events ≡ true) front x back
    (subst (AllByRecursion (λ y. list_all (types_agree y) w.events ≡ true)) whole
    (each_passes (λ y. list_all (types_agree y) w.events) w.events h.lawful.typed)) in
    let before = each_front (λ y. types_agree x y ≡ true) front (x ∷ back)
    (subst (AllByRecursion (λ y. types_agree x y ≡ true)) whole (each_passes (types_agree x) w.events agree)) in
    let within = within_front (front ++ x ∷ []) back [] w.types
    (subst (λ ys. AreWithinLimits ys w.types) (whole ∙ sym (append_assoc front (x ∷ []) back)) h.limits) in
    event_taken w.model [] front x allowed before within

-- each type, behind those before it
pub each_type_taken : (w : World) (i : ℕ) (t : List ℕ × List ℕ) → IsStorable w → i < length w.types → t ≡ get_or w.types i t
    → type_refusal w.events (take i w.types) t.0 t.1 ≡ None
each_type_taken w i t h lt is =
    let front = take i w.types in
    let back = drop (i + 1) w.types in
    let whole = split_at w.types i t lt is in
    let less = behind front t back (subst (Rises type_cmp) whole h.lawful.types_rise) in
    let within = within_front w.events [] (front ++ t ∷ []) back
    (subst (λ ys. AreWithinLimits ys ((front ++ t ∷ []) ++ back)) (sym (append-nil w.events))
    (subst (AreWithinLimits w.events) (whole ∙ sym (append_assoc front (t ∷ []) back)) h.limits)) in
    type_taken w.events front t less within

-- it is put last
pub type_put : (ts : List (List ℕ × List ℕ)) (i : ℕ) (t : List ℕ × List ℕ) → Rises type_cmp ts → i < length ts → t ≡ get_or ts i t
    → put_type t (take i ts) ≡ take (i + 1) ts
type_put ts i t rise lt is =
    put_last t (take i ts) (behind (take i ts) t (drop (i + 1) ts) (subst (Rises type_cmp) (split_at ts i t lt is) rise))
    ∙ sym (take_more ts i t lt ∙ ap (λ z. take i ts ++ z ∷ []) (sym is))

-- the same world with no types
pub with_no_types : (w : World) → IsStorable w → IsStorable (record w { types = [] })
with_no_types w h = record {
  lawful = record {
    bounds = h.lawful.bounds;
    arranged = h.lawful.arranged;
    inside = h.lawful.inside;
    allowed = h.lawful.allowed;
    rising = h.lawful.rising;
    typed = h.lawful.typed;
    types_rise = tt;
    types_named = refl;
  };
  limits = within_front w.events [] [] w.types (subst (λ ys. AreWithinLimits ys w.types) (sym (append-nil w.events)) h.limits);
}
