-- What is not refused behind other events and types: an event that agrees with them, and a type behind lesser ones, within the limits.
use Rattle.std.proofs.Common.{◌≡◌, ℕ, true, false, List, [], ◌∷◌, ◌++◌, cond, None, refl, ◌∙◌, ap}
use Rattle.std.specs.Prelude.{IsTrue, option_map}
use Rattle.std.specs.List.{AllByRecursion}
use Rattle.std.specs.declared.cmp.Ordering.TheVariants.{Less, Greater}
use Rattle.std.specs.Ordering.{is_eq, is_gt, is_lt, ordering_reverse}
use Rattle.graph_model.specs.declared.events.Event.{Event}
use Rattle.graph_model.specs.declared.events.Model.{Model}
use Rattle.graph_model.specs.Accepting.{event_refusal, type_refusal}
use Rattle.graph_model.specs.Names.{name_total, same_name}
use Rattle.graph_model.specs.Rising.{Rises, put_rising}
use Rattle.graph_model.specs.World.{allows, put_type, type_cmp, type_of, types_agree}
use Rattle.world_laws.specs.Storable.{AreWithinLimits}
use Rattle.world_laws.proofs.Filters.{each_weaker}
use Rattle.world_laws.proofs.KeyTypes.{mistyped_none}
use Rattle.world_laws.proofs.Limits.{passed_none}
use Rattle.world_laws.proofs.ListParts.{each_middle, found_none}

-- of types that rise each is behind those before it
pub behind : (front : List (List ℕ × List ℕ)) (t : List ℕ × List ℕ) (back : List (List ℕ × List ℕ))
    → Rises type_cmp (front ++ t ∷ back) → AllByRecursion (λ s. type_cmp s t ≡ Less) front
behind [] t back rise = tt
behind (s ∷ front) t back rise =
    (each_middle (λ u. type_cmp s u ≡ Less) front t back rise.0, behind front t back rise.1)

-- a type behind lesser ones is put last
pub put_last : (t : List ℕ × List ℕ) (ts : List (List ℕ × List ℕ)) → AllByRecursion (λ s. type_cmp s t ≡ Less) ts
    → put_type t ts ≡ ts ++ t ∷ []
put_last t [] h = refl
put_last t (s ∷ ts) h =
    let back : type_cmp t s ≡ Greater = name_total.antisymm t.0 s.0 ∙ ap ordering_reverse h.0 in
    ap (λ o. cond (is_lt o) (t ∷ s ∷ ts) (cond (is_gt o) (s ∷ put_rising type_cmp t ts) (s ∷ ts))) back
    ∙ ap (λ us. s ∷ us) (put_last t ts h.1)

-- its node has no type yet
no_type : (t : List ℕ × List ℕ) (ts : List (List ℕ × List ℕ)) → AllByRecursion (λ s. type_cmp s t ≡ Less) ts
    → type_of ts t.0 ≡ None
no_type t ts h =
    ap (option_map (λ (u : List ℕ × List ℕ). u.1)) (found_none (λ (u : List ℕ × List ℕ). same_name t.0 u.0) ts
    (each_weaker (λ s. type_cmp s t ≡ Less) (λ (s : List ℕ × List ℕ). same_name t.0 s.0 ≡ false)
    (λ s k. ap is_eq (name_total.antisymm t.0 s.0 ∙ ap ordering_reverse k)) ts h))

-- and it is not refused
pub type_taken : (xs : List Event) (front : List (List ℕ × List ℕ)) (t : List ℕ × List ℕ)
    → AllByRecursion (λ s. type_cmp s t ≡ Less) front → AreWithinLimits xs (front ++ t ∷ []) → type_refusal xs front t.0 t.1 ≡ None
type_taken xs front t less within = rw (no_type t front less, passed_none xs (front ++ t ∷ []) within) refl

-- an event that may happen, and agrees with those before it, is not refused
pub event_taken : (model : Model) (types : List (List ℕ × List ℕ)) (front : List Event) (x : Event) → IsTrue (allows model x)
    → AllByRecursion (λ y. types_agree x y ≡ true) front → AreWithinLimits (front ++ x ∷ []) types
    → event_refusal model front types x ≡ None
event_taken model types front x allowed agree within =
    rw (allowed, mistyped_none x front agree, passed_none (front ++ x ∷ []) types within) refl
