-- The live events of two lists, one after the other, and what a second window carries.
use Rattle.std.proofs.Common.{◌≡◌, ℕ, ℤ, Bool, true, false, ◌||◌, List, [], ◌∷◌, ◌++◌, cond, refl, sym, ◌∙◌, ap, subst, inl, inr}
use Rattle.std.specs.List.{list_any, fold, AllByRecursion}
use Rattle.std.proofs.lemmas.Bool.{cases_Bool, cond-true, cond-false}
use Rattle.std.proofs.lemmas.List.Folds.{list_any-append}
use Rattle.std.proofs.lemmas.List.Sums.{fold-append}
use Rattle.graph_model.specs.declared.properties.Value.{Value}
use Rattle.graph_model.specs.declared.events.Entity.{Entity}
use Rattle.graph_model.specs.declared.events.Event.{Event}
use Rattle.graph_model.specs.Props.{overwrite}
use Rattle.graph_model.specs.Entity.{entity_of, is_deletion, update_of, props_of}
use Rattle.graph_model.specs.Compare.{live_events}
use Rattle.graph_model.specs.Window.{carried_events, last_props}
use Rattle.world_laws.specs.CarriedEvent.{carried_event}
use Rattle.world_laws.proofs.Carried.{each_live, subject-update_of, props-update_of, deletes-update_of}

-- with no deletion all events are live
pub live_all : (xs : List Event) → list_any is_deletion xs ≡ false → live_events xs ≡ xs
live_all [] h = refl
live_all (x ∷ xs) h = cond-false (list_any is_deletion (x ∷ xs)) _ _ h

-- a deletion among the later events leaves only later ones
live_append_cases : (x : Event) (xs ys : List Event) (d a t : Bool) → live_events (xs ++ ys) ≡ cond t (live_events ys) (live_events xs ++ ys)
    → cond (d || (a || t)) (live_events (xs ++ ys)) (x ∷ (xs ++ ys)) ≡ cond t (live_events ys) (cond (d || a) (live_events xs) (x ∷ xs) ++ ys)
live_append_cases x xs ys true a true h = h
live_append_cases x xs ys true a false h = h
live_append_cases x xs ys false true true h = h
live_append_cases x xs ys false true false h = h
live_append_cases x xs ys false false true h = h
live_append_cases x xs ys false false false h = refl

pub live_events-append : (xs ys : List Event) → live_events (xs ++ ys) ≡ cond (list_any is_deletion ys) (live_events ys) (live_events xs ++ ys)
live_events-append [] ys = elim (cases_Bool (list_any is_deletion ys)) [
  | inl e ↦ sym (cond-true (list_any is_deletion ys) _ _ e)
  | inr e ↦ live_all ys e ∙ sym (cond-false (list_any is_deletion ys) _ _ e)
]
live_events-append (x ∷ xs) ys =
    ap (λ t. cond (is_deletion x || t) (live_events (xs ++ ys)) (x ∷ (xs ++ ys))) (list_any-append is_deletion xs ys)
    ∙ live_append_cases x xs ys (is_deletion x) (list_any is_deletion xs) (list_any is_deletion ys) (live_events-append xs ys)

-- what is carried is live
pub live_events-carried_events : (lo : ℤ) (xs : List Event) → live_events (carried_events lo xs) ≡ carried_events lo xs
live_events-carried_events lo [] = refl
live_events-carried_events lo (x ∷ xs) = live_all (carried_events lo (x ∷ xs)) (ap (λ t. t || false) (deletes-update_of (entity_of x) (last_props (x ∷ xs))))

-- the event that stands for live events may take their place
carried_in_place : (lo hi : ℤ) (xs ys : List Event) → carried_events hi (carried_events lo xs ++ ys) ≡ carried_events hi (xs ++ ys)
carried_in_place lo hi [] ys = refl
carried_in_place lo hi (x ∷ xs) ys =
    let f : List (List ℕ × Value) → Event → List (List ℕ × Value) = λ old z. overwrite old (props_of z) in
    let first : Event = record { time = lo; order = 0; what = update_of (entity_of x) (last_props (x ∷ xs)) } in
    let same : last_props (first ∷ ys) ≡ last_props (x ∷ (xs ++ ys)) = ap (λ ps. fold f ps ys) (props-update_of (entity_of x) (last_props (x ∷ xs))) ∙ sym (fold-append f [] (x ∷ xs) ys) in
    let own = subject-update_of (entity_of x) (last_props (x ∷ xs)) in
    λ k. record { time = hi; order = 0; what = update_of (own k) (same k) } ∷ []

-- what a second window carries is what it would carry alone
pub carried_again : (lo hi : ℤ) (xs ys : List Event) → carried_events hi (live_events (carried_events lo (live_events xs) ++ ys)) ≡ carried_events hi (live_events (xs ++ ys))
carried_again lo hi xs ys =
    ap (carried_events hi) (live_events-append (carried_events lo (live_events xs)) ys)
    ∙ (ap (λ zs. carried_events hi (cond (list_any is_deletion ys) (live_events ys) (zs ++ ys))) (live_events-carried_events lo (live_events xs))
    ∙ ((elim (list_any is_deletion ys) as (λ t. carried_events hi (cond t (live_events ys) (carried_events lo (live_events xs) ++ ys)) ≡ carried_events hi (cond t (live_events ys) (live_events xs ++ ys))) [ true ↦ refl | false ↦ carried_in_place lo hi (live_events xs) ys ])
    ∙ ap (carried_events hi) (sym (live_events-append xs ys))))

-- an event that is no deletion is live after those before it
pub live_last : (xs : List Event) (x : Event) → is_deletion x ≡ false → live_events (xs ++ x ∷ []) ≡ live_events xs ++ x ∷ []
live_last xs x h = live_events-append xs (x ∷ []) ∙ cond-false (list_any is_deletion (x ∷ [])) _ _ (ap (λ t. t || false) h)

-- what is carried for events of one entity is one event of it
pub carried_one : (e : Entity) (lo : ℤ) (xs : List Event) (x : Event) → AllByRecursion (λ y. entity_of y ≡ e) (xs ++ x ∷ []) → carried_events lo (xs ++ x ∷ []) ≡ carried_event e lo (xs ++ x ∷ []) ∷ []
carried_one e lo [] x h = ap (λ b. carried_event b lo (x ∷ []) ∷ []) h.0
carried_one e lo (y ∷ xs) x h = ap (λ b. carried_event b lo (y ∷ (xs ++ x ∷ [])) ∷ []) h.0

-- after an event that is no deletion, one event is carried, with the last values of the live events
pub carried_after : (e : Entity) (lo : ℤ) (xs : List Event) (x : Event) → AllByRecursion (λ y. entity_of y ≡ e) (xs ++ x ∷ []) → is_deletion x ≡ false
    → carried_events lo (live_events (xs ++ x ∷ [])) ≡ carried_event e lo (live_events (xs ++ x ∷ [])) ∷ []
carried_after e lo xs x h k =
    let still = live_last xs x k in
    ap (carried_events lo) still
    ∙ (carried_one e lo (live_events xs) x (subst (AllByRecursion (λ y. entity_of y ≡ e)) still (each_live (λ y. entity_of y ≡ e) (xs ++ x ∷ []) h))
    ∙ ap (λ ys. carried_event e lo ys ∷ []) (sym still))

-- what stands after the last deletion is live
pub live_after : (xs : List Event) (x : Event) (ys : List Event) → is_deletion x ≡ true → list_any is_deletion ys ≡ false → live_events (xs ++ x ∷ ys) ≡ ys
live_after xs x ys h k =
    let some : list_any is_deletion (x ∷ ys) ≡ true = ap (λ t. t || list_any is_deletion ys) h in
    live_events-append xs (x ∷ ys) ∙ (cond-true (list_any is_deletion (x ∷ ys)) _ _ some ∙ (cond-true (list_any is_deletion (x ∷ ys)) _ _ some ∙ live_all ys k))
