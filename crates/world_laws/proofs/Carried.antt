-- The events that are carried into a window.
use Rattle.std.proofs.Common.{◌≡◌, ℕ, ℤ, Bool, true, false, List, [], ◌∷◌, ◌++◌, cond, refl, sym, ◌∙◌, ap, inl, inr, append-nil}
use Rattle.std.specs.List.{filter, list_any, AllByRecursion, flat_map}
use Rattle.std.proofs.lemmas.Bool.{cases_Bool, cond_both}
use Rattle.std.proofs.lemmas.List.Elements.{filter-append}
use Rattle.graph_model.specs.declared.properties.Value.{Value}
use Rattle.graph_model.specs.declared.events.Entity.{Entity}
use Rattle.graph_model.specs.declared.events.Entity.TheVariants.{Node, Edge}
use Rattle.graph_model.specs.declared.events.Event.{Event}
use Rattle.graph_model.specs.Entity.{entity_of, subject, same_entity, is_about, about, entities, is_deletion, deletes, update_of, what_props}
use Rattle.graph_model.specs.Compare.{live_events}
use Rattle.graph_model.specs.Window.{carried_events, all_carried, last_props}
use Rattle.world_laws.proofs.Filters.{kept_pass}
use Rattle.world_laws.proofs.Order.{same_entity-exact}
use Rattle.world_laws.proofs.Listed.{has_event, entities_once, about_none}

-- what holds of each event holds of the live ones
pub each_live : (P : Event → Type 0) (xs : List Event) → AllByRecursion P xs → AllByRecursion P (live_events xs)
each_live P [] h = tt
each_live P (x ∷ xs) h = cond_both (list_any is_deletion (x ∷ xs)) (live_events xs) (x ∷ xs) (AllByRecursion P) (λ e. each_live P xs h.1) (λ e. h)

pub subject-update_of : (e : Entity) (ps : List (List ℕ × Value)) → subject (update_of e ps) ≡ e
subject-update_of (Node name) ps = refl
subject-update_of (Edge edge) ps = refl

pub props-update_of : (e : Entity) (ps : List (List ℕ × Value)) → what_props (update_of e ps) ≡ ps
props-update_of (Node name) ps = refl
props-update_of (Edge edge) ps = refl

pub deletes-update_of : (e : Entity) (ps : List (List ℕ × Value)) → deletes (update_of e ps) ≡ false
deletes-update_of (Node name) ps = refl
deletes-update_of (Edge edge) ps = refl

-- what is carried for events of one entity is of that entity
pub each_carried : (lo : ℤ) (e : Entity) (xs : List Event) → AllByRecursion (λ x. is_about e x ≡ true) xs → AllByRecursion (λ x. entity_of x ≡ e) (carried_events lo xs)
each_carried lo e [] h = tt
each_carried lo e (x ∷ xs) h = (subject-update_of (entity_of x) (last_props (x ∷ xs)) ∙ sym (same_entity-exact e (entity_of x) h.0), tt)

-- a filter by entity keeps all or none of events that are of one entity
pub about_one : (e b : Entity) (xs : List Event) → AllByRecursion (λ x. entity_of x ≡ b) xs → about e xs ≡ cond (same_entity e b) xs []
about_one e b [] h = elim (same_entity e b) as (λ t. [] ≡ cond {A = List Event} t [] []) [ true ↦ refl | false ↦ refl ]
about_one e b (x ∷ xs) h =
    ap (λ z. cond (same_entity e z) (x ∷ about e xs) (about e xs)) h.0
    ∙ (ap (λ ys. cond (same_entity e b) (x ∷ ys) ys) (about_one e b xs h.1) ∙ (elim (same_entity e b) as (λ t. cond t (x ∷ cond t xs []) (cond t xs []) ≡ cond t (x ∷ xs) []) [ true ↦ refl | false ↦ refl ]))

-- a filter of lists that it keeps or drops whole
pub filter_flat_map : {X A : Type 0} (p : A → Bool) (q : X → Bool) (f : X → List A) → ((x : X) → filter p (f x) ≡ cond (q x) (f x) []) → (xs : List X) → filter p (flat_map f xs) ≡ flat_map f (filter q xs)
filter_flat_map p q f h [] = refl
filter_flat_map p q f h (x ∷ xs) =
    filter-append p (f x) (flat_map f xs)
    ∙ (ap (λ ys. ys ++ filter p (flat_map f xs)) (h x) ∙ (ap (λ ys. cond (q x) (f x) [] ++ ys) (filter_flat_map p q f h xs) ∙ (elim (q x) as (λ t. cond t (f x) [] ++ flat_map f (filter q xs) ≡ flat_map f (cond t (x ∷ filter q xs) (filter q xs))) [ true ↦ refl | false ↦ refl ])))

-- of the carried events, one entity has what is carried for it
pub about-all_carried : (e : Entity) (lo : ℤ) (early : List Event) → about e (all_carried lo early) ≡ carried_events lo (live_events (about e early))
about-all_carried e lo early =
    let f : Entity → List Event = λ b. carried_events lo (live_events (about b early)) in
    filter_flat_map (is_about e) (same_entity e) f (λ b. about_one e b (f b) (each_carried lo b (live_events (about b early)) (each_live (λ x. is_about b x ≡ true) (about b early) (kept_pass (is_about b) early)))) (entities early)
    ∙ (ap (flat_map f) (entities_once e early)
    ∙ (elim (cases_Bool (has_event e early)) [
      | inl t ↦ ap (λ s. flat_map f (cond s (e ∷ []) [])) t ∙ append-nil (f e)
      | inr t ↦ ap (λ s. flat_map f (cond s (e ∷ []) [])) t ∙ sym (ap (λ ys. carried_events lo (live_events ys)) (about_none e early t))
    ]))
