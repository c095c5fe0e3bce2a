-- A world as the lists of the events of entities, each of which is there once.
use Rattle.std.proofs.Common.{◌≡◌, Bool, true, false, ◌||◌, List, [], ◌∷◌, ◌++◌, cond, refl, sym, ◌∙◌, ap, subst, append-nil}
use Rattle.std.specs.List.{list_any, filter, flat_map, AllByRecursion, IsDistinct}
use Rattle.std.proofs.lemmas.Bool.{cond-true, cond-false}
use Rattle.std.proofs.lemmas.List.Elements.{filter-append}
use Rattle.std.proofs.lemmas.Map.Keys.{IsDistinct-head, IsDistinct-tail}
use Rattle.graph_model.specs.declared.events.Entity.{Entity}
use Rattle.graph_model.specs.declared.events.Event.{Event}
use Rattle.graph_model.specs.Entity.{entity_of, same_entity, is_about, about}
use Rattle.graph_model.specs.World.{World, event_cmp, arrange, events_of}
use Rattle.world_laws.proofs.Filters.{filter_none, each_weaker, kept_pass}
use Rattle.world_laws.proofs.InOrder.{in_order_already, IsInOrder-in_order}
use Rattle.world_laws.proofs.Order.{event_total, same_entity-exact}
use Rattle.world_laws.proofs.Listed.{about-arrange, fixed_by_entities}
use Rattle.world_laws.proofs.Carried.{about_one}

-- among entities that differ, each is there once or not at all
once : (es : List Entity) → IsDistinct same_entity es → (e : Entity) → filter (same_entity e) es ≡ cond (list_any (same_entity e) es) (e ∷ []) []
once [] h e = refl
once (x ∷ es) h e = first (same_entity e x) refl (once es (IsDistinct-tail same_entity x es h) e)
  where
    first : (t : Bool) → same_entity e x ≡ t → filter (same_entity e) es ≡ cond (list_any (same_entity e) es) (e ∷ []) []
        → filter (same_entity e) (x ∷ es) ≡ cond (list_any (same_entity e) (x ∷ es)) (e ∷ []) []
    first true k rest =
        let is : e ≡ x = same_entity-exact e x k in
        let none : filter (same_entity e) es ≡ [] = filter_none (same_entity e) es (subst (λ z. AllByRecursion (λ y. same_entity z y ≡ false) es) (sym is) (IsDistinct-head same_entity x es h)) in
        cond-true (same_entity e x) _ _ k ∙ (ap (λ ys. x ∷ ys) none ∙ (ap (λ z. z ∷ []) (sym is) ∙ sym (ap (λ b. cond (b || list_any (same_entity e) es) (e ∷ []) []) k)))
    first false k rest =
        cond-false (same_entity e x) _ _ k ∙ (rest ∙ sym (ap (λ b. cond (b || list_any (same_entity e) es) (e ∷ []) []) k))

-- a filter of lists that it keeps or drops whole
filter_whole : {X A : Type 0} (p : A → Bool) (q : X → Bool) (f : X → List A) → ((x : X) → filter p (f x) ≡ cond (q x) (f x) []) → (xs : List X) → filter p (flat_map f xs) ≡ flat_map f (filter q xs)
filter_whole p q f h [] = refl
filter_whole p q f h (x ∷ xs) =
    filter-append p (f x) (flat_map f xs)
    ∙ (ap (λ ys. ys ++ filter p (flat_map f xs)) (h x)
    ∙ (ap (λ ys. cond (q x) (f x) [] ++ ys) (filter_whole p q f h xs) ∙ (elim (q x) as (λ t. cond t (f x) [] ++ flat_map f (filter q xs) ≡ flat_map f (cond t (x ∷ filter q xs) (filter q xs))) [ true ↦ refl | false ↦ refl ])))

-- the events of one entity among those of entities
about-flat : (w : World) (e : Entity) (es : List Entity) → about e (flat_map (events_of w) es) ≡ flat_map (events_of w) (filter (same_entity e) es)
about-flat w e es =
    filter_whole (is_about e) (same_entity e) (events_of w)
    (λ b. about_one e b (events_of w b) (each_weaker (λ (x : Event). is_about b x ≡ true) (λ (x : Event). entity_of x ≡ b) (λ x k. sym (same_entity-exact b (entity_of x) k)) (events_of w b) (kept_pass (is_about b) w.events))) es

arrange_twice : (xs : List Event) → arrange (arrange xs) ≡ arrange xs
arrange_twice xs = in_order_already event_cmp (arrange xs) (IsInOrder-in_order event_cmp event_total xs)

-- a world is the lists of distinct entities, arranged, where no other entity has an event
pub world_of_entities : (w : World) (es : List Entity) → arrange w.events ≡ w.events → IsDistinct same_entity es → ((e : Entity) → list_any (same_entity e) es ≡ false → events_of w e ≡ [])
    → arrange (flat_map (events_of w) es) ≡ w.events
world_of_entities w es arranged distinct missing = fixed_by_entities (arrange (flat_map (events_of w) es)) w.events (arrange_twice (flat_map (events_of w) es)) arranged same
  where
    own : (e : Entity) (t : Bool) → list_any (same_entity e) es ≡ t → arrange (flat_map (events_of w) (cond t (e ∷ []) [])) ≡ events_of w e
    own e true k = ap arrange (append-nil (events_of w e)) ∙ (sym (about-arrange e w.events) ∙ ap (about e) arranged)
    own e false k = sym (missing e k)

    same : (e : Entity) → about e (arrange (flat_map (events_of w) es)) ≡ about e w.events
    same e =
        about-arrange e (flat_map (events_of w) es)
        ∙ (ap arrange (about-flat w e es)
        ∙ (ap (λ xs. arrange (flat_map (events_of w) xs)) (once es distinct e) ∙ own e (list_any (same_entity e) es) refl))
