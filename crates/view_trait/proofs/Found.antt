-- What a call finds for an entity of a view: the model, the bounds, the updates, and the span that the view shows.
use Rattle.std.proofs.Common.{◌≡◌, ℕ, ◌-◌, ◌≤◌, Bool, true, false, ◌||◌, List, [], ◌∷◌, cond, Option, Some, None, length, refl, sym, ◌∙◌, ap, subst, arith}
use Rattle.std.specs.Prelude.{is_some}
use Rattle.std.specs.Option.{option_map}
use Rattle.std.specs.List.{filter, last_or, list_any}
use Rattle.std.proofs.lemmas.Bool.{true≢false}
use Rattle.std.proofs.lemmas.List.{length-map}
use Rattle.graph_model.specs.declared.events.Entity.{Entity}
use Rattle.graph_model.specs.declared.events.Entity.TheVariants.{Node, Edge}
use Rattle.graph_model.specs.declared.events.Event.{Event}
use Rattle.graph_model.specs.declared.events.Model.{Model}
use Rattle.graph_model.specs.Spell.{spell}
use Rattle.graph_model.specs.Interval.{Interval}
use Rattle.graph_model.specs.Entity.{is_about}
use Rattle.graph_model.specs.World.{World, event_cmp, events_of}
use Rattle.world_laws.proofs.Counts.{length_filter_le, length_in_order}
use Rattle.world_laws.proofs.ListItems.{some_last}
use Rattle.time_history.specs.declared.updates.Update.{Update}
use Rattle.time_history.specs.declared.span.Span.{Span}
use Rattle.time_history.specs.Telling.{event_told, events_told, Fits}
use Rattle.time_history.specs.declared.updates.Kind.{Kind}
use Rattle.time_history.specs.Asked.{kind_of_event, IsLastKind}
use Rattle.time_history.specs.Spans.{IsSpan, IsTaken, spelled}
use Rattle.graph_store.specs.EdgeParts.{parts_at}
use Rattle.graph_store.specs.Keys.{key_name}
use Rattle.graph_store.specs.Contents.{Contents, name_at, edge_name, base_of, key_names_for}
use Rattle.view_trait.specs.Meaning.{IsShown, Tells, Shows, node_at, edge_at}

pub record IsFound (c : Contents) (w : World) (x : Entity) (model : Model) (bounds : Interval) (us : List Update) (s : Span) : Type 0 where
  pub shown : IsShown c w
  pub model_is : model ≡ w.model
  pub bounds_are : bounds ≡ w.bounds
  pub tells : Tells c x us
  pub shows : Shows c w x s

pub node_tells : (s c : Contents) (n : ℕ) (us : List Update) → s ≡ c → events_told (Node (name_at s.nodes n)) (key_name s.node_keys) us ≡ events_of (base_of s) (Node (name_at s.nodes n)) → Fits (Node (name_at s.nodes n)) us → Tells c (node_at c n) us
node_tells s c n us e told fits = subst (λ v. Tells v (node_at v n) us) e (record { told = told; fits = fits })

pub edge_tells : (s c : Contents) (e : ℕ) (us : List Update) → s ≡ c → events_told (Edge (edge_name s.nodes s.layers (parts_at s.edges e))) (key_name s.edge_keys) us ≡ events_of (base_of s) (Edge (edge_name s.nodes s.layers (parts_at s.edges e))) → Fits (Edge (edge_name s.nodes s.layers (parts_at s.edges e))) us → Tells c (edge_at c e) us
edge_tells s c e us same told fits = subst (λ v. Tells v (edge_at v e) us) same (record { told = told; fits = fits })

-- a store's model is that of each world over it
pub model_found : (s c : Contents) (w : World) (model : Model) → s ≡ c → IsShown c w → model ≡ s.model → model ≡ w.model
model_found s c w model e h k = k ∙ (ap (λ (v : Contents). v.model) e ∙ sym h.model)

pub span_found : (c : Contents) (w : World) (x : Entity) (model : Model) (bounds : Interval) (us : List Update) (s : Span) → IsFound c w x model bounds us s → IsSpan us s
span_found c w x model bounds us s f = f.shows.span us f.tells

pub taken_found : (c : Contents) (w : World) (x : Entity) (model : Model) (bounds : Interval) (us : List Update) (s : Span) → IsFound c w x model bounds us s → IsTaken model bounds us s
taken_found c w x model bounds us s f = subst (λ m. IsTaken m bounds us s) (sym f.model_is) (subst (λ b. IsTaken w.model b us s) (sym f.bounds_are) (f.shows.taken us f.tells))

-- a search in the span is among no more events than the entity has, or the store
pub span_fits : (c : Contents) (w : World) (x : Entity) (model : Model) (bounds : Interval) (us : List Update) (s : Span) → IsFound c w x model bounds us s → s.to - s.from ≤ length (events_of (base_of c) x)
span_fits c w x model bounds us s f =
    let h = f.shows.span us f.tells in
    let e : length us ≡ length (events_of (base_of c) x) = sym (length-map us (event_told x (key_names_for c x))) ∙ ap length f.tells.told in
    let k = h.end in
    omega (arith, e, k)

pub events_fit : (c : Contents) (x : Entity) → length (events_of (base_of c) x) ≤ length c.accepted
events_fit c x =
    let a = length_filter_le (is_about x) (base_of c).events in
    let b = length_in_order event_cmp c.accepted in
    omega (arith, a, b)

pub span_fits_store : (c : Contents) (w : World) (x : Entity) (model : Model) (bounds : Interval) (us : List Update) (s : Span) → IsFound c w x model bounds us s → s.to - s.from ≤ length c.accepted
span_fits_store c w x model bounds us s f =
    let a = span_fits c w x model bounds us s f in
    let b = events_fit c x in
    omega (arith, a, b)

-- ---- what a span spells

pub spelled_is : (c : Contents) (w : World) (x : Entity) (us : List Update) (s : Span) → Tells c x us → Shows c w x s → spelled x (key_names_for c x) us s w.bounds.lo ≡ events_of w x
spelled_is c w x us s t h = ap (λ es. spell es s.from s.to s.carried w.bounds.lo) t.told ∙ h.spells

-- the kind of an entity's last event in the world
pub last_kind_is : (c : Contents) (w : World) (x : Entity) (us : List Update) (s : Span) (kind : Option Kind) → Tells c x us → Shows c w x s → IsLastKind us s kind → kind ≡ option_map (λ (y : Event). kind_of_event y.what) (last_or None (events_of w x))
last_kind_is c w x us s kind t h k = k x (key_names_for c x) w.bounds.lo t.fits ∙ ap (λ es. option_map (λ (y : Event). kind_of_event y.what) (last_or None es)) (spelled_is c w x us s t h)

is_some-map : {A B : Type 0} (f : A → B) (o : Option A) → is_some (option_map f o) ≡ is_some o
is_some-map f None = refl
is_some-map f (Some x) = refl

pub has_last : (c : Contents) (w : World) (x : Entity) (us : List Update) (s : Span) (kind : Option Kind) → Tells c x us → Shows c w x s → IsLastKind us s kind → is_some kind ≡ is_some (last_or None (events_of w x))
has_last c w x us s kind t h k = ap is_some (last_kind_is c w x us s kind t h k) ∙ is_some-map (λ (y : Event). kind_of_event y.what) (last_or None (events_of w x))

-- a list has a last item unless it has none
pub last_some : {A : Type 0} (xs : List A) → is_some (last_or None xs) ≡ true → xs ≡ [] → ⊥
last_some [] h e = cc
last_some (x ∷ xs) h e = cc

pub last_none : {A : Type 0} (xs : List A) → is_some (last_or None xs) ≡ false → xs ≡ []
last_none [] h = refl
last_none (x ∷ xs) h = absurd (true≢false (sym (some_last x xs) ∙ h))

-- some item passes a test where those that pass have a last one
pub any_last : {A : Type 0} (p : A → Bool) (xs : List A) → list_any p xs ≡ is_some (last_or None (filter p xs))
any_last p [] = refl
any_last p (x ∷ xs) = by (p x) (any_last p xs)
  where
    by : (t : Bool) → list_any p xs ≡ is_some (last_or None (filter p xs)) → (t || list_any p xs) ≡ is_some (last_or None (cond t (x ∷ filter p xs) (filter p xs)))
    by true h = sym (some_last x (filter p xs))
    by false h = h
