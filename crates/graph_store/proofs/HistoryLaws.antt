-- What the history of an entity says to those who read it.
use Rattle.std.proofs.Common.{◌≡◌, ℕ, ◌<◌, ◌≤ℤ◌, ◌<ℤ◌, List, [], ◌∷◌, true, false, length, map, refl, sym, arith, subst, inl}
use Rattle.std.specs.List.{All, AllByRecursion, IsDistinct}
use Rattle.std.proofs.lemmas.Int.{ints}
use Rattle.std.proofs.lemmas.List.{get_or-map, length-map}
use Rattle.graph_model.specs.declared.properties.Value.{Value}
use Rattle.graph_model.specs.declared.properties.ValueType.{ValueType}
use Rattle.graph_model.specs.declared.events.Entity.{Entity}
use Rattle.graph_model.specs.declared.events.Entity.TheVariants.{Node, Edge}
use Rattle.graph_model.specs.declared.events.Event.{Event}
use Rattle.graph_model.specs.declared.events.Model.{Model}
use Rattle.graph_model.specs.declared.events.Model.TheVariants.{Event as Instants, Persistent}
use Rattle.graph_model.specs.Interval.{Interval, is_inside}
use Rattle.graph_model.specs.Names.{same_name}
use Rattle.graph_model.specs.Entity.{is_about, about}
use Rattle.graph_model.specs.World.{event_cmp, arrange, allows}
use Rattle.world_laws.proofs.Filters.{each_kept, each_weaker, each_two}
use Rattle.world_laws.proofs.InOrder.{each_in_order}
use Rattle.world_laws.proofs.Order.{same_name-refl}
use Rattle.world_laws.proofs.Times.{inside_lo, inside_hi}
use Rattle.time_history.specs.declared.updates.Kind.{Kind}
use Rattle.time_history.specs.declared.updates.Kind.TheVariants.{Node as OfNode, Add, Delete}
use Rattle.time_history.specs.declared.updates.Update.{Update}
use Rattle.time_history.specs.Kinds.{is_delete}
use Rattle.time_history.specs.Telling.{event_told, events_told, fits, Fits}
use Rattle.time_history.specs.Spans.{IsTaken, IsAllowed, AreWithin}
use Rattle.time_history.specs.Asked.{AreNamed}
use Rattle.time_history.proofs.Held.{all_from_each}
use Rattle.time_history.proofs.Whole.{whole_taken}
use Rattle.graph_store.specs.declared.edges.EdgeParts.{EdgeParts}
use Rattle.graph_store.specs.EdgeParts.{parts_at}
use Rattle.graph_store.specs.Keys.{key_name}
use Rattle.graph_store.specs.Telling.{entity_at, updates_of_number, IsStoredUpdate}
use Rattle.graph_store.specs.Histories.{span_of_all}
use Rattle.graph_store.specs.Lawful.{AreJudged}
use Rattle.graph_store.specs.Contents.{Contents, AreContents, name_at, edge_name, node_entities, edge_entities}
use Rattle.graph_store.proofs.Listed.{one_place}

-- the updates tell the entity's events, fit the entity and the model, lie inside the bounds, and have keys with names
pub record IsRead (model : Model) (bounds : Interval) (accepted : List Event) (names : ℕ → List ℕ) (n : ℕ) (e : Entity) (us : List Update) : Type 0 where
  pub told : events_told e names us ≡ about e (arrange accepted)
  pub fits : Fits e us
  pub keys : AreNamed names n us
  pub within : AreWithin bounds us
  pub allowed : IsAllowed model us
  pub whole : IsTaken model bounds us (span_of_all us)

each_of_mapped : {X Y : Type 0} (f : X → Y) (P : Y → Type 0) (xs : List X) → AllByRecursion P (map f xs) → AllByRecursion (λ x. P (f x)) xs
each_of_mapped f P [] h = tt
each_of_mapped f P (x ∷ xs) h = (h.0, each_of_mapped f P xs h.1)

-- an update whose event a model without deletions allows is no deletion
no_deletion : (e : Entity) (names : ℕ → List ℕ) (u : Update) → fits e u.kind ≡ true → allows Instants (event_told e names u) ≡ true → is_delete u.kind ≡ false
no_deletion e names u = go e u.kind
  where
    go : (e : Entity) (k : Kind) → fits e k ≡ true → allows Instants (event_told e names (record u { kind = k })) ≡ true → is_delete k ≡ false
    go (Node name) OfNode f h = refl
    go (Node name) Add f h = refl
    go (Node name) Delete f h = cc
    go (Edge edge) OfNode f h = refl
    go (Edge edge) Add f h = refl
    go (Edge edge) Delete f h = cc

-- updates inside bounds are taken whole
taken_whole : (model : Model) (bounds : Interval) (us : List Update) → AllByRecursion (λ (u : Update). (bounds.lo ≤ℤ u.time) × (u.time <ℤ bounds.hi)) us → IsTaken model bounds us (span_of_all us)
taken_whole model bounds [] h = inl (refl, refl)
taken_whole model bounds (u ∷ us) h =
    let low = h.0.0 in
    let high = h.0.1 in
    let some : bounds.lo <ℤ bounds.hi = grind (arith, ints) in
    whole_taken model bounds (u ∷ us) some (all_from_each (λ (v : Update). (bounds.lo ≤ℤ v.time) × (v.time <ℤ bounds.hi)) (u ∷ us) h)

pub keys_apart : (keys : List (List ℕ × ValueType)) → IsDistinct same_name (map (λ (p : List ℕ × ValueType). p.0) keys) → (i j : ℕ) → i < length keys → j < length keys → key_name keys i ≡ key_name keys j → i ≡ j
keys_apart keys once i j lt_i lt_j e = one_place same_name same_name-refl (map (λ (p : List ℕ × ValueType). p.0) keys) i j [] once (rw length-map lt_i) (rw length-map lt_j) e

module _ (model : Model) (bounds : Interval) (accepted : List Event) (judged : AreJudged model bounds accepted) (names : ℕ → List ℕ) (n : ℕ) (apart : (i j : ℕ) → i < n → j < n → names i ≡ names j → i ≡ j)
    (e : Entity) (us : List Update) (told : events_told e names us ≡ about e (arrange accepted)) (kept : AllByRecursion (IsStoredUpdate e n (length accepted)) us) where
  -- what holds of the accepted events holds of those that the updates tell
  each_told : (P : Event → Type 0) → AllByRecursion P accepted → AllByRecursion (λ u. P (event_told e names u)) us
  each_told P h = each_of_mapped (event_told e names) P us (subst (AllByRecursion P) (sym told) (each_kept P (is_about e) (arrange accepted) (each_in_order event_cmp P accepted h)))

  inside : AllByRecursion (λ (u : Update). (bounds.lo ≤ℤ u.time) × (u.time <ℤ bounds.hi)) us
  inside =
      each_weaker (λ (u : Update). is_inside bounds u.time ≡ true) (λ (u : Update). (bounds.lo ≤ℤ u.time) × (u.time <ℤ bounds.hi)) (λ u h. (inside_lo bounds u.time h, inside_hi bounds u.time h)) us
      (each_told (λ (x : Event). is_inside bounds x.time ≡ true) judged.inside)

  allowed_by : (m : Model) → AllByRecursion (λ (x : Event). allows m x ≡ true) accepted → IsAllowed m us
  allowed_by Instants h =
      all_from_each (λ (u : Update). is_delete u.kind ≡ false) us
      (each_two (IsStoredUpdate e n (length accepted)) (λ (u : Update). allows Instants (event_told e names u) ≡ true) (λ (u : Update). is_delete u.kind ≡ false) (λ u k a. no_deletion e names u k.kind a) us kept (each_told (λ (x : Event). allows Instants x ≡ true) h))
  allowed_by Persistent h = tt

  read : IsRead model bounds accepted names n e us
  read = record {
    told = told;
    fits = all_from_each (λ (u : Update). fits e u.kind ≡ true) us (each_weaker (IsStoredUpdate e n (length accepted)) (λ (u : Update). fits e u.kind ≡ true) (λ u k. k.kind) us kept);
    keys = record {
      apart = apart;
      below = all_from_each (λ (u : Update). All (λ (p : ℕ × Value). p.0 < n) u.props) us
          (each_weaker (IsStoredUpdate e n (length accepted)) (λ (u : Update). All (λ (p : ℕ × Value). p.0 < n) u.props) (λ u k. all_from_each (λ (p : ℕ × Value). p.0 < n) u.props k.keys) us kept);
    };
    within = all_from_each (λ (u : Update). (bounds.lo ≤ℤ u.time) × (u.time <ℤ bounds.hi)) us inside;
    allowed = allowed_by model judged.allowed;
    whole = taken_whole model bounds us inside;
  }

module _ (c : Contents) (node_updates edge_updates : List (List Update)) (h : AreContents c node_updates edge_updates) (judged : AreJudged c.model c.bounds c.accepted) where
  pub node_read : IsDistinct same_name (map (λ (p : List ℕ × ValueType). p.0) c.node_keys) → (i : ℕ) → i < length c.nodes
      → IsRead c.model c.bounds c.accepted (key_name c.node_keys) (length c.node_keys) (Node (name_at c.nodes i)) (updates_of_number node_updates i)
  node_read once i lt =
      let at : entity_at (node_entities c.nodes) i ≡ Node (name_at c.nodes i) = get_or-map Node c.nodes i [] (Node []) lt in
      subst (λ e. IsRead c.model c.bounds c.accepted (key_name c.node_keys) (length c.node_keys) e (updates_of_number node_updates i)) at
      (read c.model c.bounds c.accepted judged (key_name c.node_keys) (length c.node_keys) (keys_apart c.node_keys once) (entity_at (node_entities c.nodes) i) (updates_of_number node_updates i)
      (h.nodes_told.told i (rw length-map lt)) (h.nodes_told.kept i (rw length-map lt)))

  pub edge_read : IsDistinct same_name (map (λ (p : List ℕ × ValueType). p.0) c.edge_keys) → (i : ℕ) → i < length c.edges
      → IsRead c.model c.bounds c.accepted (key_name c.edge_keys) (length c.edge_keys) (Edge (edge_name c.nodes c.layers (parts_at c.edges i))) (updates_of_number edge_updates i)
  edge_read once i lt =
      let at : entity_at (edge_entities c.nodes c.layers c.edges) i ≡ Edge (edge_name c.nodes c.layers (parts_at c.edges i)) = get_or-map (λ (p : EdgeParts). Edge (edge_name c.nodes c.layers p)) c.edges i (record { src = 0; dst = 0; layer = 0 }) (Node []) lt in
      subst (λ e. IsRead c.model c.bounds c.accepted (key_name c.edge_keys) (length c.edge_keys) e (updates_of_number edge_updates i)) at
      (read c.model c.bounds c.accepted judged (key_name c.edge_keys) (length c.edge_keys) (keys_apart c.edge_keys once) (entity_at (edge_entities c.nodes c.layers c.edges) i) (updates_of_number edge_updates i)
      (h.edges_told.told i (rw length-map lt)) (h.edges_told.kept i (rw length-map lt)))
