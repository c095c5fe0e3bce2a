-- The events of a world, as places among the events of the nodes and edges that have some.
use Rattle.std.specs.Prelude.{ℕ, pos, List, [], ◌∷◌, ◌++◌, ◌+◌, ◌≡◌, ◌<◌, Bool, length, map}
use Rattle.std.specs.Prelude.{slice_index_or}
use Rattle.std.specs.List.{list_any, All, IsDistinct}
use Rattle.std.specs.declared.cmp.Ordering.{Ordering}
use Rattle.std.specs.Ordering.{ordering_then, int_cmp, nat_cmp}
use Rattle.graph_model.specs.declared.events.Entity.{Entity}
use Rattle.graph_model.specs.declared.events.Entity.TheVariants.{Node, Edge}
use Rattle.graph_model.specs.declared.events.Event.{Event}
use Rattle.graph_model.specs.declared.events.What.TheVariants.{Node as Update}
use Rattle.graph_model.specs.Entity.{same_entity, entity_cmp, is_about}
use Rattle.graph_model.specs.Rising.{Rises}
use Rattle.graph_model.specs.World.{World, events_of}
use Rattle.graph_store.specs.Contents.{Contents, name_at}
use Rattle.view_trait.specs.Meaning.{Shows, edge_named}
use Rattle.view_lists.specs.declared.listing.Subject.{Subject}
use Rattle.view_lists.specs.declared.listing.Subject.TheVariants.{Node as OfNode, Edge as OfEdge}
use Rattle.view_lists.specs.declared.listing.ShownEntity.{ShownEntity}
use Rattle.view_lists.specs.declared.listing.EventPlace.{EventPlace}

-- the node or edge of these names
abbrev pub entity_named : Subject → Entity
entity_named (OfNode n name) = Node name.now
entity_named (OfEdge e src dst layer) =
    Edge (record { src = src.now; dst = dst.now; layer = layer.now })

-- a number of a store, and the names that the store has for it
abbrev pub IsNumbered : Contents → Subject → Type 0
IsNumbered c (OfNode n name) = (n.0 < length c.nodes) × (name_at c.nodes n.0 ≡ name.now)
IsNumbered c (OfEdge e src dst layer) =
    (e.0 < length c.edges)
    × (edge_named c e.0 ≡ record { src = src.now; dst = dst.now; layer = layer.now })

-- a node or an edge of a store, with the span that a world shows of it
pub record IsShownEntity (c : Contents) (w : World) (s : ShownEntity) : Type 0 where
  pub numbered : IsNumbered c s.subject
  pub shows : Shows c w (entity_named s.subject) s.span

abbrev pub entities_of : List ShownEntity → List Entity
entities_of xs = map (λ (s : ShownEntity). entity_named s.subject) xs

-- whether an entity has an event in a world
abbrev pub appears : World → Entity → Bool
appears w e = list_any (is_about e) w.events

-- the nodes and edges that have events in a world, each once
pub record AreFound (c : Contents) (w : World) (xs : List ShownEntity) : Type 0 where
  pub parts : All (IsShownEntity c w) xs
  pub once : IsDistinct same_entity (entities_of xs)
  pub exactly : (e : Entity) → list_any (same_entity e) (entities_of xs) ≡ appears w e

-- the nodes and edges that have events in a world, in order
pub record AreShown (c : Contents) (w : World) (xs : List ShownEntity) : Type 0 where
  pub parts : All (IsShownEntity c w) xs
  pub rise : Rises entity_cmp (entities_of xs)
  pub exactly : (e : Entity) → list_any (same_entity e) (entities_of xs) ≡ appears w e

-- an event for places past the end of a list
abbrev pub no_event : Event
no_event = record { time = pos 0; order = 0; what = Update [] [] }

abbrev pub event_at : List Event → ℕ → Event
event_at xs i = slice_index_or xs i no_event

-- the entity of a place, and its event there
abbrev pub entity_of_place : List Entity → ℕ → Entity
entity_of_place es i = slice_index_or es i (Node [])

abbrev pub event_placed : World → List ShownEntity → EventPlace → Event
event_placed w xs p = event_at (events_of w (entity_of_place (entities_of xs) p.shown)) p.place

-- the place of an event of a world, with the time of the event
pub record IsPlaced (w : World) (xs : List ShownEntity) (p : EventPlace) : Type 0 where
  pub shown : p.shown < length xs
  pub place : p.place < length (events_of w (entity_of_place (entities_of xs) p.shown))
  pub time : p.time ≡ (event_placed w xs p).time

-- the places of all events of a world, in canonical order
pub record AreListed (c : Contents) (w : World) (xs : List ShownEntity) (places : List EventPlace)
    : Type 0 where
  pub shown : AreShown c w xs
  pub placed : All (IsPlaced w xs) places
  pub events : map (event_placed w xs) places ≡ w.events

-- the order of places: by time, then by the node or edge, and then by the place among its events
abbrev pub place_cmp : EventPlace → EventPlace → Ordering
place_cmp p q =
    ordering_then (int_cmp p.time q.time)
    (ordering_then (nat_cmp p.shown q.shown) (nat_cmp p.place q.place))

-- the places of events of one entity, from one place on
abbrev pub placed_from : ℕ → ℕ → List Event → List EventPlace
placed_from shown place [] = []
placed_from shown place (x ∷ xs) =
    record { time = x.time; shown = shown; place = place } ∷ placed_from shown (place + 1) xs

-- the places of the events of entities, one entity after another
abbrev pub all_placed : World → ℕ → List Entity → List EventPlace
all_placed w shown [] = []
all_placed w shown (e ∷ es) = placed_from shown 0 (events_of w e) ++ all_placed w (shown + 1) es
