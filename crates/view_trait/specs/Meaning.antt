-- What a view shows.
use Rattle.std.specs.Prelude.{ℕ, List, [], Bool, true, ◌≡◌, ◌<◌, ◌≤◌, ◌+◌, ◌*◌, length}
use Rattle.std.specs.Int.{bit_at}
use Rattle.std.specs.List.{list_any, AllByRecursion}
use Rattle.graph_model.specs.declared.events.EdgeName.{EdgeName}
use Rattle.graph_model.specs.declared.events.Entity.{Entity}
use Rattle.graph_model.specs.declared.events.Entity.TheVariants.{Node, Edge}
use Rattle.graph_model.specs.declared.events.Event.{Event}
use Rattle.graph_model.specs.Names.{same_name}
use Rattle.graph_model.specs.Entity.{same_entity, entity_of}
use Rattle.graph_model.specs.World.{World, IsLawful, events_of, types_in}
use Rattle.graph_model.specs.Searches.{digits}
use Rattle.graph_model.specs.Spell.{spell}
use Rattle.time_history.specs.declared.updates.Update.{Update}
use Rattle.time_history.specs.declared.span.Span.{Span}
use Rattle.time_history.specs.Telling.{events_told, Fits}
use Rattle.time_history.specs.Spans.{IsSpan, IsTaken}
use Rattle.graph_store.specs.EdgeParts.{parts_at}
use Rattle.graph_store.specs.Contents.{Contents, name_at, edge_name, edge_entities, base_of}
use Rattle.graph_store.specs.Contents.{key_names_for}
use Rattle.graph_store.specs.Indexed.{IsIndexed}

-- the entities that numbers name
abbrev pub node_at : Contents → ℕ → Entity
node_at c n = Node (name_at c.nodes n)

abbrev pub edge_named : Contents → ℕ → EdgeName
edge_named c e = edge_name c.nodes c.layers (parts_at c.edges e)

abbrev pub edge_at : Contents → ℕ → Entity
edge_at c e = Edge (edge_named c e)

-- whether a number names an entity
abbrev pub knows : Contents → Entity → Bool
knows c (Node name) = list_any (same_name name) c.nodes
knows c (Edge edge) = list_any (same_entity (Edge edge)) (edge_entities c.nodes c.layers c.edges)

-- a lawful world under a store's model, with events of the store's entities alone, and with the
-- store's types of the nodes that its events name
pub record IsShown (c : Contents) (w : World) : Type 0 where
  pub indexed : IsIndexed c
  pub few_layers : length c.layers ≤ 64
  pub model : w.model ≡ c.model
  pub lawful : IsLawful w
  pub known : AllByRecursion (λ (x : Event). knows c (entity_of x) ≡ true) w.events
  pub types : w.types ≡ types_in w.events (base_of c).types

-- updates that tell an entity's events in a store's base world
pub record Tells (c : Contents) (x : Entity) (us : List Update) : Type 0 where
  pub told : events_told x (key_names_for c x) us ≡ events_of (base_of c) x
  pub fits : Fits x us

-- a span of such updates, taken under a world's model and bounds, that spells the entity's events
-- in the world
pub record Shows (c : Contents) (w : World) (x : Entity) (s : Span) : Type 0 where
  pub span : (us : List Update) → Tells c x us → IsSpan us s
  pub taken : (us : List Update) → Tells c x us → IsTaken w.model w.bounds us s
  pub spells : spell (events_of (base_of c) x) s.from s.to s.carried w.bounds.lo ≡ events_of w x

-- edges in layers whose bits are not in a number have no event
pub record HasLayers (c : Contents) (w : World) (kept : ℕ) : Type 0 where
  pub none : (e : ℕ) → e < length c.edges → bit_at kept (parts_at c.edges e).layer ≡ 0
      → events_of w (edge_at c e) ≡ []

-- steps from before to after are at most so many searches among so many events
abbrev pub StepsWithin : ℕ → ℕ → ℕ → ℕ → Type 0
StepsWithin before after searches among = after ≤ before + searches * digits among
