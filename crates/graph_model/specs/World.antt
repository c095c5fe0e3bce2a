-- Worlds: the events that a graph, or a view of one, shows, in canonical order.
use Rattle.std.specs.Prelude.{ℕ, List, Bool, true, false, not, ◌||◌, ◌≡◌, IsTrue, int_le, Option}
use Rattle.std.specs.Bool.{beq}
use Rattle.std.specs.Option.{option_map}
use Rattle.std.specs.List.{filter, find, list_any, list_all, AllByRecursion}
use Rattle.std.specs.declared.cmp.Ordering.{Ordering}
use Rattle.std.specs.Ordering.{ordering_then, int_cmp, nat_cmp}
use Rattle.graph_model.specs.declared.properties.Value.{Value}
use Rattle.graph_model.specs.declared.properties.Value.TheVariants.{Int, Flag, Text}
use Rattle.graph_model.specs.declared.events.Entity.{Entity}
use Rattle.graph_model.specs.declared.events.Event.{Event}
use Rattle.graph_model.specs.declared.events.Model.{Model}
use Rattle.graph_model.specs.declared.events.Model.TheVariants.{Event as Instants, Persistent}
use Rattle.graph_model.specs.Names.{name_cmp, same_name}
use Rattle.graph_model.specs.Props.{KeysRise}
use Rattle.graph_model.specs.Rising.{in_order, put_rising, Rises}
use Rattle.graph_model.specs.Interval.{Interval, is_inside}
use Rattle.graph_model.specs.Entity.{entity_cmp, entity_of, is_deletion, is_node, props_of, about, involves}

-- the canonical order: by time, then by entity, and then by the order within the time
abbrev pub event_cmp : Event → Event → Ordering
event_cmp x y = ordering_then (int_cmp x.time y.time) (ordering_then (entity_cmp (entity_of x) (entity_of y)) (nat_cmp x.order y.order))

-- a list in canonical order; events of one time, one entity and one order stay as they arrived
abbrev pub arrange : List Event → List Event
arrange xs = in_order event_cmp xs

-- a model, the moments that the world spans, its events, and the types of nodes: pairs of a node's name and a type's name
pub record World : Type 0 where
  pub model : Model
  pub bounds : Interval
  pub events : List Event
  pub types : List (List ℕ × List ℕ)

-- whether events name a node: an update of it, or an edge with this end
abbrev pub names_node : List Event → List ℕ → Bool
names_node xs node = list_any (λ x. involves node (entity_of x)) xs

-- types, ordered by the node
abbrev pub type_cmp : List ℕ × List ℕ → List ℕ × List ℕ → Ordering
type_cmp s t = name_cmp s.0 t.0

-- a type, put among types that rise by node, unless the node has one
abbrev pub put_type : List ℕ × List ℕ → List (List ℕ × List ℕ) → List (List ℕ × List ℕ)
put_type t types = put_rising type_cmp t types

-- the type of a node, if it has one
abbrev pub type_of : List (List ℕ × List ℕ) → List ℕ → Option (List ℕ)
type_of types node = option_map (λ (t : List ℕ × List ℕ). t.1) (find (λ (t : List ℕ × List ℕ). same_name node t.0) types)

-- the types of nodes that events name
abbrev pub types_in : List Event → List (List ℕ × List ℕ) → List (List ℕ × List ℕ)
types_in xs types = filter (λ (t : List ℕ × List ℕ). names_node xs t.0) types

-- the events of an entity in a world, in order
abbrev pub events_of : World → Entity → List Event
events_of w e = about e w.events

-- the world of types that rise by node, and of events in the order of their arrival
abbrev pub base : Model → Interval → List (List ℕ × List ℕ) → List Event → World
base model bounds types xs = record { model = model; bounds = bounds; events = arrange xs; types = types_in (arrange xs) types }

-- a world with other bounds and events, and the types of the nodes that these name
abbrev pub remake : World → Interval → List Event → World
remake w bounds events = record { model = w.model; bounds = bounds; events = events; types = types_in events w.types }

-- the event model has no deletion
abbrev pub allows : Model → Event → Bool
allows Instants x = not (is_deletion x)
allows Persistent x = true

-- two whole numbers, two flags or two texts
abbrev pub same_type : Value → Value → Bool
same_type (Int a) (Int b) = true
same_type (Flag a) (Flag b) = true
same_type (Text a) (Text b) = true
same_type _ _ = false

-- where two lists of properties share a key, its values have one type
abbrev pub props_agree : List (List ℕ × Value) → List (List ℕ × Value) → Bool
props_agree ps qs = list_all (λ p. list_all (λ q. not (same_name p.0 q.0) || same_type p.1 q.1) qs) ps

-- two node events, or two edge events, agree on the types of their keys
abbrev pub types_agree : Event → Event → Bool
types_agree x y = not (beq (is_node (entity_of x)) (is_node (entity_of y))) || props_agree (props_of x) (props_of y)

-- whether all events agree on the types of keys
abbrev pub all_typed : List Event → Bool
all_typed xs = list_all (λ x. list_all (types_agree x) xs) xs

-- what holds of every world that comes from records, and of every view of it
pub record IsLawful (w : World) : Type 0 where
  -- the bounds are in order
  pub bounds : IsTrue (int_le w.bounds.lo w.bounds.hi)
  -- the list is in canonical order
  pub arranged : arrange w.events ≡ w.events
  -- each time is inside the bounds
  pub inside : IsTrue (list_all (λ x. is_inside w.bounds x.time) w.events)
  -- the event model has no deletion
  pub allowed : IsTrue (list_all (allows w.model) w.events)
  -- the properties of each event rise by key
  pub rising : AllByRecursion (λ x. KeysRise (props_of x)) w.events
  -- each key has values of one type among node events, and among edge events
  pub typed : IsTrue (all_typed w.events)
  -- types rise strictly by node
  pub types_rise : Rises type_cmp w.types
  -- each is the type of a node that the list names
  pub types_named : IsTrue (list_all (λ (t : List ℕ × List ℕ). names_node w.events t.0) w.types)
