-- Entities, their order, and what events say of them.
use Rattle.std.specs.Prelude.{ℕ, ℤ, List, [], ◌∷◌, Bool, true, false, not, ◌&&◌}
use Rattle.std.specs.List.{filter, list_any}
use Rattle.std.specs.declared.cmp.Ordering.{Ordering}
use Rattle.std.specs.declared.cmp.Ordering.TheVariants.{Less, Greater}
use Rattle.std.specs.Ordering.{ordering_then, nat_cmp, is_eq, int_eq}
use Rattle.graph_model.specs.declared.properties.Value.{Value}
use Rattle.graph_model.specs.declared.events.EdgeName.{EdgeName}
use Rattle.graph_model.specs.declared.events.Entity.{Entity}
use Rattle.graph_model.specs.declared.events.Entity.TheVariants.{Node, Edge}
use Rattle.graph_model.specs.declared.events.What.{What}
use Rattle.graph_model.specs.declared.events.What.TheVariants.{Node as Update, Add, Delete}
use Rattle.graph_model.specs.declared.events.Event.{Event}
use Rattle.graph_model.specs.Names.{name_cmp, same_name}

-- edges are ordered by source, then by destination, then by layer
abbrev pub edge_cmp : EdgeName → EdgeName → Ordering
edge_cmp a b = ordering_then (name_cmp a.src b.src) (ordering_then (name_cmp a.dst b.dst) (name_cmp a.layer b.layer))

-- edges with one source, one destination and one layer
abbrev pub same_edge : EdgeName → EdgeName → Bool
same_edge a b = is_eq (edge_cmp a b)

-- all nodes come before all edges
abbrev pub entity_cmp : Entity → Entity → Ordering
entity_cmp (Node a) (Node b) = name_cmp a b
entity_cmp (Node a) (Edge b) = Less
entity_cmp (Edge a) (Node b) = Greater
entity_cmp (Edge a) (Edge b) = edge_cmp a b

-- entities that are one
abbrev pub same_entity : Entity → Entity → Bool
same_entity a b = is_eq (entity_cmp a b)

-- the node that is updated, or the edge that is added or deleted
abbrev pub subject : What → Entity
subject (Update name props) = Node name
subject (Add edge props) = Edge edge
subject (Delete edge) = Edge edge

-- the entity of an event
abbrev pub entity_of : Event → Entity
entity_of x = subject x.what

-- the properties that are set; a deletion sets none
abbrev pub what_props : What → List (List ℕ × Value)
what_props (Update name props) = props
what_props (Add edge props) = props
what_props (Delete edge) = []

-- the properties of an event
abbrev pub props_of : Event → List (List ℕ × Value)
props_of x = what_props x.what

-- whether it is the deletion of an edge
abbrev pub deletes : What → Bool
deletes (Update name props) = false
deletes (Add edge props) = false
deletes (Delete edge) = true

-- whether an event is a deletion
abbrev pub is_deletion : Event → Bool
is_deletion x = deletes x.what

-- whether it is the addition of an edge
abbrev pub adds : What → Bool
adds (Update name props) = false
adds (Add edge props) = true
adds (Delete edge) = false

-- whether an event is an addition
abbrev pub is_addition : Event → Bool
is_addition x = adds x.what

-- whether an entity is a node
abbrev pub is_node : Entity → Bool
is_node (Node name) = true
is_node (Edge edge) = false

-- the nodes that an entity names: itself, or the ends of the edge
abbrev pub names_in : Entity → List (List ℕ)
names_in (Node name) = name ∷ []
names_in (Edge edge) = edge.src ∷ edge.dst ∷ []

-- whether an entity names a node
abbrev pub involves : List ℕ → Entity → Bool
involves node e = list_any (same_name node) (names_in e)

-- an update of a node, or an addition of an edge, with these properties
abbrev pub update_of : Entity → List (List ℕ × Value) → What
update_of (Node name) props = Update name props
update_of (Edge edge) props = Add edge props

-- the events of an entity, in order
abbrev pub is_about : Entity → Event → Bool
is_about e x = same_entity e (entity_of x)

abbrev pub about : Entity → List Event → List Event
about e xs = filter (is_about e) xs

-- an event of an entity at a moment, with an order
abbrev pub is_at : Entity × ℤ × ℕ → Event → Bool
is_at k x = same_entity k.0 (entity_of x) && (int_eq k.1 x.time && is_eq (nat_cmp k.2 x.order))

-- the distinct entities of a list of events
abbrev pub entities : List Event → List Entity
entities [] = []
entities (x ∷ xs) = entity_of x ∷ filter (λ e. not (same_entity (entity_of x) e)) (entities xs)
