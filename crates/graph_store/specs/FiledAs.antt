-- The numbers under which events are filed.
use Rattle.std.specs.Prelude.{ℕ, List, ◌≡◌, ◌<◌, length}
use Rattle.graph_model.specs.declared.events.EdgeName.{EdgeName}
use Rattle.graph_model.specs.declared.events.Entity.TheVariants.{Node, Edge}
use Rattle.graph_model.specs.declared.events.Event.{Event}
use Rattle.graph_model.specs.Entity.{entity_of}
use Rattle.graph_store.specs.declared.edges.EdgeParts.{EdgeParts}
use Rattle.graph_store.specs.declared.taking.Filed.{Filed}
use Rattle.graph_store.specs.declared.taking.Filed.TheVariants.{Node as FiledNode, Edge as FiledEdge}
use Rattle.graph_store.specs.EdgeParts.{parts_at}
use Rattle.graph_store.specs.Contents.{Contents, name_at, edge_name}

-- a number that is given, and has a name
abbrev pub IsNumberOf : List (List ℕ) → List ℕ → ℕ → Type 0
IsNumberOf names name n = (n < length names) × (name_at names n ≡ name)

-- a number that is given, and names an edge
abbrev pub IsEdgeNumber : List (List ℕ) → List (List ℕ) → List EdgeParts → EdgeName → ℕ → Type 0
IsEdgeNumber nodes layers edges edge e =
    (e < length edges) × (edge_name nodes layers (parts_at edges e) ≡ edge)

-- a number that is given, and names the entity of an event
abbrev pub IsFiledAs : Contents → Event → Filed → Type 0
IsFiledAs c x (FiledNode n) = (n.0 < length c.nodes) × (Node (name_at c.nodes n.0) ≡ entity_of x)
IsFiledAs c x (FiledEdge e) =
    (e.0 < length c.edges) × (Edge (edge_name c.nodes c.layers (parts_at c.edges e.0)) ≡ entity_of x)
