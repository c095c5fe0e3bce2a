-- The types of the nodes that the events of a world name.
use Rattle.std.specs.Prelude.{ℕ, List, [], ◌∷◌, Bool, false, ◌≡◌, ◌<◌, length, map, slice_index_or}
use Rattle.std.specs.Option.{option_map_or}
use Rattle.std.specs.List.{list_any}
use Rattle.graph_model.specs.declared.events.Entity.{Entity}
use Rattle.graph_model.specs.Entity.{involves}
use Rattle.graph_model.specs.World.{type_of}
use Rattle.graph_store.specs.Contents.{Contents, name_at}
use Rattle.view_lists.specs.declared.types.TypedNode.{TypedNode}

-- a flag for each node of a store: whether some entities name it
pub record AreMarked (c : Contents) (es : List Entity) (flags : List Bool) : Type 0 where
  pub len : length flags ≡ length c.nodes
  pub marked : (n : ℕ) → n < length c.nodes → slice_index_or flags n false
      ≡ list_any (involves (name_at c.nodes n)) es

-- nodes with their types
abbrev pub types_listed : List TypedNode → List (List ℕ × List ℕ)
types_listed xs = map (λ (t : TypedNode). (t.node.now, t.kind.now)) xs

-- a node with its type, if it has one
abbrev pub typed_node : List (List ℕ × List ℕ) → List ℕ → List (List ℕ × List ℕ)
typed_node types name = option_map_or (λ kind. (name, kind) ∷ []) (type_of types name) []
