-- Histories that take an update.
use Rattle.std.specs.Prelude.{ℕ, List, [], ◌∷◌, ◌++◌, Option, Some, None, ◌≡◌, ◌<◌, ◌≤◌, length, slice_set, if◌then◌else◌}
use Rattle.std.specs.List.{All, list_any}
use Rattle.indexmap.specs.IndexSet.{insert_key}
use Rattle.graph_model.specs.declared.events.EdgeName.{EdgeName}
use Rattle.graph_model.specs.Names.{same_name}
use Rattle.graph_model.specs.declared.properties.Value.{Value}
use Rattle.graph_model.specs.declared.properties.ValueType.{ValueType}
use Rattle.time_history.specs.declared.updates.Update.{Update}
use Rattle.time_history.specs.Kinds.{OfOneSort}
use Rattle.time_history.specs.Updates.{placed}
use Rattle.graph_store.specs.declared.taking.Arrival.{Arrival}
use Rattle.graph_store.specs.Telling.{updates_of_number}
use Rattle.graph_store.specs.Keys.{AreNumbered}
use Rattle.graph_store.specs.declared.edges.EdgeParts.{EdgeParts}
use Rattle.graph_store.specs.Ends.{same_ends}
use Rattle.graph_store.specs.EdgeParts.{ends_of}
use Rattle.graph_store.specs.EdgeIndex.{EdgeIndex}
use Rattle.graph_store.specs.Contents.{edge_name}

-- histories with an update: placed in the history of a number, or in a new history
abbrev pub with_update : Option ℕ → Update → List (List Update) → List (List Update)
with_update None u hs = hs ++ (u ∷ []) ∷ []
with_update (Some i) u hs = slice_set hs i (placed u (updates_of_number hs i))

-- an update arrived after all those of a history, is of their sort, and has a number of arrival that they do not exceed in number
pub record ArrivesNext (u : Update) (us : List Update) : Type 0 where
  pub last : All (λ (v : Update). v.arrival < u.arrival) us
  pub sort : OfOneSort (u ∷ us)
  pub few : length us ≤ u.arrival

-- the update that sets these values
abbrev pub update_of : Arrival → List (ℕ × Value) → Update
update_of a values = record { time = a.time; order = a.order; arrival = a.number; kind = a.kind; props = values }

-- histories take an update that sets these properties, by the numbers of their keys
pub record TakeUpdate (keys : List (List ℕ × ValueType)) (props : List (List ℕ × Value)) (a : Arrival) (number : Option ℕ) (before after : List (List Update)) : Type 0 where
  pub values : List (ℕ × Value)
  pub numbered : AreNumbered keys props values
  pub filed : after ≡ with_update number (update_of a values) before

-- histories of nodes, with an empty one for a name that is new
abbrev pub with_history : List (List ℕ) → List ℕ → List (List Update) → List (List Update)
with_history names name hs = if list_any (same_name name) names then hs else (hs ++ [] ∷ [])

-- names with the ends of an edge, which are new or known, a source before a destination
abbrev pub with_ends : List (List ℕ) → EdgeName → List (List ℕ)
with_ends names edge = insert_key same_name (insert_key same_name names edge.src) edge.dst

-- and the histories of nodes with these
abbrev pub with_end_histories : List (List ℕ) → EdgeName → List (List Update) → List (List Update)
with_end_histories names edge hs = with_history (insert_key same_name names edge.src) edge.dst (with_history names edge.src hs)

-- an edge with this name, added behind the edges, and its pair, which is new or known
pub record IsAdded (nodes layers : List (List ℕ)) (edge : EdgeName) (before after : EdgeIndex) : Type 0 where
  pub parts : EdgeParts
  pub edges : after.edges ≡ before.edges ++ parts ∷ []
  pub pairs : after.pairs ≡ insert_key same_ends before.pairs (ends_of parts)
  pub is_named : edge_name nodes layers parts ≡ edge
  pub src : parts.src < length nodes
  pub dst : parts.dst < length nodes
  pub layer : parts.layer < length layers

-- edges and pairs with an edge that has a number, or that is added
abbrev pub HasEdge : Option ℕ → List (List ℕ) → List (List ℕ) → EdgeName → EdgeIndex → EdgeIndex → Type 0
HasEdge (Some i) nodes layers edge before after = (after.edges ≡ before.edges) × (after.pairs ≡ before.pairs)
HasEdge None nodes layers edge before after = IsAdded nodes layers edge before after
