-- What the histories of entities have to do with the accepted events.
use Rattle.std.specs.Prelude.{ℕ, List, [], ◌≡◌, ◌<◌, true, length, slice_index_or}
use Rattle.std.specs.List.{AllByRecursion}
use Rattle.graph_model.specs.declared.properties.Value.{Value}
use Rattle.graph_model.specs.declared.events.Entity.{Entity}
use Rattle.graph_model.specs.declared.events.Entity.TheVariants.{Node}
use Rattle.graph_model.specs.declared.events.Event.{Event}
use Rattle.graph_model.specs.Entity.{about}
use Rattle.graph_model.specs.World.{arrange}
use Rattle.time_history.specs.declared.updates.Update.{Update}
use Rattle.time_history.specs.Telling.{events_told, fits}

-- an entity and a history by their number
abbrev pub entity_at : List Entity → ℕ → Entity
entity_at es i = slice_index_or es i (Node [])

abbrev pub updates_of_number : List (List Update) → ℕ → List Update
updates_of_number hs i = slice_index_or hs i []

-- an update whose keys have numbers below n, that arrived before a number, and that is of a kind that its entity has
pub record IsStoredUpdate (e : Entity) (n before : ℕ) (u : Update) : Type 0 where
  pub keys : AllByRecursion (λ (p : ℕ × Value). p.0 < n) u.props
  pub arrival : u.arrival < before
  pub kind : fits e u.kind ≡ true

-- distinct entities, each with a history that tells its events among the accepted ones, by the names of the first n keys
pub record TellEvents (names : ℕ → List ℕ) (n : ℕ) (es : List Entity) (hs : List (List Update)) (accepted : List Event) : Type 0 where
  pub lengths : length es ≡ length hs
  pub told : (i : ℕ) → i < length es → events_told (entity_at es i) names (updates_of_number hs i) ≡ about (entity_at es i) (arrange accepted)
  pub kept : (i : ℕ) → i < length es → AllByRecursion (IsStoredUpdate (entity_at es i) n (length accepted)) (updates_of_number hs i)
  pub apart : (i j : ℕ) → i < length es → j < length es → entity_at es i ≡ entity_at es j → i ≡ j
