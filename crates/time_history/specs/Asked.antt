-- What is asked of a span.
use Rattle.std.specs.Prelude.{ℕ, ℤ, List, Bool, true, false, not, ◌&&◌, ◌||◌, ◌+◌, ◌==◌, int_lt, slice_range, ◌≡◌, ◌≢◌, ◌≤◌, ◌<◌, ◌<ℤ◌, Option, None, Some}
use Rattle.std.specs.Option.{option_map}
use Rattle.std.specs.List.{list_any, last_or, All}
use Rattle.graph_model.specs.declared.properties.Value.{Value}
use Rattle.graph_model.specs.Compare.{value_of}
use Rattle.graph_model.specs.declared.events.EdgeName.{EdgeName}
use Rattle.graph_model.specs.declared.events.Entity.{Entity}
use Rattle.graph_model.specs.declared.events.Entity.TheVariants.{Edge}
use Rattle.graph_model.specs.declared.events.What.{What}
use Rattle.graph_model.specs.declared.events.What.TheVariants.{Node as NodeUpdate, Add as EdgeAdded, Delete as EdgeDeleted}
use Rattle.graph_model.specs.declared.events.Event.{Event}
use Rattle.graph_model.specs.declared.events.Model.{Model}
use Rattle.graph_model.specs.Interval.{Interval}
use Rattle.graph_model.specs.Presence.{lives_at}
use Rattle.time_history.specs.declared.updates.Kind.{Kind}
use Rattle.time_history.specs.declared.updates.Kind.TheVariants.{Node, Add, Delete}
use Rattle.time_history.specs.declared.updates.Update.{Update}
use Rattle.time_history.specs.declared.span.Span.{Span}
use Rattle.time_history.specs.Kinds.{is_delete}
use Rattle.time_history.specs.Updates.{update_at, ValuesRise}
use Rattle.time_history.specs.Telling.{events_told, Fits}
use Rattle.time_history.specs.Spans.{spelled}

-- whether an edge is alive at a moment, by the events that its span spells
abbrev pub IsAliveAt : Model → Interval → List Update → Span → ℤ → Bool → Type 0
IsAliveAt model bounds us span m alive = (edge : EdgeName) (names : ℕ → List ℕ) → Fits (Edge edge) us → alive ≡ lives_at model bounds (spelled (Edge edge) names us span bounds.lo) m

-- whether a span has an update at a moment
abbrev pub HappensAt : List Update → Span → ℤ → Bool → Type 0
HappensAt us span m true = (k : ℕ) × (span.from ≤ k) × (k < span.to) × ((update_at us k).time ≡ m)
HappensAt us span m false = (k : ℕ) → span.from ≤ k → k < span.to → (update_at us k).time ≢ m

-- whether an edge is alive at some moment: it then is so at the time of one of its events
abbrev pub IsPresent : Model → Interval → List Update → Span → Bool → Type 0
IsPresent model bounds us span present = (edge : EdgeName) (names : ℕ → List ℕ) → Fits (Edge edge) us
    → present ≡ list_any (λ x. lives_at model bounds (spelled (Edge edge) names us span bounds.lo) x.time) (spelled (Edge edge) names us span bounds.lo)

abbrev pub kind_of_event : What → Kind
kind_of_event (NodeUpdate name props) = Node
kind_of_event (EdgeAdded edge props) = Add
kind_of_event (EdgeDeleted edge) = Delete

-- the kind of the last event that a span spells
abbrev pub IsLastKind : List Update → Span → Option Kind → Type 0
IsLastKind us span kind = (entity : Entity) (names : ℕ → List ℕ) (lo : ℤ) → Fits entity us → kind ≡ option_map (λ (x : Event). kind_of_event x.what) (last_or None (spelled entity names us span lo))

-- whether an update is an addition, and the next before a place is later
abbrev pub is_final_at : List Update → ℕ → ℕ → Bool
is_final_at us i to = not (is_delete (update_at us i).kind) && (i + 1 == to || int_lt (update_at us i).time (update_at us (i + 1)).time)

-- the names of the first n keys differ, and no key of the updates is n or more
pub record AreNamed (names : ℕ → List ℕ) (n : ℕ) (us : List Update) : Type 0 where
  pub apart : (i j : ℕ) → i < n → j < n → names i ≡ names j → i ≡ j
  pub below : All (λ u. All (λ (p : ℕ × Value). p.0 < n) u.props) us

-- the value of a key among the updates from one place up to another
abbrev pub IsValueIn : List Update → ℕ → ℕ → ℕ → Option Value → Type 0
IsValueIn us start to key value = (entity : Entity) (names : ℕ → List ℕ) (n : ℕ) → Fits entity us → AreNamed names n us → ValuesRise us → key < n
    → value ≡ value_of (names key) (slice_range (events_told entity names us) start to)

-- the value of a key in what a span spells
abbrev pub IsValue : List Update → Span → ℕ → Option Value → Type 0
IsValue us span key value = (entity : Entity) (names : ℕ → List ℕ) (n : ℕ) (lo : ℤ) → Fits entity us → AreNamed names n us → key < n
    → value ≡ value_of (names key) (spelled entity names us span lo)

-- the least contact of an edge that is later than a moment, if there is one
abbrev pub IsNextContact : Model → Interval → List Update → Span → ℤ → Option ℤ → Type 0
IsNextContact model bounds us span after (Some m) = (edge : EdgeName) (names : ℕ → List ℕ) → Fits (Edge edge) us
    → (after <ℤ m) × (lives_at model bounds (spelled (Edge edge) names us span bounds.lo) m ≡ true)
    × ((t : ℤ) → after <ℤ t → t <ℤ m → lives_at model bounds (spelled (Edge edge) names us span bounds.lo) t ≡ false)
IsNextContact model bounds us span after None = (edge : EdgeName) (names : ℕ → List ℕ) → Fits (Edge edge) us
    → (t : ℤ) → after <ℤ t → lives_at model bounds (spelled (Edge edge) names us span bounds.lo) t ≡ false

-- the time of the first update of a span that is later than a moment, if there is one
abbrev pub IsNextUpdate : List Update → Span → ℤ → Option ℤ → Type 0
IsNextUpdate us span after (Some m) = (after <ℤ m) × HappensAt us span m true × ((t : ℤ) → after <ℤ t → t <ℤ m → HappensAt us span t false)
IsNextUpdate us span after None = (t : ℤ) → after <ℤ t → HappensAt us span t false
