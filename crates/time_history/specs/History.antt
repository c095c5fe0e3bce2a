-- What a contract sees of a history, and how it lies in memory.
use Rattle.std.specs.Prelude.{ℕ, List, [], ◌∷◌, ◌^◌, ◌≡◌, ◌<◌, length}
use Rattle.std.specs.List.{AllByRecursion}
use Rattle.graph_model.specs.declared.properties.Value.{Value as GraphValue}
use Rattle.time_column.specs.Stamp.{Stamp, IsRising}
use Rattle.time_history.specs.declared.updates.Update.{Update}
use Rattle.time_history.specs.declared.updates.Kind.{Kind}
use Rattle.time_history.specs.KeyValues.{KeyNumbersRise}

-- the updates, and how many more there is room for without memory
pub record UpdateList : Type 0 where
  pub updates : List Update
  pub spare : ℕ

-- what an update does, and the values that it sets
abbrev pub Change : Type 0
Change = Kind × List (ℕ × GraphValue)

-- the updates with these stamps and changes
abbrev pub updates_of : List Stamp → List Change → List Update
updates_of [] cs = []
updates_of (s ∷ ss) [] = []
updates_of (s ∷ ss) (c ∷ cs) = record { time = s.time; order = s.order; arrival = s.arrival; kind = c.0; props = c.1 } ∷ updates_of ss cs

-- what is true of the parts of a history: each stamp has a change, the stamps rise, and so do the keys of each change
pub record IsSound (stamps : List Stamp) (changes : List Change) : Type 0 where
  pub lengths : length stamps ≡ length changes
  pub fits : length changes < 2 ^ 32
  pub rising : IsRising stamps
  pub rise : AllByRecursion (λ (c : Change). KeyNumbersRise c.1) changes
