-- What the first views of a list show of a store, and what one more view changes.
use Rattle.std.specs.Prelude.{ℕ, ℤ, List, Option, Some, None, map, take}
use Rattle.graph_model.specs.Interval.{Interval, cut}
use Rattle.graph_model.specs.World.{World}
use Rattle.graph_model.specs.Searches.{Searches, searches}
use Rattle.graph_store.specs.Contents.{Contents, base_of}
use Rattle.view_trait.specs.declared.ready_ops.ReadyOp.{ReadyOp}
use Rattle.view_trait.specs.declared.ready_ops.ReadyOp.TheVariants.{Window}
use Rattle.view_trait.specs.Ready.{ready_apply, ready_kind}

-- what the first views of a list show
abbrev pub below : Contents → List ReadyOp → ℕ → World
below c ops count = ready_apply c (take count ops) (base_of c)

-- the searches of the first views of a list
abbrev pub searches_below : List ReadyOp → ℕ → Searches
searches_below ops count = searches (map ready_kind (take count ops))

-- the moments from which and up to which a window goes
abbrev pub moments_of : ReadyOp → Option (ℤ × ℤ)
moments_of (Window a b) = Some (a, b)
moments_of _ = None

-- bounds, which windows alone change
abbrev pub bounds_with : Interval → ReadyOp → Interval
bounds_with i (Window a b) = cut i a b
bounds_with i _ = i

-- the searches that a view makes in the history of an entity
abbrev pub own_searches : ReadyOp → ℕ
own_searches (Window a b) = 2
own_searches _ = 0
