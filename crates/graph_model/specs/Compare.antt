-- Values of entities, and how values compare.
use Rattle.std.specs.Prelude.{ℕ, List, [], ◌∷◌, Bool, false, Option, None, Some, if◌then◌else◌}
use Rattle.std.specs.List.{filter_map, list_any, last_or}
use Rattle.std.specs.declared.cmp.Ordering.{Ordering}
use Rattle.std.specs.Ordering.{int_cmp, bool_cmp, is_eq, is_ne, is_lt, is_le, is_gt, is_ge}
use Rattle.graph_model.specs.declared.properties.Value.{Value}
use Rattle.graph_model.specs.declared.properties.Value.TheVariants.{Int, Flag, Text}
use Rattle.graph_model.specs.declared.events.Event.{Event}
use Rattle.graph_model.specs.declared.queries.Cmp.{Cmp}
use Rattle.graph_model.specs.declared.queries.Cmp.TheVariants.{Eq, Ne, Lt, Le, Gt, Ge}
use Rattle.graph_model.specs.Props.{prop_value}
use Rattle.graph_model.specs.Names.{name_cmp}
use Rattle.graph_model.specs.Entity.{is_deletion, props_of}

-- the events that stand after the last deletion
abbrev pub live_events : List Event → List Event
live_events [] = []
live_events (x ∷ xs) = if list_any is_deletion (x ∷ xs) then live_events xs else (x ∷ xs)

-- the last value of a key among events, given in order
abbrev pub last_value : List ℕ → List Event → Option Value
last_value key xs = last_or None (filter_map (λ x. prop_value key (props_of x)) xs)

-- the value of a key for an entity, from the entity's events
abbrev pub value_of : List ℕ → List Event → Option Value
value_of key xs = last_value key (live_events xs)

-- whether a comparison holds between values that compare so
abbrev pub meets : Cmp → Ordering → Bool
meets Eq o = is_eq o
meets Ne o = is_ne o
meets Lt o = is_lt o
meets Le o = is_le o
meets Gt o = is_gt o
meets Ge o = is_ge o

-- whole numbers compare by size, false is less than true, and texts compare by their bytes
abbrev pub compares : Value → Cmp → Value → Bool
compares (Int a) c (Int b) = meets c (int_cmp a b)
compares (Flag a) c (Flag b) = meets c (bool_cmp a b)
compares (Text a) c (Text b) = meets c (name_cmp a b)
compares _ c _ = false

-- a missing value compares to nothing
abbrev pub holds : Option Value → Cmp → Value → Bool
holds None c b = false
holds (Some a) c b = compares a c b
