-- How a list that grows lies in memory.
use Rattle.std.specs.Prelude.{◌-◌, ◌≤◌, ◌≡◌, ⊤, [], ◌∷◌, length, min}
use Rattle.chunk_list.specs.declared.list.Form.{Form}
use Rattle.chunk_list.specs.declared.list.Form.TheVariants.{Empty, One, Few, Wide}
use Rattle.chunk_list.specs.Spaced.{Spaced}

-- the items, and how many more there is room for
abbrev pub form_view : {K V : Type 0} → Form K V → Spaced (K × V)
form_view Empty = record { items = []; spare = 1 }
form_view (One a) = record { items = a ∷ []; spare = 0 }
form_view (Few f) = record { items = f.items; spare = min f.spare (8 - length f.items) }
form_view (Wide w) = w.value

-- a list of few has at most eight items
abbrev pub IsShort : {K V : Type 0} → Form K V → Type 0
IsShort Empty = ⊤
IsShort (One a) = ⊤
IsShort (Few f) = length f.items ≤ 8
IsShort (Wide w) = ⊤

-- one item in the list itself, or as many as a block of few takes
abbrev pub IsFull : {K V : Type 0} → Form K V → Type 0
IsFull Empty = ⊥
IsFull (One a) = ⊤
IsFull (Few f) = length f.items ≡ 8
IsFull (Wide w) = ⊥
