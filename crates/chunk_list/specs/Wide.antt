-- How a list of more than a few items lies in memory.
use Rattle.std.specs.Prelude.{◌-◌, ◌≤◌, ⊤, length, min}
use Rattle.chunk_list.specs.declared.wide.Rows.{Rows}
use Rattle.chunk_list.specs.declared.wide.Rows.TheVariants.{Flat, Long}
use Rattle.chunk_list.specs.Spaced.{Spaced}

-- the items, and how many more there is room for
abbrev pub rows_view : {K V : Type 0} → Rows K V → Spaced (K × V)
rows_view (Flat c) = record { items = c.items; spare = min c.spare (256 - length c.items) }
rows_view (Long l) = l

-- a flat list has no more items than a part
abbrev pub IsFlat : {K V : Type 0} → Rows K V → Type 0
IsFlat (Flat c) = length c.items ≤ 256
IsFlat (Long l) = ⊤
