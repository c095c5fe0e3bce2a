-- The rows of a column: times, and what stands beside each.
use Rattle.std.specs.Prelude.{ℤ, List, map}
use Rattle.time_column.specs.declared.column.Mark.{Mark}
use Rattle.time_column.specs.Stamp.{Stamp}

-- the stamp of a row
abbrev pub stamp_of : {T B : Type 0} → ℤ × Mark T B → Stamp
stamp_of r = record { time = r.0; order = r.1.order; arrival = r.1.arrival }

-- the stamps of rows
abbrev pub stamps_of : {T B : Type 0} → List (ℤ × Mark T B) → List Stamp
stamps_of rows = map stamp_of rows

-- what stands beside the stamp of a row: its tag, and the other thing
abbrev pub beside_of : {T B : Type 0} → ℤ × Mark T B → T × B
beside_of r = (r.1.tag, r.1.beside)

-- what stands beside the stamps of rows
abbrev pub besides_of : {T B : Type 0} → List (ℤ × Mark T B) → List (T × B)
besides_of rows = map beside_of rows
