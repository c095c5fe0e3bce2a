-- Columns of a timeline beside each other, and marks of its rows.
use Rattle.std.specs.Prelude.{ℕ, ℤ, List, [], ◌∷◌, ◌==◌, ◌≡◌, ◌≤◌, length, if◌then◌else◌}
use Rattle.std.specs.List.{All}
use Rattle.lane_scan.specs.declared.hits.Hit.{Hit}
use Rattle.graph_model.specs.Interval.{is_inside}
use Rattle.view_trait.specs.Numbered.{has_bit}
use Rattle.lane_scan.specs.Rows.{passes}

-- 1 for a row that is selected, and 0 for another
abbrev pub mark : ℤ → ℤ → ℕ → ℤ → ℕ → ℕ
mark lo hi mask time code = if passes lo hi mask time code then 1 else 0

-- 1 for a time from lo up to hi, and 0 for another
abbrev pub time_mark : ℤ → ℤ → ℤ → ℕ
time_mark lo hi time = if is_inside (record { lo = lo; hi = hi }) time then 1 else 0

-- 1 for a code whose bit is in a mask, and 0 for another
abbrev pub code_mark : ℕ → ℕ → ℕ
code_mark mask code = if has_bit mask code then 1 else 0

-- the marks of the rows with these times and codes
abbrev pub marks : ℤ → ℤ → ℕ → List ℤ → List ℕ → List ℕ
marks lo hi mask [] codes = []
marks lo hi mask (t ∷ times) [] = []
marks lo hi mask (t ∷ times) (c ∷ codes) = mark lo hi mask t c ∷ marks lo hi mask times codes

-- what stands beside a mark that is 1
abbrev pub marked : {X : Type 0} → List X → List ℕ → List X
marked [] ms = []
marked (x ∷ xs) [] = []
marked (x ∷ xs) (m ∷ ms) = if m == 1 then (x ∷ marked xs ms) else marked xs ms

-- the rows with these times, codes and numbers
abbrev pub rows_of : List ℤ → List ℕ → List ℕ → List Hit
rows_of [] codes numbers = []
rows_of (t ∷ times) [] numbers = []
rows_of (t ∷ times) (c ∷ codes) [] = []
rows_of (t ∷ times) (c ∷ codes) (n ∷ numbers) =
    record { time = t; code = c; number = n } ∷ rows_of times codes numbers

-- columns as long as each other, whose codes are those of layers or of a node update
pub record AreColumns (times : List ℤ) (codes numbers : List ℕ) : Type 0 where
  pub codes_len : length codes ≡ length times
  pub numbers_len : length numbers ≡ length times
  pub small : All (λ c. c ≤ 64) codes
