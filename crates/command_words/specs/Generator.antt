-- The generator: an events file of edges that a fixed sequence of numbers chooses, and the script that is answered on it.
use Rattle.std.specs.Prelude.{ℕ, pos, zero, suc, ◌+◌, ◌*◌, ◌/◌, ◌%◌, ◌^◌, ◌-ℤ◌, List, [], ◌∷◌, ◌++◌, codes}
use Rattle.std.specs.Fmt.{decimal, signed_decimal}
use Rattle.std.specs.List.{flat_map, join_with_byte, range_with_len}

-- the number that follows another in the sequence
abbrev pub number_after : ℕ → ℕ
number_after x = (x * 1103515245 + 12345) % 2 ^ 31

-- the number at a place of the sequence; the one at place 0 is 1
unfoldable pub number_at : ℕ → ℕ
number_at zero = 1
number_at (suc j) = number_after (number_at j)

-- the draw at a place
abbrev pub draw : ℕ → ℕ
draw j = number_at j / 65536

-- the fields of a record by its number and its three draws: an edge between two of a thousand nodes in one of four
-- layers, at most 49 earlier than its number says, with a property below 7
abbrev pub edge_fields : ℕ → ℕ → ℕ → ℕ → List (List ℕ)
edge_fields i p q r = codes "edge"
    ∷ signed_decimal (pos i -ℤ pos (r % 50))
    ∷ (codes "n" ++ decimal (p % 1000))
    ∷ (codes "n" ++ decimal (q % 1000))
    ∷ (codes "l" ++ decimal (i % 4))
    ∷ (codes "w:i=" ++ decimal (r % 7)) ∷ []

-- a record: its fields with a comma between two, and a byte 0A behind them
abbrev pub record_line : List (List ℕ) → List ℕ
record_line fields = join_with_byte 44 fields ++ 10 ∷ []

-- the record with a number, counted from 0, whose draws are the next three
abbrev pub generated_record : ℕ → List ℕ
generated_record i = record_line (edge_fields i (draw (3 * i + 1)) (draw (3 * i + 2)) (draw (3 * i + 3)))

-- the events file of so many records
unfoldable pub generated_file : ℕ → List ℕ
generated_file count = flat_map generated_record (range_with_len 0 count)

-- the lines of the script: events in all, under a layer and a window, degrees among two nodes in a window, and events in
-- growing windows
abbrev pub script_lines : List (List ℕ)
script_lines =
    codes "{\"ask\":[\"events\"]}"
    ∷ codes "{\"views\":[[\"layers\",[\"l1\"]],[\"window\",0,1000]],\"ask\":[\"events\"]}"
    ∷ codes "{\"views\":[[\"window\",0,500],[\"subgraph\",[\"n838\",\"n758\"]]],\"ask\":[\"degree\"]}"
    ∷ codes "{\"each\":[\"expanding\",250000],\"ask\":[\"events\"]}" ∷ []

-- the script, each line with a byte 0A behind it
unfoldable pub generated_script : List ℕ
generated_script = flat_map (λ line. line ++ 10 ∷ []) script_lines
