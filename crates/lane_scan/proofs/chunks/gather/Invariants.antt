use Rattle.std.proofs.Common.{◌≡◌, ◌++◌, take}
use Rattle.lane_scan.specs.Marks.{marked, rows_of}
use Rattle.lane_scan.proofs.chunks.gather.Given as goal

-- the rows that are marked so far
abbrev pub invariant-loop-i : goal.invariant-loop-i
invariant-loop-i l = l.rows.items ≡ l.initial.rows.items ++ marked (rows_of (take l.i l.times) (take l.i l.codes) (take l.i l.numbers)) (take l.i l.marks)
