use Rattle.std.proofs.Common.{◌≡◌, ◌≤◌, ◌-◌, length, take}
use Rattle.lane_scan.specs.Marks.{marks, marked, rows_of}
use Rattle.lane_scan.proofs.chunks.gather_columns.Given as goal

-- the rows that are selected so far
abbrev pub invariant-loop-at : goal.invariant-loop-at
invariant-loop-at l = record {
  within : l.at ≤ length l.times;
  rows : l.rows.items ≡ marked (rows_of (take l.at l.times) (take l.at l.codes) (take l.at l.numbers)) (marks l.lo l.hi l.mask (take l.at l.times) (take l.at l.codes));
}

abbrev pub decreases-loop-at : goal.decreases-loop-at
decreases-loop-at l = length l.times - l.at
