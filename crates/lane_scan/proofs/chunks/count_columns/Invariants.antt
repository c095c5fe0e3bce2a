use Rattle.std.proofs.Common.{◌≡◌, ◌≤◌, ◌-◌, length, take}
use Rattle.lane_scan.specs.Rows.{extent_of_times}
use Rattle.lane_scan.specs.Marks.{marks, marked}
use Rattle.lane_scan.proofs.chunks.count_columns.Given as goal

-- the rows that are selected so far
abbrev pub invariant-loop-at : goal.invariant-loop-at
invariant-loop-at l = record {
  within : l.at ≤ length l.times;
  extent : l.extent ≡ extent_of_times (marked (take l.at l.times) (marks l.lo l.hi l.mask (take l.at l.times) (take l.at l.codes)));
}

abbrev pub decreases-loop-at : goal.decreases-loop-at
decreases-loop-at l = length l.times - l.at
