use Rattle.std.proofs.Common.{◌≡◌, ◌+◌, ◌≤◌, ◌++◌, ℤ, List, take}
use Rattle.lane_scan.specs.Rows.{extent_of_times}
use Rattle.lane_scan.specs.Marks.{marked}
use Rattle.lane_scan.proofs.chunks.with_marked.Given as goal

-- the times that are marked so far
abbrev pub invariant-loop-i : goal.invariant-loop-i
invariant-loop-i l = record {
  few : l.all.events ≤ l.fn.extent.events + l.i;
  extent : (before : List ℤ) → l.fn.extent ≡ extent_of_times before → l.all ≡ extent_of_times (before ++ marked (take l.i l.times) (take l.i l.marks));
}
