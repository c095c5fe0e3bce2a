use Rattle.std.proofs.Common.{◌≡◌, ◌≤◌, ◌-◌, take, length}
use Rattle.lane_scan.specs.Marks.{marks}
use Rattle.lane_scan.proofs.selection.select.Given as goal

-- the marks of the rows of the chunks so far
abbrev pub invariant-loop-at : goal.invariant-loop-at
invariant-loop-at l = record {
  within : l.at ≤ length l.times;
  so_far : take l.at l.out ≡ marks l.lo l.hi l.mask (take l.at l.times) (take l.at l.codes);
}

-- the marks of the rows so far
abbrev pub invariant-loop-i : goal.invariant-loop-i
invariant-loop-i l = take l.i l.out ≡ marks l.lo l.hi l.mask (take l.i l.times) (take l.i l.codes)

abbrev pub decreases-loop-at : goal.decreases-loop-at
decreases-loop-at l = length l.times - l.at
