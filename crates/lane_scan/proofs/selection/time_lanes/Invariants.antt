use Rattle.std.proofs.Common.{◌≡◌, take, drop, w64, length}
use mir.Val.{SFits}
use lib.Lanes.{Each1}
use Rattle.lane_scan.proofs.selection.time_lanes.Given as goal

-- the times so far, each of which fits its lane
abbrev pub invariant-loop-i : goal.invariant-loop-i
invariant-loop-i l = record {
  len : length l.chunk ≡ 8;
  so_far : take l.i l.chunk ≡ take l.i (drop l.at l.times);
  fits : Each1 (SFits w64) (take l.i l.chunk);
}
