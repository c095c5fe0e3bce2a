use Rattle.std.proofs.Common.{◌≡◌, take, drop, map, length, slice_index}
use Rattle.lane_scan.proofs.selection.code_lanes.Given as goal

-- the marks of the codes so far
abbrev pub invariant-loop-i : goal.invariant-loop-i
invariant-loop-i l = record {
  len : length l.lanes ≡ 8;
  so_far : take l.i l.lanes ≡ map (slice_index l.table) (take l.i (drop l.at l.codes));
}
