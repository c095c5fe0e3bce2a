use Rattle.std.proofs.Common.{◌≡◌, ◌+◌, ◌≤◌, length, take}
use Rattle.chunk_list.specs.Besides.{besides_of}
use Rattle.chunk_list.specs.Long.{looked_up, AreBelow}
use Rattle.chunk_list.proofs.long.Long.new.Given as goal

abbrev pub invariant-loop-i : goal.invariant-loop-i
invariant-loop-i g l = record {
  items : looked_up (take l.i (besides_of l.columns.items)) l.places.items ≡ take l.i l.columns.items;
  places : length l.places.items ≡ l.i;
  below : AreBelow l.i l.places.items;
  spare : 256 ≤ l.i + l.places.spare;
}
