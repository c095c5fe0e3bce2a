use Rattle.std.proofs.Common.{take}
use Rattle.temporal_reach.specs.Search.{IsBegun}
use Rattle.temporal_reach.proofs.settling.begin.Given as goal

-- the first seeds are begun at
abbrev pub invariant-loop-i : goal.invariant-loop-i
invariant-loop-i g l = record {
  begun : IsBegun (g.V.View.contents l.fn.view) (g.V.View.world l.fn.view) (take l.i l.fn.seeds) l.fn.start l.table l.frontier;
}
