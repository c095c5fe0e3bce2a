use Rattle.std.proofs.Common.{take}
use Rattle.fused_view.specs.Joined.{StandsFor}
use Rattle.fused_view.proofs.fused_ops.fuse.Given as goal

-- the merged views stand for the first ones
abbrev pub invariant-loop-i : goal.invariant-loop-i
invariant-loop-i l = StandsFor (take l.i l.fn.ops) l.merged l.run
