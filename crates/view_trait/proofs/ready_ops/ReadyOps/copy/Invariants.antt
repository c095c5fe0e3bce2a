use Rattle.std.proofs.Common.{◌≡◌, take}
use Rattle.view_trait.proofs.ready_ops.ReadyOps.copy.Given as goal

-- the views so far are equal to the first ones
abbrev pub invariant-loop-i : goal.invariant-loop-i
invariant-loop-i l = l.ops ≡ take l.i l.self
