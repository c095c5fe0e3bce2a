use Rattle.std.proofs.Common.{take}
use Rattle.view_trait.specs.Drawn.{Selects}
use Rattle.view_trait.specs.Numbered.{has_bit}
use Rattle.view_trait.proofs.ready_views.layer_bits.Given as goal

abbrev pub invariant-loop-i : goal.invariant-loop-i
invariant-loop-i l = Selects l.fn.store.layers (take l.i l.fn.names) (has_bit l.bits)
