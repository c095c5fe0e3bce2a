use Rattle.std.proofs.Common.{take}
use Rattle.view_trait.specs.Drawn.{Selects}
use Rattle.view_trait.specs.Numbered.{is_listed}
use Rattle.view_trait.proofs.ready_views.nodes_of.Given as goal

abbrev pub invariant-loop-i : goal.invariant-loop-i
invariant-loop-i l = Selects l.fn.store.nodes (take l.i l.fn.names) (is_listed l.nodes)
