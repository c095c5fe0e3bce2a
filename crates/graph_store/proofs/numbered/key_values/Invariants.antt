use Rattle.std.proofs.Common.{◌≡◌, ◌++◌}
use Rattle.graph_store.specs.Numbered.{pairs_in}
use Rattle.graph_store.proofs.numbered.key_values.Given as goal

abbrev pub invariant-loop-item : goal.invariant-loop-item
invariant-loop-item l = l.values ++ pairs_in l.item-iterator ≡ pairs_in l.fn.numbered.items
