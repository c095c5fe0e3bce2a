use Rattle.std.proofs.Common.{◌≡◌, take}
use Rattle.graph_model.specs.Pairs.{pairs}
use Rattle.graph_model.proofs.properties.Props.copy.Given as goal

-- the items so far are copies of the first ones
abbrev pub invariant-loop-item : goal.invariant-loop-item
invariant-loop-item l = pairs l.items.items ≡ pairs (take l.item-index l.item-items)
