use Rattle.std.proofs.Common.{◌≡◌, take}
use Rattle.graph_store.specs.Keys.{with_keys}
use Rattle.graph_store.proofs.keys.KeyTable.add.Given as goal

abbrev pub invariant-loop-i : goal.invariant-loop-i
invariant-loop-i l = l.self ≡ with_keys l.initial.self (take l.i l.props)
