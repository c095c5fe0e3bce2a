use Rattle.std.proofs.Common.{◌≡◌, ◌+◌, ◌≤◌, length, take}
use Rattle.graph_store.specs.Keys.{with_keys}
use Rattle.graph_store.proofs.keys.KeyTable.count_new.Given as goal

abbrev pub invariant-loop-i : goal.invariant-loop-i
invariant-loop-i l = (length l.self + l.count ≡ length (with_keys l.self (take l.i l.props))) × (l.count ≤ l.i)
