use Rattle.std.proofs.Common.{◌≡◌, None, take}
use Rattle.std.specs.List.{find}
use Rattle.graph_store.specs.Keys.{clashes}
use Rattle.graph_store.proofs.keys.KeyTable.clash.Given as goal

abbrev pub invariant-loop-i : goal.invariant-loop-i
invariant-loop-i l = find (clashes l.self) (take l.i l.props) ≡ None
