use Rattle.std.proofs.Common.{arith, ◌≡◌, ◌+◌, true, false, cond, length, take}
use Rattle.graph_store.specs.Keys.{with_keys}
use Rattle.graph_store.proofs.KeyLaws.{counted, pick}
use Rattle.graph_store.proofs.keys.KeyTable.count_new.Goals as goal
use Rattle.graph_store.proofs.keys.KeyTable.count_new.Goals.{then-not-has, else-not-has}

pub loop-i-preserved : goal.loop-i-preserved
loop-i-preserved c =
    let next : length c.args.self.now + cond c.has.result c.loop-i.count (c.loop-i.count + 1) ≡ length (with_keys c.args.self.now (take (c.loop-i.i + 1) c.args.props.now)) =
    counted c.args.self.now c.args.props.now c.loop-i.i c.loop-i.count c.key_at.result.now c.has.result c.len-i-end.ensures.rise (omega arith) c.key_at.ensures c.has.ensures c.loop-i.invariant.0 in
    elim c.if-not-has.branch [ then-not-has w ↦ (pick (length c.args.self.now) _ c.loop-i.count c.if-not-has.count c.has.result false next w.if-not-has.true w.count-is, omega arith) | else-not-has w ↦ (pick (length c.args.self.now) _ c.loop-i.count c.if-not-has.count c.has.result true next w.if-not-has.false w.count-is, omega arith) ]
