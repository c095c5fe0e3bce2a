use Rattle.std.proofs.Common.{rules, arith}
use Rattle.graph_store.proofs.KeyLaws.{clash_found, clash_none}
use Rattle.graph_store.proofs.keys.KeyTable.clash.Goals as goal

pub returns-then-is_some : goal.returns-then-is_some
returns-then-is_some c =
    clash_found c.args.self.now c.args.props.now c.loop-i.i c.key_at.result.now c.value_at.result.now (omega arith) c.key_at.ensures c.value_at.ensures c.loop-i.invariant c.clash_of-clash.result (search rules)
    c.clash_of-clash.ensures.some c.clash_of-clash.ensures.kept c.clash_of-clash.ensures.given

pub loop-i-preserved : goal.loop-i-preserved
loop-i-preserved c =
    clash_none c.args.self.now c.args.props.now c.loop-i.i c.key_at.result.now c.value_at.result.now (omega arith) c.key_at.ensures c.value_at.ensures c.loop-i.invariant c.clash_of-clash.result (search rules)
    c.clash_of-clash.ensures.none
