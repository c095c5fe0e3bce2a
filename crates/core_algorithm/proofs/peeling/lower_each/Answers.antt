use Rattle.std.proofs.Common.{◌+◌, get_or, arith}
use Rattle.core_algorithm.proofs.Lowering.{count_more, count_take, if_same}
use Rattle.core_algorithm.proofs.peeling.lower_each.Goals as goal

pub lower-requires-clause-some : goal.lower-requires-clause-some
lower-requires-clause-some c =
    let i = c.loop-i.i in
    let nodes = c.args.nodes.now in
    let u = get_or nodes i 0 in
    λ here. omega (arith, c.loop-i.invariant.degrees u here, count_more u nodes i c.loop-i-test.true, count_take u nodes (i + 1), c.requires.some u here, if_same u)

pub loop-i-preserved : goal.loop-i-preserved
loop-i-preserved c = record {
  shelved = c.lower.ensures.shelved;
  degrees = λ v here. omega (arith, c.lower.ensures.degrees v here, c.loop-i.invariant.degrees v here, count_more v c.args.nodes.now c.loop-i.i c.loop-i-test.true);
}
