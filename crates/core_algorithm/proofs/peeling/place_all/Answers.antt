use Rattle.std.proofs.Common.{length, ap, arith}
use Rattle.core_algorithm.proofs.peeling.place_all.Goals as goal

pub overflow_cast-degree : goal.overflow_cast-degree
overflow_cast-degree c =
    let row_is = ap length c.neighbours-degree.ensures in
    omega (arith, row_is, c.requires.graph.short c.loop-v.v (omega (arith, c.loop-v-test.true, c.len-v-end.ensures.rows)), c.requires.graph.few)

pub place-requires-clause-degree : goal.place-requires-clause-degree
place-requires-clause-degree c =
    let row_is = ap length c.neighbours-degree.ensures in
    omega (arith, row_is, c.requires.graph.short c.loop-v.v (omega (arith, c.loop-v-test.true, c.len-v-end.ensures.rows)), c.loop-v.invariant.len)
