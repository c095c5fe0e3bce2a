use Rattle.std.proofs.Common.{◌-◌, length, arith, sym}
use Rattle.world_laws.proofs.Digits.{digits-le}
use Rattle.time_history.proofs.Probes.{passes_up_to}
use Rattle.time_history.proofs.search.last_place.Goals as goal

pub returns-then-test-clause-before : goal.returns-then-test-clause-before
returns-then-test-clause-before g c = λ k lt. passes_up_to c.args.probe c.args.column.now.stamps (c.len-len.result - 1) k c.len-len.ensures.rising (omega arith) (sym c.if-test.ensures.value) (omega arith)

pub returns-clause-cost : goal.returns-clause-cost
returns-clause-cost g c = omega (arith, c.first_after.ensures.cost, c.test.ensures.cost, c.len-len.ensures.len, digits-le (c.len-len.result - 1 - 0) (length c.args.column.now.stamps) (omega arith))
