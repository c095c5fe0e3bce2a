use Rattle.std.proofs.Common.{arith}
use Rattle.outside_io.proofs.Writing.{Wrote-front, Wrote-more}
use Rattle.outside_io.proofs.all_bytes.write_all.Goals as goal

pub loop-rest-preserved : goal.loop-rest-preserved
loop-rest-preserved g c = record {
  wrote = rw c.split_at.ensures.back (Wrote-more _ _ _ _ _ c.in-Ok.n c.loop-rest.invariant.wrote c.in-Ok.ensures.takes);
  faults = omega (arith, c.in-Ok.ensures.faults);
}

pub returns-in-Err-clause-err : goal.returns-in-Err-clause-err
returns-in-Err-clause-err g c = rw c.in-Err.ensures.nothing (Wrote-front _ _ _ _ c.loop-rest.invariant.wrote)
