use Rattle.std.proofs.Common.{◌≤◌, length}
use Rattle.outside_io.proofs.Writing.{Wrote}
use Rattle.outside_io.proofs.all_bytes.write_all.Given as goal

abbrev pub invariant-loop-rest : goal.invariant-loop-rest
invariant-loop-rest g l = record {
  wrote : Wrote (g.O.Sink.written l.initial.sink) (g.O.Sink.written l.sink) l.bytes l.rest;
  faults : g.O.Sink.faults l.initial.sink ≤ g.O.Sink.faults l.sink;
}

abbrev pub decreases-loop-rest : goal.decreases-loop-rest
decreases-loop-rest g l = length l.rest
