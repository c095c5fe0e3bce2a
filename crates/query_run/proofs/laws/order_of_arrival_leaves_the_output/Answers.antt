use Rattle.query_run.proofs.ArrivalOrder.{clean-alike, output-alike, writes-alike}
use Rattle.query_run.proofs.laws.order_of_arrival_leaves_the_output.Goals as goal

pub returns-clause-output : goal.returns-clause-output
returns-clause-output c = output-alike

pub returns-clause-clean : goal.returns-clause-clean
returns-clause-clean c = clean-alike

pub returns-clause-writes : goal.returns-clause-writes
returns-clause-writes c = writes-alike
