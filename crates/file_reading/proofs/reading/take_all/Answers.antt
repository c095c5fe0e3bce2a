use Rattle.std.proofs.Common.{◌≤◌, ap, arith, length}
use Rattle.graph_model.specs.Reading.{Reading, reading}
use Rattle.file_reading.specs.StoreReading.{reading_of}
use Rattle.file_reading.proofs.Costs.{paid-all, paid-wanting}
use Rattle.file_reading.proofs.Records.{read_on-grows}
use Rattle.file_reading.proofs.reading.take_all.Goals as goal

pub returns-in_err-next-clause-cost : goal.returns-in_err-next-clause-cost
returns-in_err-next-clause-cost g c =
    let before = length c.loop-row.read.store.accepted in
    let after = length (reading c.args.read.now.store.model c.args.bytes.now).accepted in
    let all = ap (λ (r : Reading). length r.accepted) c.loop-row.invariant.all in
    let grows : before ≤ after = omega (arith, all, read_on-grows c.args.read.now.store.model (reading_of c.loop-row.read) c.loop-row.number c.loop-row.reader) in
    omega (arith, paid-all before after grows, c.loop-row.invariant.paid)

pub returns-in_err-take_record-clause-cost : goal.returns-in_err-take_record-clause-cost
returns-in_err-take_record-clause-cost g c =
    let before = length c.loop-row.read.store.accepted in
    let after = length (reading c.args.read.now.store.model c.args.bytes.now).accepted in
    let all = ap (λ (r : Reading). length r.accepted) c.loop-row.invariant.all in
    let grows : before ≤ after = omega (arith, all, read_on-grows c.args.read.now.store.model (reading_of c.loop-row.read) c.loop-row.number c.loop-row.reader) in
    let cost = c.in_err-take_record.ensures.cost in
    omega (arith, paid-wanting before after grows, c.loop-row.invariant.paid, cost)
