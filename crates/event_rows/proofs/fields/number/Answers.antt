use Rattle.std.proofs.Common.{◌<◌, arith, rules}
use Rattle.property_values.proofs.Digits.{digits-fit}
use Rattle.event_rows.proofs.fields.number.Goals as goal

pub overflow_mul-n : goal.overflow_mul-n
overflow_mul-n c =
    let fits = digits-fit c.loop-digit.n c.loop-digit.digit-index 0 c.loop-digit.invariant.1 (omega arith) (omega arith) in
    omega arith

pub overflow_add-n : goal.overflow_add-n
overflow_add-n c =
    let small : c.from.result < 10 = search rules in
    let fits = digits-fit c.loop-digit.n c.loop-digit.digit-index c.from.result c.loop-digit.invariant.1 (omega arith) small in
    omega arith
