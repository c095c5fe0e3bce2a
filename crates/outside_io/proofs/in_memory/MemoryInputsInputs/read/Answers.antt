use Rattle.std.proofs.Common.{◌≤◌, drop, length, Some, ap, rules}
use Rattle.outside_io.proofs.FileLists.{rest_of-more, take-copied}
use Rattle.outside_io.proofs.in_memory.MemoryInputsInputs.read.Goals as goal

pub returns-clause-gives : goal.returns-clause-gives
returns-clause-gives c =
    let old = c.args.self.now in
    let n = c.min-n.result in
    let rest = c.rest-rest.ensures.rest in
    let within : n ≤ length c.rest-rest.result.now = search rules in
    let copied = c.copy_from_slice.ensures.after in
    let front = take-copied n c.copy_from_slice.new.self c.rest-rest.result.now (drop n c.args.buf.now) copied within in
    ap Some (rw (front, rest) (rest_of-more old.files old.current old.at n))
