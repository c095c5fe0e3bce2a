use Rattle.std.proofs.Common.{ap, arith, length}
use Rattle.chunk_list.proofs.Joined.{length-starts}
use Rattle.chunk_list.proofs.parts.Parts.middle.Goals as goal

pub get-place-requires : goal.get-place-requires
get-place-requires g c =
    let ps = c.self.inside.parts in
    omega (arith, c.min-last.ensures, c.len.ensures, ps.ok.0, c.if-low-last.false, ap length c.self.invariant.begins, length-starts 0 ps.items, c.self.invariant.some)

pub last_within-requires-clause-within : goal.last_within-requires-clause-within
last_within-requires-clause-within g c =
    let ps = c.self.inside.parts in
    omega (arith, c.min-last.ensures, c.len.ensures, ps.ok.0, ap length c.self.invariant.begins, length-starts 0 ps.items, c.self.invariant.some)
