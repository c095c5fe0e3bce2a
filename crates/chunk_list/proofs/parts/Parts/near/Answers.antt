use Rattle.std.proofs.Common.{ap, arith, length}
use Rattle.chunk_list.proofs.Joined.{length-starts, begins_at_zero}
use Rattle.chunk_list.proofs.parts.Parts.near.Goals as goal

pub last_at_most-low-requires-clause-some : goal.last_at_most-low-requires-clause-some
last_at_most-low-requires-clause-some g c = omega (arith, ap length c.self.invariant.begins, length-starts 0 c.self.inside.parts.items, c.self.invariant.some)

pub last_at_most-low-requires-clause-first : goal.last_at_most-low-requires-clause-first
last_at_most-low-requires-clause-first g c = omega (arith, begins_at_zero c.self.inside.firsts.items c.self.inside.parts.items c.self.invariant.begins)

pub last_at_most-requires-clause-first : goal.last_at_most-requires-clause-first
last_at_most-requires-clause-first g c = omega (arith, begins_at_zero c.self.inside.firsts.items c.self.inside.parts.items c.self.invariant.begins)
