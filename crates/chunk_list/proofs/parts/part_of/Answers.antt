use Rattle.std.proofs.Common.{◌<◌, arith, ap, length}
use Rattle.chunk_list.proofs.Joined.{length-starts, begins_at_zero, place_within}
use Rattle.chunk_list.proofs.parts.part_of.Goals as goal

pub get-first-requires : goal.get-first-requires
get-first-requires g c = omega (arith, ap length c.requires.firsts, length-starts 0 c.args.parts.now)

pub last_at_most-requires-clause-some : goal.last_at_most-requires-clause-some
last_at_most-requires-clause-some g c = omega (arith, ap length c.requires.firsts, length-starts 0 c.args.parts.now, c.requires.some)

pub last_at_most-requires-clause-first : goal.last_at_most-requires-clause-first
last_at_most-requires-clause-first g c = omega (arith, begins_at_zero c.args.firsts.now.items c.args.parts.now c.requires.firsts)

pub returns-clause-within : goal.returns-clause-within
returns-clause-within g c = omega (arith, c.last_at_most.ensures.within, ap length c.requires.firsts, length-starts 0 c.args.parts.now)

pub returns-clause-high : goal.returns-clause-high
returns-clause-high g c =
    let f = c.last_at_most.ensures in
    let lt : c.last_at_most.result < length c.args.parts.now = omega (arith, f.within, ap length c.requires.firsts, length-starts 0 c.args.parts.now) in
    place_within c.args.firsts.now.items c.args.parts.now c.last_at_most.result c.args.i c.requires.firsts lt f.next c.requires.place
