use Rattle.std.proofs.Common.{◌<◌, ap, arith, length, []}
use Rattle.chunk_list.proofs.Joined.{length-starts, begins_at_zero, place_at_most, read_at}
use Rattle.chunk_list.proofs.parts.Parts.put.Goals as goal

pub last_at_most-at-requires-clause-some : goal.last_at_most-at-requires-clause-some
last_at_most-at-requires-clause-some g c = omega (arith, ap length c.self.invariant.begins, length-starts 0 c.self.inside.parts.items, c.self.invariant.some)

pub last_at_most-at-requires-clause-first : goal.last_at_most-at-requires-clause-first
last_at_most-at-requires-clause-first g c = omega (arith, begins_at_zero c.self.inside.firsts.items c.self.inside.parts.items c.self.invariant.begins)

pub index-requires : goal.index-requires
index-requires g c =
    let s = c.self.inside in
    let ps = s.parts.items in
    let fs = s.firsts.items in
    let f = c.last_at_most-at.ensures in
    let many = length-starts 0 ps in
    let lt : c.last_at_most-at.result < length ps = omega (arith, f.within, ap length c.self.invariant.begins, many) in
    omega (arith, lt, s.parts.ok.0)

pub put_in-requires-clause-part : goal.put_in-requires-clause-part
put_in-requires-clause-part g c =
    let s = c.self.inside in
    let ps = s.parts.items in
    let fs = s.firsts.items in
    let f = c.last_at_most-at.ensures in
    let many = length-starts 0 ps in
    let lt : c.last_at_most-at.result < length ps = omega (arith, f.within, ap length c.self.invariant.begins, many) in
    omega (arith, lt, s.parts.ok.0)

pub put_in_full-requires-clause-part : goal.put_in_full-requires-clause-part
put_in_full-requires-clause-part g c =
    let s = c.self.inside in
    let ps = s.parts.items in
    let fs = s.firsts.items in
    let f = c.last_at_most-at.ensures in
    let many = length-starts 0 ps in
    let lt : c.last_at_most-at.result < length ps = omega (arith, f.within, ap length c.self.invariant.begins, many) in
    omega (arith, lt, s.parts.ok.0)

pub put_in-requires-clause-high : goal.put_in-requires-clause-high
put_in-requires-clause-high g c =
    let s = c.self.inside in
    let ps = s.parts.items in
    let fs = s.firsts.items in
    let f = c.last_at_most-at.ensures in
    let many = length-starts 0 ps in
    let lt : c.last_at_most-at.result < length ps = omega (arith, f.within, ap length c.self.invariant.begins, many) in
    let high = place_at_most fs ps c.last_at_most-at.result c.args.i c.self.invariant.begins lt f.next (omega (arith, c.requires.place, ap (λ v. length v.items) c.self.view_is)) in
    high

pub put_in_full-requires-clause-high : goal.put_in_full-requires-clause-high
put_in_full-requires-clause-high g c =
    let s = c.self.inside in
    let ps = s.parts.items in
    let fs = s.firsts.items in
    let f = c.last_at_most-at.ensures in
    let many = length-starts 0 ps in
    let lt : c.last_at_most-at.result < length ps = omega (arith, f.within, ap length c.self.invariant.begins, many) in
    let high = place_at_most fs ps c.last_at_most-at.result c.args.i c.self.invariant.begins lt f.next (omega (arith, c.requires.place, ap (λ v. length v.items) c.self.view_is)) in
    high

pub put_in_full-requires-clause-full : goal.put_in_full-requires-clause-full
put_in_full-requires-clause-full g c =
    let s = c.self.inside in
    let ps = s.parts.items in
    let fs = s.firsts.items in
    let f = c.last_at_most-at.ensures in
    let many = length-starts 0 ps in
    let lt : c.last_at_most-at.result < length ps = omega (arith, f.within, ap length c.self.invariant.begins, many) in
    let part = read_at ps c.last_at_most-at.result c.index.result.now [] lt c.index.ensures in
    omega (arith, ap length part, c.len.ensures.len, c.len.ensures.most, c.if-len-lt-MOST.false)
