use Rattle.std.proofs.Common.{◌<◌, ◌-◌, ◌∙◌, ap, arith, length, []}
use Rattle.std.specs.List.{insert}
use Rattle.chunk_list.proofs.Joined.{length-starts, starts_within, put_parts, read_at}
use Rattle.chunk_list.proofs.parts.put_in.Goals as goal

pub get-requires : goal.get-requires
get-requires g c =
    let at = c.args.at in
    let ps = c.args.parts.now.items in
    let fs = c.args.firsts.now.items in
    let lt : at < length ps = omega (arith, c.requires.part, c.args.parts.now.ok.0) in
    let in_firsts : at < length fs = omega (arith, lt, ap length c.requires.firsts, length-starts 0 ps) in
    in_firsts

pub overflow_sub-offset : goal.overflow_sub-offset
overflow_sub-offset g c = omega (arith, c.get.ensures, c.requires.low)

pub shift-requires : goal.shift-requires
shift-requires g c =
    let at = c.args.at in
    let ps = c.args.parts.now.items in
    let fs = c.args.firsts.now.items in
    let lt : at < length ps = omega (arith, c.requires.part, c.args.parts.now.ok.0) in
    let in_firsts : at < length fs = omega (arith, lt, ap length c.requires.firsts, length-starts 0 ps) in
    record {
      from = omega (arith, in_firsts);
      fits = λ k a b. starts_within fs ps k _ c.requires.firsts c.requires.fits b;
    }

pub returns-clause-firsts : goal.returns-clause-firsts
returns-clause-firsts g c =
    let at = c.args.at in
    let ps = c.args.parts.now.items in
    let fs = c.args.firsts.now.items in
    let lt : at < length ps = omega (arith, c.requires.part, c.args.parts.now.ok.0) in
    let in_firsts : at < length fs = omega (arith, lt, ap length c.requires.firsts, length-starts 0 ps) in
    let part = read_at ps at c.index_mut-part.result.now [] lt c.index_mut-part.ensures.value in
    let put = put_parts fs c.shift.new.self.items ps c.put.new.self at c.args.i (c.args.i - c.get.result) c.args.item c.requires.firsts lt c.requires.low c.requires.high (ap (λ n. c.args.i - n) c.get.ensures)
    (c.put.ensures ∙ ap (λ q. insert q (c.args.i - c.get.result) c.args.item) part) c.shift.ensures.len c.shift.ensures.kept c.shift.ensures.moved in
    put.0

pub returns-clause-items : goal.returns-clause-items
returns-clause-items g c =
    let at = c.args.at in
    let ps = c.args.parts.now.items in
    let fs = c.args.firsts.now.items in
    let lt : at < length ps = omega (arith, c.requires.part, c.args.parts.now.ok.0) in
    let in_firsts : at < length fs = omega (arith, lt, ap length c.requires.firsts, length-starts 0 ps) in
    let part = read_at ps at c.index_mut-part.result.now [] lt c.index_mut-part.ensures.value in
    let put = put_parts fs c.shift.new.self.items ps c.put.new.self at c.args.i (c.args.i - c.get.result) c.args.item c.requires.firsts lt c.requires.low c.requires.high (ap (λ n. c.args.i - n) c.get.ensures)
    (c.put.ensures ∙ ap (λ q. insert q (c.args.i - c.get.result) c.args.item) part) c.shift.ensures.len c.shift.ensures.kept c.shift.ensures.moved in
    put.1
