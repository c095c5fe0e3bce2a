use Rattle.std.proofs.Common.{◌≡◌, ◌<◌, ◌≤◌, ◌+◌, ◌-◌, ◌∙◌, ap, arith, length, get_or, [], take, drop}
use Rattle.std.proofs.lemmas.List.Edits.{get_or-insert_below, get_or-insert_at}
use Rattle.chunk_list.proofs.Joined.{length-starts, part_within, starts_rise, starts_after, split_parts, where_ok, read_at}
use Rattle.chunk_list.proofs.parts.split.Goals as goal

pub get-first-requires : goal.get-first-requires
get-first-requires g c =
    let at = c.args.at in
    let ps = c.args.parts.now.items in
    let fs = c.args.firsts.now.items in
    let lt : at < length ps = omega (arith, c.requires.part, c.args.parts.now.ok.0) in
    let in_firsts : at < length fs = omega (arith, lt, ap length c.requires.firsts, length-starts 0 ps) in
    in_firsts

pub overflow_add-first : goal.overflow_add-first
overflow_add-first g c =
    let at = c.args.at in
    let ps = c.args.parts.now.items in
    let fs = c.args.firsts.now.items in
    let lt : at < length ps = omega (arith, c.requires.part, c.args.parts.now.ok.0) in
    let in_firsts : at < length fs = omega (arith, lt, ap length c.requires.firsts, length-starts 0 ps) in
    record { fits = omega (arith, c.get-first.ensures, part_within 0 ps at lt, ap (λ xs. get_or xs at 0) c.requires.firsts, c.requires.fits, c.requires.cut) }

pub insert-requires-2 : goal.insert-requires-2
insert-requires-2 g c =
    let at = c.args.at in
    let ps = c.args.parts.now.items in
    let fs = c.args.firsts.now.items in
    let lt : at < length ps = omega (arith, c.requires.part, c.args.parts.now.ok.0) in
    let in_firsts : at < length fs = omega (arith, lt, ap length c.requires.firsts, length-starts 0 ps) in
    let b = c.requires.firsts in
    let one : at + 1 - 1 ≡ at = omega arith in
    record {
      some = omega arith;
      place = omega (arith, in_firsts);
      room = c.requires.firsts_room;
      rise = λ i j le l. omega (arith, ap (λ xs. get_or xs i 0) b, ap (λ xs. get_or xs j 0) b, starts_rise 0 ps i j le (omega (arith, l, ap length b, length-starts 0 ps)));
      before = omega (arith, c.get-first.ensures, ap (λ n. get_or fs n 0) one);
      after = λ j le l. omega (arith, c.get-first.ensures, ap (λ xs. get_or xs at 0) b, ap (λ xs. get_or xs j 0) b, starts_after ps at c.args.cut j c.requires.cut le (omega (arith, l, ap length b, length-starts 0 ps)));
    }

pub returns-clause-firsts : goal.returns-clause-firsts
returns-clause-firsts g c =
    let at = c.args.at in
    let ps = c.args.parts.now.items in
    let fs = c.args.firsts.now.items in
    let lt : at < length ps = omega (arith, c.requires.part, c.args.parts.now.ok.0) in
    let in_firsts : at < length fs = omega (arith, lt, ap length c.requires.firsts, length-starts 0 ps) in
    let part = read_at ps at c.index_mut-part.result.now [] lt c.index_mut-part.ensures.value in
    let parts = where_ok c.insert.result _ _ _ (c.insert.ensures.succeeds c.requires.parts_room) c.insert.ensures.items in
    let split = split_parts fs c.insert-2.new.self.items ps c.insert.new.self.items c.split.new.self c.split.new.upper at c.args.cut c.get-first.result c.requires.firsts lt c.requires.cut c.get-first.ensures
    (c.split.ensures.lower ∙ ap (λ q. take c.args.cut q) part) (c.split.ensures.upper ∙ ap (λ q. drop c.args.cut q) part) parts c.insert-2.ensures.items in
    split.0

pub returns-clause-items : goal.returns-clause-items
returns-clause-items g c =
    let at = c.args.at in
    let ps = c.args.parts.now.items in
    let fs = c.args.firsts.now.items in
    let lt : at < length ps = omega (arith, c.requires.part, c.args.parts.now.ok.0) in
    let in_firsts : at < length fs = omega (arith, lt, ap length c.requires.firsts, length-starts 0 ps) in
    let part = read_at ps at c.index_mut-part.result.now [] lt c.index_mut-part.ensures.value in
    let parts = where_ok c.insert.result _ _ _ (c.insert.ensures.succeeds c.requires.parts_room) c.insert.ensures.items in
    let split = split_parts fs c.insert-2.new.self.items ps c.insert.new.self.items c.split.new.self c.split.new.upper at c.args.cut c.get-first.result c.requires.firsts lt c.requires.cut c.get-first.ensures
    (c.split.ensures.lower ∙ ap (λ q. take c.args.cut q) part) (c.split.ensures.upper ∙ ap (λ q. drop c.args.cut q) part) parts c.insert-2.ensures.items in
    split.1

pub returns-clause-first : goal.returns-clause-first
returns-clause-first g c =
    let at = c.args.at in
    let ps = c.args.parts.now.items in
    let fs = c.args.firsts.now.items in
    let in_firsts : at + 1 ≤ length fs = omega (arith, c.requires.part, c.args.parts.now.ok.0, ap length c.requires.firsts, length-starts 0 ps) in
    ap (λ xs. get_or xs at 0) c.insert-2.ensures.items ∙ get_or-insert_below fs (at + 1) (c.get-first.result + c.args.cut) 0 at (omega arith) in_firsts

pub returns-clause-next : goal.returns-clause-next
returns-clause-next g c =
    let at = c.args.at in
    let ps = c.args.parts.now.items in
    let fs = c.args.firsts.now.items in
    let in_firsts : at + 1 ≤ length fs = omega (arith, c.requires.part, c.args.parts.now.ok.0, ap length c.requires.firsts, length-starts 0 ps) in
    ap (λ xs. get_or xs (at + 1) 0) c.insert-2.ensures.items ∙ (get_or-insert_at fs (at + 1) (c.get-first.result + c.args.cut) 0 in_firsts ∙ ap (λ n. n + c.args.cut) c.get-first.ensures)
