use Rattle.std.proofs.Common.{ap, arith, length, length-drop, ◌∙◌}
use Rattle.std.specs.List.{insert}
use Rattle.std.proofs.lemmas.List.{length-take}
use Rattle.chunk_list.specs.Parts.{part_at}
use Rattle.chunk_list.proofs.Joined.{length-starts}
use Rattle.chunk_list.proofs.parts.put_in_full.Goals as goal

pub get-requires : goal.get-requires
get-requires g c = omega (arith, c.requires.part, ap length c.requires.firsts, length-starts 0 c.args.parts.now.items, c.args.parts.now.ok.0)

pub overflow_sub-offset : goal.overflow_sub-offset
overflow_sub-offset g c = omega (arith, c.get.ensures, c.requires.low)

pub put_in-requires-clause-room : goal.put_in-requires-clause-room
put_in-requires-clause-room g c = omega (arith, ap length c.split.ensures.lower, length-take 0 (part_at c.args.parts.now.items c.args.at))

pub put_in-requires-then-offset-eq-MOST-clause-room : goal.put_in-requires-then-offset-eq-MOST-clause-room
put_in-requires-then-offset-eq-MOST-clause-room g c = omega (arith, ap length c.split-then-offset-eq-MOST.ensures.upper, length-drop 256 (part_at c.args.parts.now.items c.args.at), c.requires.full)

pub put_in-requires-then-offset-clause-high : goal.put_in-requires-then-offset-clause-high
put_in-requires-then-offset-clause-high g c =
    let q = part_at c.args.parts.now.items c.args.at in
    omega (arith, c.get.ensures, c.requires.low, c.requires.high, c.requires.full, c.split-2.ensures.first, c.split-2.ensures.next, ap length c.split-2.ensures.lower, ap length c.split-2.ensures.upper, length-take 128 q, length-drop 128 q)

pub put_in-requires-then-offset-clause-room : goal.put_in-requires-then-offset-clause-room
put_in-requires-then-offset-clause-room g c =
    let q = part_at c.args.parts.now.items c.args.at in
    omega (arith, c.get.ensures, c.requires.low, c.requires.high, c.requires.full, c.split-2.ensures.first, c.split-2.ensures.next, ap length c.split-2.ensures.lower, ap length c.split-2.ensures.upper, length-take 128 q, length-drop 128 q)

pub put_in-requires-else-offset-clause-high : goal.put_in-requires-else-offset-clause-high
put_in-requires-else-offset-clause-high g c =
    let q = part_at c.args.parts.now.items c.args.at in
    omega (arith, c.get.ensures, c.requires.low, c.requires.high, c.requires.full, c.split-2.ensures.first, c.split-2.ensures.next, ap length c.split-2.ensures.lower, ap length c.split-2.ensures.upper, length-take 128 q, length-drop 128 q)

pub put_in-requires-else-offset-clause-room : goal.put_in-requires-else-offset-clause-room
put_in-requires-else-offset-clause-room g c =
    let q = part_at c.args.parts.now.items c.args.at in
    omega (arith, c.get.ensures, c.requires.low, c.requires.high, c.requires.full, c.split-2.ensures.first, c.split-2.ensures.next, ap length c.split-2.ensures.lower, ap length c.split-2.ensures.upper, length-take 128 q, length-drop 128 q)

pub put_in-requires-clause-fits : goal.put_in-requires-clause-fits
put_in-requires-clause-fits g c = omega (arith, c.requires.fits, ap length c.split.ensures.items)

pub put_in-requires-then-offset-eq-MOST-clause-fits : goal.put_in-requires-then-offset-eq-MOST-clause-fits
put_in-requires-then-offset-eq-MOST-clause-fits g c = omega (arith, c.requires.fits, ap length c.split-then-offset-eq-MOST.ensures.items)

pub returns-then-offset-eq-MOST-clause-items : goal.returns-then-offset-eq-MOST-clause-items
returns-then-offset-eq-MOST-clause-items g c = c.put_in-then-offset-eq-MOST.ensures.items ∙ ap (λ xs. insert xs c.args.i c.args.item) c.split-then-offset-eq-MOST.ensures.items
