use Rattle.std.proofs.Common.{◌≡◌, ◌+◌, ◌*◌, ◌<◌, [], drop, length, length-drop, arith, refl}
use Rattle.std.proofs.lemmas.Option.{get_or_from_slice_get}
use Rattle.command_words.proofs.CommandWords.{first_value-few, first_value-step}
use Rattle.command_words.proofs.words.value.Goals as goal

pub returns-then-eq : goal.returns-then-eq
returns-then-eq c =
    let at = 2 * c.loop-i.i in
    let name = get_or_from_slice_get c.args.words.now at c.item.result.now [] c.item.ensures in
    let word = get_or_from_slice_get c.args.words.now (at + 1) c.item-then-eq.result.now [] c.item-then-eq.ensures in
    let step = first_value-step c.args.words.now c.args.option.now at (omega arith) in
    rw (c.loop-i.invariant, step, name, ← c.if-eq.ensures, word) refl

pub loop-i-preserved : goal.loop-i-preserved
loop-i-preserved c =
    let at = 2 * c.loop-i.i in
    let name = get_or_from_slice_get c.args.words.now at c.item.result.now [] c.item.ensures in
    let step = first_value-step c.args.words.now c.args.option.now at (omega arith) in
    let more : 2 * (c.loop-i.i + 1) ≡ at + 1 + 1 = omega arith in
    rw (more, c.loop-i.invariant, step, name, ← c.if-eq.ensures) refl

pub returns : goal.returns
returns c =
    let few : length (drop (2 * c.loop-i.i) c.args.words.now) < 2 = simp length-drop (omega arith) in
    rw (c.loop-i.invariant, first_value-few (drop (2 * c.loop-i.i) c.args.words.now) c.args.option.now few) refl
