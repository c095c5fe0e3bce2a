use Rattle.std.proofs.Common.{◌∙◌, ◌%◌, pos, ◌-ℤ◌, rules}
use mir.Syntax.{w64}
use mir.Val.{SFits}
use Rattle.std.specs.Fmt.{decimal, signed_decimal}
use Rattle.std.proofs.lemmas.Int.{to_z-of_z}
use Rattle.command_words.proofs.Draws.{record_pieces}
use Rattle.command_words.proofs.generator.add_record.Goals as goal

pub returns : goal.returns
returns c =
    let fits : SFits w64 c.moment.result = search rules in
    let passed = to_z-of_z w64 c.moment.result fits in
    let at = passed ∙ c.moment.ensures in
    let begun = rw at at c.in_ok-add_number.ensures in
    rw (c.in_ok-push.ensures.items, c.in_ok-add_number-5.ensures, c.in_ok-add_number-4.ensures, c.in_ok-add_number-3.ensures, c.in_ok-add_number-2.ensures, begun)
    (record_pieces c.args.file.now.items (signed_decimal (pos c.args.i -ℤ pos (c.args.r % 50))) (decimal (c.args.p % 1000)) (decimal (c.args.q % 1000)) (decimal (c.args.i % 4)) (decimal (c.args.r % 7)))
