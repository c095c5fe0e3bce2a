use Rattle.std.proofs.Common.{◌≡◌, ◌*◌, drop}
use Rattle.command_words.specs.Command.{first_value}
use Rattle.command_words.proofs.words.value.Given as goal

abbrev pub invariant-loop-i : goal.invariant-loop-i
invariant-loop-i l = first_value l.option l.words ≡ first_value l.option (drop (2 * l.i) l.words)
