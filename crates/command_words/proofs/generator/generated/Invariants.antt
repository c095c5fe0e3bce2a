use Rattle.std.proofs.Common.{◌≡◌, ◌*◌}
use Rattle.command_words.specs.Generator.{generated_file, number_at}
use Rattle.command_words.proofs.generator.generated.Given as goal

abbrev pub invariant-loop-i : goal.invariant-loop-i
invariant-loop-i l = record {
  made : l.file.items ≡ generated_file l.i;
  reached : l.draws.number ≡ number_at (3 * l.i);
}
