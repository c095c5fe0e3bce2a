use Rattle.command_words.proofs.CommandLaw.{generate_command-asked}
use Rattle.command_words.proofs.laws.commands_ask_for_records.Goals as goal

pub returns : goal.returns
returns c = generate_command-asked
