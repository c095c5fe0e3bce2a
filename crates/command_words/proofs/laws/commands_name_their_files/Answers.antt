use Rattle.command_words.proofs.CommandLaw.{files_command-named}
use Rattle.command_words.proofs.laws.commands_name_their_files.Goals as goal

pub returns : goal.returns
returns c = files_command-named
