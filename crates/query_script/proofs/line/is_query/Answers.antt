use Rattle.std.proofs.Common.{ap, sym, ◌∙◌}
use Rattle.graph_model.specs.QueryLine.{has_query_keys}
use Rattle.query_script.proofs.Lines.{keys_same}
use Rattle.query_script.proofs.line.is_query.Goals as goal

pub returns-in-Some : goal.returns-in-Some
returns-in-Some c = c.has_keys.ensures ∙ sym (keys_same c.in-Some.members.now.entries) ∙ ap has_query_keys c.in-Some.ensures
