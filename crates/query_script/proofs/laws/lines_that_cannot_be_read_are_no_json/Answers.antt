use Rattle.query_script.proofs.Kept.{json-unread}
use Rattle.query_script.proofs.laws.lines_that_cannot_be_read_are_no_json.Goals as goal

pub returns : goal.returns
returns c = json-unread
