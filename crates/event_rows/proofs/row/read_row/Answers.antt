use Rattle.std.proofs.Common.{◌≡◌, rules}
use Rattle.std.specs.Prelude.{IfOk, Ok}
use Rattle.csv.specs.Records.{fields_of}
use Rattle.graph_model.specs.Said.{row_of}
use Rattle.event_rows.specs.Parsing.{said_of}
use Rattle.event_rows.proofs.Inside.{all_front, all_within}
use Rattle.event_rows.proofs.row.read_row.Goals as goal

pub returns-clause-inside : goal.returns-clause-inside
returns-clause-inside c =
    let fields = fields_of c.args.fields.now in
    let said : IfOk c.say.result (λ p. row_of c.args.first c.args.bounds fields ≡ Ok (said_of p)) = search rules in
    all_within c.args.first c.args.bounds fields c.say.result said

pub returns-clause-front : goal.returns-clause-front
returns-clause-front c =
    let fields = fields_of c.args.fields.now in
    let said : IfOk c.say.result (λ p. row_of c.args.first c.args.bounds fields ≡ Ok (said_of p)) = search rules in
    all_front c.args.first c.args.bounds fields c.say.result said
