use Rattle.std.proofs.Common.{◌≡◌, Err, rules}
use Rattle.csv.specs.Records.{fields_of}
use Rattle.graph_model.specs.Said.{addition_of, deletion_of, field_of, moment_inside, moment_of, update_of}
use Rattle.event_rows.proofs.Lacking.{what_refused}
use Rattle.event_rows.proofs.row.say.Goals as goal

pub returns-in_err-what-in-Update-clause-refused : goal.returns-in_err-what-in-Update-clause-refused
returns-in_err-what-in-Update-clause-refused c =
    let fields = fields_of c.args.fields.now in
    let kept : c.from_residual-in_err-what-in-Update.result ≡ Err c.in_err-what-in-Update.field-0.0 = search rules in
    rw (kept, c.in-Update.is) (what_refused c.in_err-what-in-Update.field-0.0 (moment_inside c.args.bounds (moment_of (field_of fields 1))) _ (update_of fields) c.in_ok-time-in-Update.ensures.said c.in_err-what-in-Update.ensures.refused)

pub returns-in_err-what-in-Addition-clause-refused : goal.returns-in_err-what-in-Addition-clause-refused
returns-in_err-what-in-Addition-clause-refused c =
    let fields = fields_of c.args.fields.now in
    let kept : c.from_residual-in_err-what-in-Addition.result ≡ Err c.in_err-what-in-Addition.field-0.0 = search rules in
    rw (kept, c.in-Addition.is) (what_refused c.in_err-what-in-Addition.field-0.0 (moment_inside c.args.bounds (moment_of (field_of fields 1))) _ (addition_of fields) c.in_ok-time-in-Addition.ensures.said c.in_err-what-in-Addition.ensures.refused)

pub returns-in_err-what-in-Deletion-clause-refused : goal.returns-in_err-what-in-Deletion-clause-refused
returns-in_err-what-in-Deletion-clause-refused c =
    let fields = fields_of c.args.fields.now in
    let kept : c.from_residual-in_err-what-in-Deletion.result ≡ Err c.in_err-what-in-Deletion.field-0.0 = search rules in
    rw (kept, c.in-Deletion.is) (what_refused c.in_err-what-in-Deletion.field-0.0 (moment_inside c.args.bounds (moment_of (field_of fields 1))) _ (deletion_of fields) c.in_ok-time-in-Deletion.ensures.said c.in_err-what-in-Deletion.ensures.refused)
