use Rattle.csv.specs.Records.{fields_of}
use Rattle.event_rows.proofs.Texts.{text-field}
use Rattle.event_rows.proofs.fields.text_at.Goals as goal

pub unreachable-requires : goal.unreachable-requires
unreachable-requires c = c.in-Err.ensures.cases.0 (rw c.field.ensures (text-field (fields_of c.args.fields.now) c.args.i c.requires))
