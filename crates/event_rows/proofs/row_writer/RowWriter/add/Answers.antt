use Rattle.std.proofs.Common.{◌≢◌}
use Rattle.csv.specs.Records.{fields_of}
use Rattle.csv.specs.declared.writer.QuoteStyle.TheVariants as style
use Rattle.event_rows.proofs.AnyLengths.{row-any_lengths}
use Rattle.event_rows.proofs.row_writer.RowWriter.add.Goals as goal

pub returns-clause-ok : goal.returns-clause-ok
returns-clause-ok c =
    let writing = c.self.invariant c.if-self.false in
    let plain : c.self.inside.writer.cfg.style ≢ style.NonNumeric = rw writing.setup (λ e. cc e) in
    let before = rw c.if-self.false at c.self.view_is in
    rw (writing.setup, before, row-any_lengths (fields_of c.args.row.now)) at (c.in-Ok.ensures.bytes writing.ended writing.clean plain)
