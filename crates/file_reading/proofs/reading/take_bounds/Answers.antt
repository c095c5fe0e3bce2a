use Rattle.std.proofs.Common.{◌∙◌, ap, sym, subst}
use Rattle.graph_store.specs.Contents.{Contents}
use Rattle.file_reading.specs.Rows.{IsTimeline}
use Rattle.file_reading.proofs.Timelines.{fresh_rows, fresh_timeline}
use Rattle.file_reading.proofs.reading.take_bounds.Goals as goal

pub returns-clause-rows : goal.returns-clause-rows
returns-clause-rows c =
    let none = fresh_rows c.args.read.now.store c.args.read.now.timeline c.requires.fresh.0 c.requires.rows in
    subst (IsTimeline c.replace.new.dest) (sym none)
    (fresh_timeline c.replace.new.dest (ap (λ (s : Contents). s.accepted) c.replace.ensures.after ∙ c.new-fresh.ensures.accepted))
