use Rattle.event_rows.proofs.RowsSay.{rows-said}
use Rattle.event_rows.proofs.laws.rows_say_types_and_events.Goals as goal

pub returns : goal.returns
returns c = rows-said
