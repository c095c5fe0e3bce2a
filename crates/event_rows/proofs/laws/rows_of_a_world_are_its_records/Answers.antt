use Rattle.event_rows.proofs.WorldRows.{world-back}
use Rattle.event_rows.proofs.laws.rows_of_a_world_are_its_records.Goals as goal

pub returns : goal.returns
returns c = world-back
