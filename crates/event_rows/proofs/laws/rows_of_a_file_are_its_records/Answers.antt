use Rattle.event_rows.proofs.ReadBack.{file-back}
use Rattle.event_rows.proofs.laws.rows_of_a_file_are_its_records.Goals as goal

pub returns : goal.returns
returns c = file-back
