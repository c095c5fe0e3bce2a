use Rattle.std.proofs.Common.{◌≡◌, ℕ, Bor, List, Some, rules}
use Rattle.graph_model.specs.Reading.{records_of}
use Rattle.csv.specs.Reading.{source_of}
use Rattle.event_rows.specs.Left.{records_behind}
use Rattle.event_rows.proofs.Walked.{few_records}
use Rattle.event_rows.proofs.record_reader.RecordReader.new.Goals as goal

pub returns-clause-few : goal.returns-clause-few
returns-clause-few c =
    let all : records_behind c.from_reader-reader.result.state (source_of (λ (s : Bor (List ℕ)). Some s.now) c.from_reader-reader.result) ≡ records_of c.args.bytes.now = search rules in
    rw all (few_records c.args.bytes.now)
