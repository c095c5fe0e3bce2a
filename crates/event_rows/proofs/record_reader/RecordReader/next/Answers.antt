use Rattle.std.proofs.Common.{Bor, List, ℕ, Some, ◌∙◌, sym}
use Rattle.csv.specs.Records.{fields_of}
use Rattle.event_rows.proofs.Left.{not_false, reading-end, reading-more}
use Rattle.event_rows.proofs.record_reader.RecordReader.next.Goals as goal

pub invariant_of-self-2 : goal.invariant_of-self-2
invariant_of-self-2 c = λ more.
    let reading = c.self.invariant c.if-self.false in
    let reads = rw (not_false c.in-Ok.found more) at (c.in-Ok.ensures.reads reading.plain reading.ready) in
    (reading-more (λ (s : Bor (List ℕ)). Some s.now) c.self.inside.reader c.read_byte_record.new.self (fields_of c.read_byte_record.new.row) reading (c.in-Ok.ensures.ready reading.plain) reads).1

pub returns-clause-record : goal.returns-clause-record
returns-clause-record c = λ found.
    let reading = c.self.invariant c.if-self.false in
    let reads = rw found at (c.in-Ok.ensures.reads reading.plain reading.ready) in
    let left = (reading-more (λ (s : Bor (List ℕ)). Some s.now) c.self.inside.reader c.read_byte_record.new.self (fields_of c.read_byte_record.new.row) reading (c.in-Ok.ensures.ready reading.plain) reads).0 in
    sym c.self.view_is ∙ rw (c.if-self.false, found) left

pub returns-clause-end : goal.returns-clause-end
returns-clause-end c = λ found.
    let reading = c.self.invariant c.if-self.false in
    let reads = rw found at (c.in-Ok.ensures.reads reading.plain reading.ready) in
    let none = reading-end (λ (s : Bor (List ℕ)). Some s.now) c.self.inside.reader c.read_byte_record.new.self (fields_of c.read_byte_record.new.row) reading reads in
    sym c.self.view_is ∙ rw c.if-self.false none
