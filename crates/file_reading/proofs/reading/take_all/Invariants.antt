use Rattle.std.proofs.Common.{◌≡◌, ◌≤◌, ◌<◌, ◌+◌, length}
use Rattle.graph_model.specs.Reading.{read_on, reading}
use Rattle.file_reading.specs.StoreReading.{IsFresh, reading_of}
use Rattle.file_reading.specs.Costs.{paid_steps}
use Rattle.file_reading.specs.Rows.{IsTimeline}
use Rattle.file_reading.proofs.reading.take_all.Given as goal

abbrev pub invariant-loop-row : goal.invariant-loop-row
invariant-loop-row g l = record {
  all : read_on l.fn.read.store.model (reading_of l.read) l.number l.reader ≡ reading l.fn.read.store.model l.bytes;
  model : l.read.store.model ≡ l.fn.read.store.model;
  fresh : l.number ≡ 1 → IsFresh l.read.store;
  rows : IsTimeline l.read.store l.read.timeline;
  few : l.number + length l.reader ≤ length l.bytes + 1;
  some : 0 < l.number;
  paid : l.steps ≤ l.fn.steps + paid_steps (length l.read.store.accepted);
}

abbrev pub decreases-loop-row : goal.decreases-loop-row
decreases-loop-row g l = length l.reader
