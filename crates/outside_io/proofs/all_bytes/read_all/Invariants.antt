use Rattle.std.proofs.Common.{◌≡◌, ◌≤◌, ◌+◌, ◌%◌, ◌^◌, length, option_map, ◌-◌}
use Rattle.outside_io.specs.Outside.{has_bytes}
use Rattle.outside_io.proofs.Reading.{Reads}
use Rattle.outside_io.proofs.all_bytes.read_all.Given as goal

abbrev pub invariant-loop-n : goal.invariant-loop-n
invariant-loop-n g l = record {
  reads : Reads (g.I.Inputs.files l.fn.inputs) l.name l.bytes.items (g.I.Inputs.left l.inputs);
  given : g.I.Inputs.given l.inputs ≡ length l.bytes.items;
  within : length l.bytes.items ≤ l.max;
  files : g.I.Inputs.files l.inputs ≡ g.I.Inputs.files l.fn.inputs;
  faults : g.I.Inputs.faults l.fn.inputs ≤ g.I.Inputs.faults l.inputs;
  faults_before : g.I.Inputs.faults_before l.inputs ≡ g.I.Inputs.faults l.fn.inputs;
  begun : g.I.Inputs.begun l.inputs ≡ (g.I.Inputs.begun l.fn.inputs + 1) % 2 ^ 64;
  had_left : g.I.Inputs.had_left l.inputs ≡ option_map has_bytes (g.I.Inputs.left l.fn.inputs);
}

abbrev pub decreases-loop-n : goal.decreases-loop-n
decreases-loop-n g l = l.max - length l.bytes.items
