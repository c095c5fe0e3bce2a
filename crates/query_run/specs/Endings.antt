-- How a status is told outside.
use Rattle.std.specs.Prelude.{ℕ, List, codes, Option, None, Some}
use Rattle.query_run.specs.declared.top.Which.TheVariants.{Events, Script}
use Rattle.query_run.specs.declared.top.Status.{Status}
use Rattle.query_run.specs.declared.top.Status.TheVariants.{Done, DoneWithRefusals, Usage, Memory, InputFault, OutputFault, TooLong}

-- the number that the process ends with
abbrev pub exit_number_of : Status → ℕ
exit_number_of Done = 0
exit_number_of DoneWithRefusals = 1
exit_number_of Usage = 2
exit_number_of Memory = 3
exit_number_of (InputFault which) = 4
exit_number_of OutputFault = 5
exit_number_of (TooLong which) = 6

-- the line on standard error, where the output is not whole
abbrev pub fault_line_of : Status → Option (List ℕ)
fault_line_of Done = None
fault_line_of DoneWithRefusals = None
fault_line_of Usage =
    Some (codes "usage: query_cli --model event|persistent --events PATH --script PATH")
fault_line_of Memory = Some (codes "out of memory")
fault_line_of (InputFault Events) = Some (codes "cannot read the events file")
fault_line_of (InputFault Script) = Some (codes "cannot read the script")
fault_line_of OutputFault = Some (codes "cannot write the output")
fault_line_of (TooLong Events) = Some (codes "the events file is too long")
fault_line_of (TooLong Script) = Some (codes "the script is too long")
