-- How the calls and the faults of an object in memory are counted.
use Rattle.std.specs.Prelude.{Bool, Contains, if◌then◌else◌}
use Rattle.outside_io.specs.declared.call_list.CallCount.{CallCount}
use Rattle.outside_io.specs.Outside.{capped_sum}

-- the number of the next call is among the failing ones
abbrev pub FailsNext : CallCount → Type 0
FailsNext count = Contains count.failing (capped_sum count.calls 1)

-- the counts after a call, and after its fault if it had one
abbrev pub count_after : CallCount → Bool → CallCount
count_after count fault = record { failing = count.failing; calls = capped_sum count.calls 1; faults = if fault then capped_sum count.faults 1 else count.faults }
