-- What files and a sink in memory say of their calls.
use Rattle.std.specs.Prelude.{ℕ}
use Rattle.outside_io.specs.declared.call_list.CallCount.{CallCount}
use Rattle.outside_io.specs.declared.in_memory.MemoryInputs.{MemoryInputs}
use Rattle.outside_io.specs.declared.in_memory.MemorySink.{MemorySink}

-- the calls of the inputs: which of them fail, how many there were, and how many faults
abbrev pub input_calls : MemoryInputs → CallCount
input_calls inputs = inputs.count

-- the most bytes that one read gives
abbrev pub most_given : MemoryInputs → ℕ
most_given inputs = inputs.most

-- the calls of the sink
abbrev pub sink_calls : MemorySink → CallCount
sink_calls sink = sink.count

-- the most bytes that one write takes
abbrev pub most_taken : MemorySink → ℕ
most_taken sink = sink.most
