-- Inner: what contracts see of a sink in memory.
use Rattle.std.specs.Prelude.{ℕ, List, Option}
use Rattle.outside_memory.specs.declared.fail.CallKind.TheVariants.{Append}
use Rattle.outside_memory.specs.declared.fail.Fail.{Fail}
use Rattle.outside_memory.specs.declared.sink.MemSink.{MemSink}
use Rattle.outside_memory.specs.Failures.{failure_of}
use Rattle.outside_memory.specs.Output.{told_bytes}
use Rattle.outside.specs.Told.{next_count, told_if}

-- the bytes that the sink holds, if it tells them
abbrev pub held_of : MemSink → Option (List ℕ)
held_of s = told_bytes s.output

-- the lengths of its appends, if it tells them
abbrev pub lengths_of : MemSink → Option (List ℕ)
lengths_of s = told_if s.output.telling s.lengths.items

-- how many faults it had
abbrev pub faults_of : MemSink → ℕ
faults_of s = s.faults

-- what a sink in memory goes by: the calls that are to fail, and how many appends were asked of it
pub record SinkSchedule : Type 0 where
  pub fails : List Fail
  pub appends : ℕ

-- what the sink goes by
abbrev pub sink_schedule : MemSink → SinkSchedule
sink_schedule s = record { fails = s.fails.items; appends = s.appends }

-- how many bytes still go out by the next append, if it is to fail
abbrev pub append_failure : SinkSchedule → Option ℕ
append_failure s = failure_of s.fails Append (next_count s.appends)
