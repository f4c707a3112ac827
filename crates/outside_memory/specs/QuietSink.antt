-- Inner: what contracts see of a quiet sink.
use Rattle.std.specs.Prelude.{ℕ, List, Option}
use Rattle.outside_memory.specs.declared.quiet_sink.QuietSink.{QuietSink}
use Rattle.outside_memory.specs.Output.{told_bytes}

-- the bytes that the sink holds, if it tells them
abbrev pub held_of : QuietSink → Option (List ℕ)
held_of s = told_bytes s.output

-- how many bytes it still has room for
abbrev pub room_of : QuietSink → ℕ
room_of s = s.output.left

-- how many faults it had: none
abbrev pub faults_of : QuietSink → ℕ
faults_of s = 0
