-- Inner: what contracts see of a real sink.
use Rattle.std.specs.Prelude.{ℕ}
use Rattle.real_files.specs.declared.sink.RealSink.{RealSink}

-- how many appends failed
abbrev pub faults_of : {W : Type 0} → RealSink W → ℕ
faults_of s = s.faults

-- what it writes to
abbrev pub writer_of : {W : Type 0} → RealSink W → W
writer_of s = s.writer
