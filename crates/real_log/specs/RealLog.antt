-- Inner: what contracts see of the log of a run.
use Rattle.std.specs.Prelude.{◌≡◌, ◌⊎◌, ℕ, Bool, true, false, List, Option}
use Rattle.std.specs.Io.KnownBytes.{Appends}
use Rattle.durable_log.specs.Appending.{IsDone}
use Rattle.line_log.specs.Kept.{HasFailed, line_faults}
use Rattle.line_log.specs.Line.{is_line}
use Rattle.outside.specs.Told.{Rose}
use Rattle.real_files.specs.declared.sink.RealSink.{RealSink}
use Rattle.real_files.specs.RealSink.{writer_of}
use Rattle.real_files.specs.RealSink as stream
use Rattle.real_log.specs.declared.log.RealLog.{RealLog}
use Rattle.real_log.specs.declared.log.RealLog.TheVariants.{Durable, Stream}

-- whether it is a file
abbrev pub is_durable : {W R D : Type 0} → RealLog W R D → Bool
is_durable (Stream sink) = false
is_durable (Durable log echo) = true

-- how many lines of a file failed to be written beside it
abbrev pub dropped_of : {W R D : Type 0} → RealLog W R D → ℕ
dropped_of (Stream sink) = 0
dropped_of (Durable log echo) = stream.faults_of echo

-- how many appends failed, of the log that it is
abbrev pub faults_of : {W R D : Type 0} → RealLog W R D → ℕ
faults_of (Stream sink) = stream.faults_of sink
faults_of (Durable log echo) = line_faults log

-- the writer beside a file has the bytes after all others, where it tells, or failed
abbrev pub HasEchoed : {W : Type 0} → (W → Option (List ℕ)) → List ℕ → RealSink W → RealSink W → Type 0
HasEchoed contents bytes before after =
    Appends (contents (writer_of before)) (contents (writer_of after)) bytes
    ⊎ Rose (stream.faults_of before) (stream.faults_of after)

-- the log stays what it is and took the bytes: its writer has them after all others, where it tells;
-- or they are one line, which is a record of its file, and of the writer beside it
abbrev pub HasTaken : {W R D : Type 0} → (W → Option (List ℕ)) → List ℕ → RealLog W R D → RealLog W R D → Type 0
HasTaken contents bytes (Stream before) (Stream after) =
    Appends (contents (writer_of before)) (contents (writer_of after)) bytes
HasTaken contents bytes (Durable before echo) (Durable after echoed) =
    (is_line bytes ≡ true) × IsDone bytes before.log after.log × HasEchoed contents bytes echo echoed
HasTaken contents bytes (Stream before) (Durable after echoed) = ⊥
HasTaken contents bytes (Durable before echo) (Stream after) = ⊥

-- the log stays what it is and failed, a file for one of its causes, and the writer beside it has nothing more
abbrev pub HasMissed : {W R D : Type 0} → List ℕ → RealLog W R D → RealLog W R D → Type 0
HasMissed bytes (Stream before) (Stream after) = Unit {0}
HasMissed bytes (Durable before echo) (Durable after echoed) = HasFailed bytes before after × (echoed ≡ echo)
HasMissed bytes (Stream before) (Durable after echoed) = ⊥
HasMissed bytes (Durable before echo) (Stream after) = ⊥
